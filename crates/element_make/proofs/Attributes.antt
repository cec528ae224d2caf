-- The attributes of an element: looked for, and in order.
use Rattle.std.proofs.Common.{◌≡◌, ℕ, ◌+◌, ◌<◌, ◌≤◌, Bool, true, false, cond, List, ◌∷◌, ◌++◌, length, drop, get_or, Some, None, string_bytes, slice_index_or, refl, sym, ap, ◌∙◌, subst}
use Rattle.std.specs.List.{insert, flat_map}
use Rattle.std.specs.Str.{bytes_eq}
use Rattle.std.specs.Ordering.{is_le}
use Rattle.std.proofs.lemmas.List.{get_or_default}
use Rattle.xml_spec.specs.Tree.{Attribute}
use Rattle.xml_spec.specs.Canonical.{byte_order, inserted, print_attribute}
use Rattle.canon_octets.specs.Places.{IsAppending, AppendsPart}
use Rattle.canon_octets.proofs.Underway.{IsUnderway, further, broken_off}
use Rattle.element_make.specs.Made.{value_of}
use Rattle.element_make.specs.Views.{attribute_view, attribute_views, lent_view, lent_views}
use Rattle.element_make.specs.Writing.{by_name}
use Rattle.element_make.specs.declared.piece.Attribute as declared
use Rattle.element_make.specs.declared.tag.Lent.{Lent}
use Rattle.element_make.proofs.Lists.{next_shown, none_shown, map_inserted, insert_is_inserted}

module _ (name : List ℕ) (kept : List declared.Attribute) (i : ℕ) where
  looked_at : (a : declared.Attribute) → i < length kept → a ≡ get_or kept i a → (b : Bool) → bytes_eq a.name.now name ≡ b →
      value_of name (drop i (attribute_views kept)) ≡ cond b (Some (string_bytes a.value)) (value_of name (drop (i + 1) (attribute_views kept)))
  looked_at a h is b e =
      ap (value_of name) (next_shown attribute_view kept i a h is)
      ∙ ap (λ t. cond t (Some (string_bytes a.value)) (value_of name (drop (i + 1) (attribute_views kept)))) e

  pub value_passed : (a : declared.Attribute) → i < length kept → a ≡ get_or kept i a → bytes_eq a.name.now name ≡ false →
      value_of name (drop i (attribute_views kept)) ≡ value_of name (drop (i + 1) (attribute_views kept))
  value_passed a h is e = looked_at a h is false e

  pub value_found : (a : declared.Attribute) → i < length kept → a ≡ get_or kept i a → bytes_eq a.name.now name ≡ true →
      value_of name (drop i (attribute_views kept)) ≡ Some (string_bytes a.value)
  value_found a h is e = looked_at a h is true e

  pub no_value : length kept ≤ i → value_of name (drop i (attribute_views kept)) ≡ None
  no_value h = ap (value_of name) (none_shown attribute_view kept i h)

-- one more attribute in its place
pub one_more_in_order : (kept : List declared.Attribute) (i next : ℕ) (a : declared.Attribute) (lent : Lent) (order lent_order now : List Lent) (place : ℕ) →
    next ≡ i + 1 → i < length kept → a ≡ get_or kept i a → lent_view lent ≡ attribute_view a →
    lent_views order ≡ by_name (drop next (attribute_views kept)) → lent_order ≡ order → place ≤ length lent_order →
    ((k : ℕ) → (d : Lent) → k < place → is_le (byte_order lent.name.now (slice_index_or lent_order k d).name.now) ≡ false) →
    ((d : Lent) → place < length lent_order → is_le (byte_order lent.name.now (slice_index_or lent_order place d).name.now) ≡ true) →
    now ≡ insert order place lent → lent_views now ≡ by_name (drop i (attribute_views kept))
one_more_in_order kept i next a lent order lent_order now place on h is shown so_far same within above at put =
    ap lent_views
    (put ∙ ap (λ xs. insert xs place lent) (sym same)
    ∙ insert_is_inserted (λ (x : Lent) y. byte_order x.name.now y.name.now) lent lent_order place lent within (λ k b. above k lent b) (at lent)
    ∙ ap (inserted (λ (x : Lent) y. byte_order x.name.now y.name.now) lent) same)
    ∙ map_inserted lent_view (λ (x : Lent) y. byte_order x.name.now y.name.now) (λ (x : Attribute) y. byte_order x.name y.name) (λ x y. refl) lent order
    ∙ ap (inserted (λ (x : Attribute) y. byte_order x.name y.name) (lent_view lent)) (so_far ∙ ap (λ n. by_name (drop n (attribute_views kept))) on)
    ∙ ap (λ v. by_name (v ∷ drop (i + 1) (attribute_views kept))) shown
    ∙ ap by_name (sym (next_shown attribute_view kept i a h is))

abbrev pub print_of : Attribute → List ℕ
print_of a = print_attribute a.name a.value

-- what is written of an attribute, and of those behind it
next_written : (kept : List Lent) (i : ℕ) (d : Lent) → i < length kept →
    flat_map print_of (drop i (lent_views kept)) ≡ print_of (lent_view (get_or kept i d)) ++ flat_map print_of (drop (i + 1) (lent_views kept))
next_written kept i d h =
    ap (flat_map print_of) (next_shown lent_view kept i (get_or kept i d) h (get_or_default kept i d (get_or kept i d) h))

module _ {S : Type 0} {R : S → S → List ℕ → Type 0} (law : IsAppending R) (kept : List Lent) (start now next : S) (i : ℕ) (d : Lent) where
  -- one more attribute is written
  pub one_more_put : i < length kept → IsUnderway R start now (flat_map print_of (drop i (lent_views kept))) (flat_map print_of (lent_views kept)) →
      R now next (print_of (lent_view (get_or kept i d))) →
      IsUnderway R start next (flat_map print_of (drop (i + 1) (lent_views kept))) (flat_map print_of (lent_views kept))
  one_more_put h so_far put =
      further law start now next (print_of (lent_view (get_or kept i d))) (flat_map print_of (drop (i + 1) (lent_views kept))) _ _ (next_written kept i d h) so_far put

  -- a part of one
  pub one_broken_off : (written : List Attribute) → lent_views kept ≡ written → i < length kept →
      IsUnderway R start now (flat_map print_of (drop i (lent_views kept))) (flat_map print_of (lent_views kept)) →
      AppendsPart R now next (print_of (lent_view (get_or kept i d))) → AppendsPart R start next (flat_map print_of written)
  one_broken_off written are h so_far part =
      subst (λ (xs : List Attribute). AppendsPart R start next (flat_map print_of xs)) are
      (broken_off law start now next (print_of (lent_view (get_or kept i d))) (flat_map print_of (drop (i + 1) (lent_views kept))) _ _ (next_written kept i d h) so_far part)
