-- Attributes without prefixes: none declares a namespace, and their order is that of their names.
use Rattle.std.proofs.Common.{◌≡◌, ◌≢◌, ℕ, Bool, true, false, not, cond, List, [], ◌∷◌, map, filter, codes, Option, Some, None, unwrap_or, IsTrue, refl, ap, ◌∙◌}
use Rattle.std.specs.List.{AllByRecursion, cons_option}
use Rattle.std.specs.Option.{option_map, is_some}
use Rattle.std.specs.Str.{bytes_eq}
use Rattle.std.specs.Ordering.{is_le}
use Rattle.std.specs.declared.cmp.Ordering.{Ordering}
use Rattle.std.proofs.lemmas.Slice.Eq.{bytes_eq-Decides}
use Rattle.std.proofs.lemmas.Cmp.{nat_list_cmp_total, on_total}
use Rattle.xml_spec.specs.Bytes.{is_empty}
use Rattle.xml_spec.specs.Characters.{at_colon, prefix_of, local_of}
use Rattle.xml_spec.specs.Tree.{Attribute}
use Rattle.xml_spec.specs.Names.{Scope, namespace_of, declared_prefix, declarations, proper_attributes, attribute_name}
use Rattle.xml_spec.specs.Canonical.{byte_order, expanded_order, inserted, sorted}
use Rattle.xml_spec.specs.Laws.{IsNonDescending}
use Rattle.xml_spec.proofs.Sorting.{each_inserted, sorted_is_non_descending}
use Rattle.element_make.specs.Made.{IsMadeAttribute}
use Rattle.element_make.specs.Writing.{by_name}

pub no_prefix : (name : List ℕ) → at_colon name ≡ None → prefix_of name ≡ []
no_prefix name none = ap (λ (o : Option (List ℕ × List ℕ)). unwrap_or (option_map (λ parts. parts.0) o) []) none

all_local : (name : List ℕ) → at_colon name ≡ None → local_of name ≡ name
all_local name none = ap (λ (o : Option (List ℕ × List ℕ)). unwrap_or (option_map (λ parts. parts.1) o) name) none

other_bytes : (a b : List ℕ) → a ≢ b → bytes_eq a b ≡ false
other_bytes a b other = which (bytes_eq a b) refl
  where
    which : (t : Bool) → bytes_eq a b ≡ t → t ≡ false
    which true e = absurd (other ((bytes_eq-Decides a b).0 e))
    which false e = refl

declares_none : (a : Attribute) → IsMadeAttribute a → declared_prefix a.name ≡ None
declares_none a made =
    ap (λ t. cond t (Some []) (cond (bytes_eq (prefix_of a.name) (codes "xmlns")) (Some (local_of a.name)) None))
    (other_bytes a.name (codes "xmlns") made.no_declaration)
    ∙ ap (λ p. cond (bytes_eq p (codes "xmlns")) (Some (local_of a.name)) None) (no_prefix a.name made.name.1)

pub all_proper : (attributes : List Attribute) → AllByRecursion IsMadeAttribute attributes → proper_attributes attributes ≡ attributes
all_proper [] made = refl
all_proper (a ∷ attributes) made =
    ap (λ (o : Option (List ℕ)). cond (not (is_some o)) (a ∷ proper_attributes attributes) (proper_attributes attributes)) (declares_none a made.0)
    ∙ ap (λ xs. a ∷ xs) (all_proper attributes made.1)

pub no_declarations : (attributes : List Attribute) → AllByRecursion IsMadeAttribute attributes → declarations attributes ≡ []
no_declarations [] made = refl
no_declarations (a ∷ attributes) made =
    ap (λ o. cons_option o (declarations attributes)) (ap (option_map (λ prefix. record { prefix = prefix; namespace = a.value })) (declares_none a made.0))
    ∙ no_declarations attributes made.1

-- the prefixes that the names of attributes use
abbrev pub non_empty : List Attribute → List (List ℕ)
non_empty attributes = filter (λ prefix. not (is_empty prefix)) (map (λ a. prefix_of a.name) attributes)

pub no_prefixes : (attributes : List Attribute) → AllByRecursion IsMadeAttribute attributes → non_empty attributes ≡ []
no_prefixes [] made = refl
no_prefixes (a ∷ attributes) made =
    ap (λ p. cond (not (is_empty p)) (p ∷ non_empty attributes) (non_empty attributes)) (no_prefix a.name made.0.name.1)
    ∙ no_prefixes attributes made.1

pub each_by_name : (P : Attribute → Type 0) (attributes : List Attribute) → AllByRecursion P attributes → AllByRecursion P (by_name attributes)
each_by_name P [] all = tt
each_by_name P (a ∷ attributes) all =
    each_inserted (λ (x : Attribute) y. byte_order x.name y.name) P a (by_name attributes) all.0 (each_by_name P attributes all.1)

-- the name of an attribute is in no namespace
pub in_no_namespace : (scope : Scope) (name : List ℕ) → at_colon name ≡ None → attribute_name scope name ≡ record { namespace = []; local = name }
in_no_namespace scope name none =
    ap (λ p. record { namespace = cond (is_empty p) [] (namespace_of scope p); local = local_of name }) (no_prefix name none)
    ∙ ap (λ l. record { namespace = []; local = l }) (all_local name none)

-- a list that is in order by names is in the order of expanded names too
module _ (scope : Scope) where
  abbrev order : Attribute → Attribute → Ordering
  order a b = expanded_order (attribute_name scope a.name) (attribute_name scope b.name)

  same_order : (a b : Attribute) → at_colon a.name ≡ None → at_colon b.name ≡ None → order a b ≡ byte_order a.name b.name
  same_order a b one other =
      ap (λ n. expanded_order n (attribute_name scope b.name)) (in_no_namespace scope a.name one)
      ∙ ap (λ n. expanded_order (record { namespace = []; local = a.name }) n) (in_no_namespace scope b.name other)

  first_stays : (a : Attribute) (others : List Attribute) → IsMadeAttribute a → AllByRecursion IsMadeAttribute others →
      AllByRecursion (λ b. IsTrue (is_le (byte_order a.name b.name))) others → inserted order a others ≡ a ∷ others
  first_stays a [] one made up = refl
  first_stays a (b ∷ others) one made up =
      ap (λ t. cond t (a ∷ b ∷ others) (b ∷ inserted order a others)) (ap is_le (same_order a b one.name.1 made.0.name.1) ∙ up.0)

  stays : (attributes : List Attribute) → AllByRecursion IsMadeAttribute attributes →
      IsNonDescending (λ (a : Attribute) b. byte_order a.name b.name) attributes → sorted order attributes ≡ attributes
  stays [] made up = refl
  stays (a ∷ attributes) made up =
      ap (inserted order a) (stays attributes made.1 up.1) ∙ first_stays a attributes made.0 made.1 up.0

  pub by_name_stays : (attributes : List Attribute) → AllByRecursion IsMadeAttribute attributes → sorted order (by_name attributes) ≡ by_name attributes
  by_name_stays attributes made =
      stays (by_name attributes) (each_by_name IsMadeAttribute attributes made)
      (sorted_is_non_descending (λ (a : Attribute) b. byte_order a.name b.name) (on_total (λ (a : Attribute). a.name) nat_list_cmp_total) attributes)
