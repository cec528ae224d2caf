-- The open elements, of which the innermost is kept last.
use Rattle.std.proofs.Common.{◌≡◌, ℕ, zero, suc, ◌-◌, List, [], ◌∷◌, ◌++◌, length, map, drop, reverse, Some, None, refl, sym, ap, ◌∙◌, arith}
use Rattle.std.specs.List.{slice_get, flat_map}
use Rattle.std.proofs.lemmas.List.{map-append, reverse-append}
use Rattle.element_make.specs.Views.{open_view, open_views}
use Rattle.element_make.specs.Writing.{inside_of, nothing_declared, end_tag, innermost_end}
use Rattle.element_make.specs.Writing as writing
use Rattle.element_make.specs.declared.tag.Open.{Open}

behind : {X : Type 0} (y : X) (xs : List X) (x : X) → ((front : List X) × (xs ≡ front ++ x ∷ [])) →
    (front : List X) × (y ∷ xs ≡ front ++ x ∷ [])
behind y xs x split = (y ∷ split.0, ap (λ ys. y ∷ ys) split.1)

last_of : {X : Type 0} (xs : List X) (n : ℕ) (x : X) → n ≡ length xs - 1 → slice_get xs n ≡ Some x →
    (front : List X) × (xs ≡ front ++ x ∷ [])
last_of [] n x at is = absurd (let clash : None ≡ Some x = is in cc)
last_of (y ∷ []) zero x at is = let same : y ≡ x = cc in ([], ap (λ z. z ∷ []) same)
last_of (y ∷ []) (suc n) x at is = absurd (omega arith)
last_of (y ∷ z ∷ zs) zero x at is = absurd (omega arith)
last_of (y ∷ z ∷ zs) (suc n) x at is =
    behind y (z ∷ zs) x (last_of (z ∷ zs) n x (omega arith) is)

pub none_last : {X : Type 0} (xs : List X) (n : ℕ) → n ≡ length xs - 1 → slice_get xs n ≡ None → xs ≡ []
none_last [] n at is = refl
none_last (y ∷ []) zero at is = absurd (let clash : Some y ≡ None = is in cc)
none_last (y ∷ []) (suc n) at is = absurd (omega arith)
none_last (y ∷ z ∷ zs) zero at is = absurd (omega arith)
none_last (y ∷ z ∷ zs) (suc n) at is = absurd (let clash : z ∷ zs ≡ [] = none_last (z ∷ zs) n (omega arith) is in cc)

open_views_more : (kept : List Open) (element : Open) → open_views (kept ++ element ∷ []) ≡ open_view element ∷ open_views kept
open_views_more kept element =
    ap reverse (map-append open_view kept (element ∷ [])) ∙ reverse-append (map open_view kept) (open_view element ∷ [])

pub inside_last : (kept : List Open) (element : Open) → Some element ≡ slice_get kept (length kept - 1) →
    element.inside ≡ inside_of (open_views kept)
inside_last kept element is =
    let split = last_of kept (length kept - 1) element refl (sym is) in
    sym (ap (λ xs. inside_of (open_views xs)) split.1 ∙ ap inside_of (open_views_more split.0 element))

pub inside_none : (kept : List Open) → None ≡ slice_get kept (length kept - 1) → nothing_declared ≡ inside_of (open_views kept)
inside_none kept is = sym (ap (λ xs. inside_of (open_views xs)) (none_last kept (length kept - 1) refl (sym is)))

-- the end tag of the element that is kept last
pub innermost_last : (kept front : List Open) (element : Open) → kept ≡ front ++ element ∷ [] →
    end_tag (open_view element) ≡ innermost_end (open_views kept)
innermost_last kept front element is = sym (ap (λ xs. innermost_end (open_views xs)) is ∙ ap innermost_end (open_views_more front element))

-- the end tags of all open elements
pub ends_written : (elements : List writing.Open) → flat_map end_tag elements ≡ innermost_end elements ++ flat_map end_tag (drop 1 elements)
ends_written [] = refl
ends_written (element ∷ elements) = refl
