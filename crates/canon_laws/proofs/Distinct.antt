-- What the elements of a list have stays distinct when the list is filtered or sorted.
use Rattle.std.proofs.Common.{◌≡◌, ◌≢◌, ℕ, Bool, true, false, cond, List, [], ◌∷◌, ◌++◌, map, filter, IsTrue, sym, ◌∙◌}
use Rattle.std.specs.Prelude.{⊤}
use Rattle.std.specs.List.{AllByRecursion}
use Rattle.std.specs.declared.cmp.Ordering.{Ordering}
use Rattle.std.specs.declared.cmp.Ordering.TheVariants.{Less, Equal, Greater}
use Rattle.std.specs.Ordering.{is_lt, is_le, is_eq}
use Rattle.std.proofs.lemmas.Map.Text.{is_eq-slice_cmp}
use Rattle.std.proofs.lemmas.Slice.Eq.{bytes_eq-Decides}
use Rattle.xml_spec.specs.Names.{AreDistinct}
use Rattle.xml_spec.specs.Canonical.{byte_order, inserted, sorted}
use Rattle.xml_spec.specs.Laws.{IsAscending}
use Rattle.xml_spec.proofs.Sorting.{each_weaker, each_inserted}
use Rattle.canon_laws.proofs.Contents.{all_append}
use Rattle.canon_laws.proofs.Scopes.{all_sorted, all_filtered}

module _ {X Y : Type 0} (value : X → Y) where
  -- no two of the list have one value
  abbrev pub AreApart : List X → Type 0
  AreApart [] = ⊤
  AreApart (x ∷ xs) = AllByRecursion (λ y. value x ≢ value y) xs × AreApart xs

  pub all_unmapped : (P : Y → Type 0) (xs : List X) → AllByRecursion P (map value xs) → AllByRecursion (λ x. P (value x)) xs
  all_unmapped P [] h = tt
  all_unmapped P (x ∷ xs) h = (h.0, all_unmapped P xs h.1)

  pub all_mapped : (P : Y → Type 0) (xs : List X) → AllByRecursion (λ x. P (value x)) xs → AllByRecursion P (map value xs)
  all_mapped P [] h = tt
  all_mapped P (x ∷ xs) h = (h.0, all_mapped P xs h.1)

  pub apart : (xs : List X) → AreDistinct (map value xs) → AreApart xs
  apart [] h = tt
  apart (x ∷ xs) h = (all_unmapped (λ y. value x ≢ y) xs h.0, apart xs h.1)

  pub distinct : (xs : List X) → AreApart xs → AreDistinct (map value xs)
  distinct [] h = tt
  distinct (x ∷ xs) h = (all_mapped (λ y. value x ≢ y) xs h.0, distinct xs h.1)

  pub apart_filtered : (test : X → Bool) (xs : List X) → AreApart xs → AreApart (filter test xs)
  apart_filtered test [] h = tt
  apart_filtered test (x ∷ xs) h = which (test x) (apart_filtered test xs h.1)
    where
      which : (b : Bool) → AreApart (filter test xs) → AreApart (cond b (x ∷ filter test xs) (filter test xs))
      which true later = (all_filtered (λ y. value x ≢ value y) test xs h.0, later)
      which false later = later

  apart_inserted : (order : X → X → Ordering) (x : X) (xs : List X) → AllByRecursion (λ y. value x ≢ value y) xs → AreApart xs →
      AreApart (inserted order x xs)
  apart_inserted order x [] h k = (tt, tt)
  apart_inserted order x (y ∷ ys) h k = which (is_le (order x y)) (apart_inserted order x ys h.1 k.1)
    where
      which : (b : Bool) → AreApart (inserted order x ys) → AreApart (cond b (x ∷ y ∷ ys) (y ∷ inserted order x ys))
      which true later = (h, k)
      which false later = (each_inserted order (λ z. value y ≢ value z) x ys (λ e. h.0 (sym e)) k.0, later)

  pub apart_sorted : (order : X → X → Ordering) (xs : List X) → AreApart xs → AreApart (sorted order xs)
  apart_sorted order [] h = tt
  apart_sorted order (x ∷ xs) h =
      apart_inserted order x (sorted order xs) (all_sorted (λ y. value x ≢ value y) order xs h.0) (apart_sorted order xs h.1)

  pub apart_append : (xs ys : List X) → AreApart xs → AreApart ys → AllByRecursion (λ x. AllByRecursion (λ y. value x ≢ value y) ys) xs →
      AreApart (xs ++ ys)
  apart_append [] ys h k between = k
  apart_append (x ∷ xs) ys h k between =
      (all_append (λ y. value x ≢ value y) xs ys h.0 between.0, apart_append xs ys h.1 k between.1)

-- what is below is another
below_differs : (p q : List ℕ) → IsTrue (is_lt (byte_order p q)) → p ≢ q
below_differs p q h e = which (byte_order p q) h (is_eq-slice_cmp p q ∙ (bytes_eq-Decides p q).1 e)
  where
    which : (o : Ordering) → is_lt o ≡ true → is_eq o ≡ true → ⊥
    which Less below same = let clash : false ≡ true = same in cc
    which Equal below same = let clash : false ≡ true = below in cc
    which Greater below same = let clash : false ≡ true = below in cc

pub ascending_distinct : (ps : List (List ℕ)) → IsAscending byte_order ps → AreDistinct ps
ascending_distinct [] h = tt
ascending_distinct (p ∷ ps) h =
    (each_weaker (λ q. IsTrue (is_lt (byte_order p q))) (λ q. p ≢ q) (λ q. below_differs p q) ps h.0, ascending_distinct ps h.1)
