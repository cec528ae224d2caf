-- What is looked up in a list where only some of its elements count.
use Rattle.std.proofs.Common.{◌≡◌, Bool, true, false, ◌||◌, cond, List, [], ◌∷◌, Some, filter, find, refl, sym, ap, ◌∙◌, inl, inr}
use Rattle.std.specs.List.{list_any}
use Rattle.std.proofs.lemmas.Bool.{cases_Bool, false≢true, false_from_ne_true}

-- what a list answers where only those that pass a test count
module _ {X : Type 0} (test counts : X → Bool) (only : (x : X) → test x ≡ true → counts x ≡ true) where
  fails : (x : X) → counts x ≡ false → test x ≡ false
  fails x none = false_from_ne_true (test x) (λ passes. false≢true (sym none ∙ only x passes))

  pub find_counted : (xs : List X) → find test (filter counts xs) ≡ find test xs
  find_counted [] = refl
  find_counted (x ∷ xs) =
      elim (cases_Bool (counts x)) [
        | inl one ↦ rw one (ap (cond (test x) (Some x)) (find_counted xs))
        | inr none ↦ rw (none, fails x none) (find_counted xs)
      ]

  pub any_counted : (xs : List X) → list_any test (filter counts xs) ≡ list_any test xs
  any_counted [] = refl
  any_counted (x ∷ xs) =
      elim (cases_Bool (counts x)) [
        | inl one ↦ rw one (ap (λ b. test x || b) (any_counted xs))
        | inr none ↦ rw (none, fails x none) (any_counted xs)
      ]

  pub filter_counted : (xs : List X) → filter test (filter counts xs) ≡ filter test xs
  filter_counted [] = refl
  filter_counted (x ∷ xs) =
      elim (cases_Bool (counts x)) [
        | inl one ↦ rw one (ap (λ rest. cond (test x) (x ∷ rest) rest) (filter_counted xs))
        | inr none ↦ rw (none, fails x none) (filter_counted xs)
      ]

-- lists whose counted ones are alike answer alike
module _ {X : Type 0} (test counts : X → Bool) (only : (x : X) → test x ≡ true → counts x ≡ true) (xs ys : List X) (same : filter counts xs ≡ filter counts ys) where
  pub find_same : find test xs ≡ find test ys
  find_same = sym (find_counted test counts only xs) ∙ ap (find test) same ∙ find_counted test counts only ys

  pub any_same_seen : list_any test xs ≡ list_any test ys
  any_same_seen = sym (any_counted test counts only xs) ∙ ap (list_any test) same ∙ any_counted test counts only ys

  pub filter_same : filter test xs ≡ filter test ys
  filter_same = sym (filter_counted test counts only xs) ∙ ap (filter test) same ∙ filter_counted test counts only ys
