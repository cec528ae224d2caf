-- Whether an element of a list passes a test.
use Rattle.std.specs.Prelude.{IsSome}
use Rattle.std.proofs.Common.{◌≡◌, ℕ, Bool, true, false, cond, ◌||◌, List, [], ◌∷◌, get_or, Some, refl, sym, ap, ◌∙◌, subst, inl, inr}
use Rattle.std.specs.List.{list_all, list_any, find, slice_get}
use Rattle.std.proofs.lemmas.Bool.{cases_Bool, and_parts, or_left, or_right, or_cases, false≢true, true≢false, false_from_ne_true}
use Rattle.std.proofs.lemmas.List.Folds.{list_any_at, list_any_none}
use Rattle.std.proofs.lemmas.Option.{slice_get_within, slice_get-get_or, get_or_from_slice_get}

-- an element that passes, where one is found
pub found : {X : Type 0} (test : X → Bool) (xs : List X) → IsSome (find test xs) → list_any test xs ≡ true
found test [] some = some
found test (x ∷ xs) some = by_test (test x) (found test xs) some
  where
    by_test : (b : Bool) → (IsSome (find test xs) → list_any test xs ≡ true) → IsSome (cond b (Some x) (find test xs)) → (b || list_any test xs) ≡ true
    by_test true later some = refl
    by_test false later some = later some

pub any_more : {X : Type 0} (test more : X → Bool) (xs : List X) → ((x : X) → test x ≡ true → more x ≡ true) → list_any test xs ≡ true → list_any more xs ≡ true
any_more test more [] leads is = absurd (false≢true is)
any_more test more (x ∷ xs) leads is = elim (or_cases (test x) (list_any test xs) is) [
  | inl here ↦ or_left (more x) (list_any more xs) (leads x here)
  | inr there ↦ or_right (more x) (list_any more xs) (any_more test more xs leads there)
]

-- an element that passes, of those that all pass another test
pub any_all : {X : Type 0} (test other : X → Bool) (xs : List X) → list_all other xs ≡ true → list_any test xs ≡ true → (x : X) × (test x ≡ true) × (other x ≡ true)
any_all test other [] all is = absurd (false≢true is)
any_all test other (x ∷ xs) all is =
    let parts = and_parts (other x) (list_all other xs) all in
    elim (or_cases (test x) (list_any test xs) is) [
      | inl here ↦ (x, here, parts.0)
      | inr there ↦ any_all test other xs parts.1 there
    ]

-- where one row alone may pass a test, it decides
pub any_is_at : {X : Type 0} (test : X → Bool) (rows : List X) (p : ℕ) (row : X) → slice_get rows p ≡ Some row
    → ((k : ℕ) (other : X) → slice_get rows k ≡ Some other → test other ≡ true → k ≡ p) → list_any test rows ≡ test row
any_is_at test rows p row there only =
    let within = slice_get_within rows p row there in
    let read = get_or_from_slice_get rows p row row there in
    elim (cases_Bool (test row)) [
      | inl passes ↦ list_any_at test rows p row within (ap test read ∙ passes) ∙ sym passes
      | inr fails ↦
          list_any_none test rows (λ k d inside. false_from_ne_true (test (get_or rows k d)) (λ passes.
          let same = only k (get_or rows k d) (slice_get-get_or rows k d inside) passes in
          let other : get_or rows k d ≡ row = get_or_from_slice_get rows k row d (subst (λ j. slice_get rows j ≡ Some row) (sym same) there) in
          true≢false (sym passes ∙ ap test other ∙ fails)))
          ∙ sym fails
    ]

pub any_is_nowhere : {X : Type 0} (test : X → Bool) (rows : List X) → ((k : ℕ) (other : X) → slice_get rows k ≡ Some other → test other ≡ true → ⊥)
    → list_any test rows ≡ false
any_is_nowhere test rows none =
    list_any_none test rows (λ k d inside. false_from_ne_true (test (get_or rows k d)) (λ passes. none k (get_or rows k d) (slice_get-get_or rows k d inside) passes))
