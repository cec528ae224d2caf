-- Rows that a record behind them takes: one that none took stays free where others are left out, and the place at which it is.
use Rattle.std.proofs.Common.{◌≡◌, ℕ, zero, suc, ◌<◌, inl, inr, Bool, true, false, ◌&&◌, ◌||◌, not, List, [], ◌∷◌, slice_get, Some, bytes_eq, refl, sym, ap, ◌∙◌, subst, arith}
use Rattle.std.specs.List.{list_any, list_all}
use Rattle.std.proofs.lemmas.Bool.{false≢true, and_parts, and_from, or_cases, or_left, or_right, not-true, not_from_false}
use Rattle.record_ledger.specs.Marks.{Marked, all, kept, KeepsAll}
use Rattle.record_ledger.specs.Linking.{is_among}
use Rattle.record_ledger.proofs.KeptMarks.{none_kept}
use Rattle.record_ledger.proofs.LinkRows.{none_at}
use Rattle.record_ledger.proofs.Words.{each_weaker, same_text}

-- what is asked of a text that is another one can be asked of the other
pub asked_of : (one other : List ℕ) (test : List ℕ → Bool) → (bytes_eq one other && test one) ≡ (bytes_eq one other && test other)
asked_of one other test = by_test (bytes_eq one other) refl
  where
    by_test : (b : Bool) → bytes_eq one other ≡ b → (b && test one) ≡ (b && test other)
    by_test true is = ap test (same_text one other is)
    by_test false is = refl

-- some record has the row, and none behind it takes it
abbrev pub any_free : {R : Type 0} (has takes : R → Bool) → List R → Bool
any_free has takes [] = false
any_free has takes (r ∷ later) = (has r && not (list_any takes later)) || any_free has takes later

-- the record of that row, at its place
pub record FreeAt {R : Type 0} (has takes : R → Bool) (records : List R) : Type 0 where
  pub place : ℕ
  pub row : R
  pub there : slice_get records place ≡ Some row
  pub has_it : has row ≡ true
  pub free : (l : ℕ) (y : R) → place < l → slice_get records l ≡ Some y → takes y ≡ false

-- Rows of one kind, each with an ID: which record has the row of an ID, which one takes it, and what says that it is there and free.
pub record FreeRows (R : Type 0) : Type 0 where
  pub has : List ℕ → R → Bool
  pub takes : List ℕ → R → Bool
  pub is_free : List R → List ℕ → Bool
  pub any : (records : List R) (id : List ℕ) → is_free records id ≡ any_free (has id) (takes id) records

module _ {R : Type 0} (has takes : R → Bool) where
  any_kept : (marks : List (Marked R)) → KeepsAll has marks → any_free has takes (all marks) ≡ true → any_free has takes (kept marks) ≡ true
  any_kept [] keeps is = is
  any_kept ((true, r) ∷ marks) keeps is =
      let here_now = has r && not (list_any takes (kept marks)) in
      elim (or_cases (has r && not (list_any takes (all marks))) (any_free has takes (all marks)) is) [
        | inl here ↦
            let both = and_parts (has r) (not (list_any takes (all marks))) here in
            let none = none_kept takes marks (not-true (list_any takes (all marks)) both.1) in
            or_left here_now (any_free has takes (kept marks))
            (and_from (has r) (not (list_any takes (kept marks))) both.0 (not_from_false _ none))
        | inr there ↦ or_right here_now (any_free has takes (kept marks)) (any_kept marks keeps.1 there)
      ]
  any_kept ((false, r) ∷ marks) keeps is =
      elim (or_cases (has r && not (list_any takes (all marks))) (any_free has takes (all marks)) is) [
        | inl here ↦ absurd (false≢true (keeps.0 (and_parts (has r) (not (list_any takes (all marks))) here).0))
        | inr there ↦ any_kept marks keeps.1 there
      ]

  free_later : (r : R) (later : List R) → FreeAt has takes later → FreeAt has takes (r ∷ later)
  free_later r later rest = record {
    place = suc rest.place;
    row = rest.row;
    there = rest.there;
    has_it = rest.has_it;
    free = free;
  }
    where
      free : (l : ℕ) (y : R) → suc rest.place < l → slice_get (r ∷ later) l ≡ Some y → takes y ≡ false
      free zero y less is = absurd (omega arith)
      free (suc l) y less is = rest.free l y (omega arith) is

  free_here : (r : R) (later : List R) → (has r && not (list_any takes later)) ≡ true → FreeAt has takes (r ∷ later)
  free_here r later here = record { place = 0; row = r; there = refl; has_it = both.0; free = free }
    where
      both : (has r ≡ true) × (not (list_any takes later) ≡ true)
      both = and_parts (has r) (not (list_any takes later)) here

      free : (l : ℕ) (y : R) → 0 < l → slice_get (r ∷ later) l ≡ Some y → takes y ≡ false
      free zero y less is = absurd (omega arith)
      free (suc l) y less is = none_at takes later (not-true (list_any takes later) both.1) l y is

  any_at : (records : List R) → any_free has takes records ≡ true → FreeAt has takes records
  any_at [] is = absurd (false≢true is)
  any_at (r ∷ later) is =
      elim (or_cases (has r && not (list_any takes later)) (any_free has takes later) is) [
        | inl here ↦ free_here r later here
        | inr there ↦ free_later r later (any_at later there)
      ]

module _ {R : Type 0} (rows : FreeRows R) where
  -- the row of an ID, where it is free
  pub free_at : (records : List R) (id : List ℕ) → rows.is_free records id ≡ true → FreeAt (rows.has id) (rows.takes id) records
  free_at records id is = any_at (rows.has id) (rows.takes id) records (sym (rows.any records id) ∙ is)

  -- it stays free where each record that has it is kept
  pub stays_free : (id : List ℕ) (marks : List (Marked R)) → KeepsAll (rows.has id) marks
      → rows.is_free (all marks) id ≡ true → rows.is_free (kept marks) id ≡ true
  stays_free id marks keeps is =
      rows.any (kept marks) id ∙ any_kept (rows.has id) (rows.takes id) marks keeps (sym (rows.any (all marks) id) ∙ is)

  -- one of some is free where all are
  pub free_among : (records : List R) (ids : List (List ℕ)) (id : List ℕ) → list_all (rows.is_free records) ids ≡ true
      → is_among id ids ≡ true → rows.is_free records id ≡ true
  free_among records [] id are among = absurd (false≢true among)
  free_among records (first ∷ ids) id are among =
      let both = and_parts (rows.is_free records first) (list_all (rows.is_free records) ids) are in
      elim (or_cases (bytes_eq first id) (is_among id ids) among) [
        | inl here ↦ subst (λ x. rows.is_free records x ≡ true) (same_text first id here) both.0
        | inr there ↦ free_among records ids id both.1 there
      ]

  -- Where a record names the rows of some IDs, which is said of the record and the IDs: of the first, and of the others.
  module _ (names : List (List ℕ) → R → Bool)
      (first : (id : List ℕ) (ids : List (List ℕ)) (x : R) → rows.has id x ≡ true → names (id ∷ ids) x ≡ true)
      (rest : (id : List ℕ) (ids : List (List ℕ)) (x : R) → names ids x ≡ true → names (id ∷ ids) x ≡ true) where
    pub keeps_first : (id : List ℕ) (ids : List (List ℕ)) (marks : List (Marked R)) → KeepsAll (names (id ∷ ids)) marks → KeepsAll (rows.has id) marks
    keeps_first id ids =
        each_weaker (λ (m : Marked R). names (id ∷ ids) m.1 ≡ true → m.0 ≡ true) (λ (m : Marked R). rows.has id m.1 ≡ true → m.0 ≡ true)
        (λ m keeps here. keeps (first id ids m.1 here))

    keeps_rest : (id : List ℕ) (ids : List (List ℕ)) (marks : List (Marked R)) → KeepsAll (names (id ∷ ids)) marks → KeepsAll (names ids) marks
    keeps_rest id ids =
        each_weaker (λ (m : Marked R). names (id ∷ ids) m.1 ≡ true → m.0 ≡ true) (λ (m : Marked R). names ids m.1 ≡ true → m.0 ≡ true)
        (λ m keeps here. keeps (rest id ids m.1 here))

    pub all_stay_free : (ids : List (List ℕ)) (marks : List (Marked R)) → KeepsAll (names ids) marks
        → list_all (rows.is_free (all marks)) ids ≡ true → list_all (rows.is_free (kept marks)) ids ≡ true
    all_stay_free [] marks keeps are = refl
    all_stay_free (id ∷ ids) marks keeps are =
        let both = and_parts (rows.is_free (all marks) id) (list_all (rows.is_free (all marks)) ids) are in
        and_from (rows.is_free (kept marks) id) (list_all (rows.is_free (kept marks)) ids)
        (stays_free id marks (keeps_first id ids marks keeps) both.0)
        (all_stay_free ids marks (keeps_rest id ids marks keeps) both.1)
