-- What is kept and visible stays to the end of a run.
use Rattle.std.specs.Prelude.{slice_get, slice_index_or, max, ◌&&◌, ◌||◌, Contains, filter, ◌==◌, if◌then◌else◌}
use Rattle.std.proofs.Common.{◌≡◌, ◌⊎◌, inl, inr, ℕ, zero, suc, ◌<◌, ◌+◌, Bool, true, false, cond, List, [], ◌∷◌, ◌++◌, length, Some, refl, sym, ap, ◌∙◌, subst, append-nil, append_assoc, arith}
use Rattle.std.proofs.lemmas.Bool.{cases_lt, lt-ltb}
use Rattle.std.specs.List.{list_any}
use Rattle.std.proofs.lemmas.List.Folds.{list_any-append}
use Rattle.std.proofs.lemmas.Option.{slice_get_within}
use Rattle.crash_disk.specs.Torn.{other_file}
use Rattle.ledger_rules.specs.Kept.{selected}
use Rattle.record_ledger.specs.Compacting.{passes, relates_at, seen_at, names_at, AreKept, Compacts as IsMade}
use Rattle.record_ledger.specs.Laws.{VisibleRecordsStay}
use Rattle.record_ledger.specs.Ledger.{Held, held_with, migrated}
use Rattle.record_ledger.specs.Rules.{RecordRules}
use Rattle.record_ledger.specs.Runs.{Event, Adds, Compacts, Opens, Leads, added, CompactsAt, IsVisibleThroughout, Stays}

-- LISTS

module _ {X : Type 0} where
  filter_both : (test : X → Bool) (xs ys : List X) → filter test (xs ++ ys) ≡ filter test xs ++ filter test ys
  filter_both test [] ys = refl
  filter_both test (x ∷ xs) ys = by_test (test x) (filter_both test xs ys)
    where
      by_test : (b : Bool) → filter test (xs ++ ys) ≡ filter test xs ++ filter test ys →
          cond b (x ∷ filter test (xs ++ ys)) (filter test (xs ++ ys)) ≡ cond b (x ∷ filter test xs) (filter test xs) ++ filter test ys
      by_test true same = ap (λ (zs : List X). x ∷ zs) same
      by_test false same = same

  -- whether one passes is decided by those that pass another test, where each that passes the one passes the other
  any_among : (p test : X → Bool) → ((x : X) → p x ≡ true → test x ≡ true) → (xs : List X) → list_any p (filter test xs) ≡ list_any p xs
  any_among p test more [] = refl
  any_among p test more (x ∷ xs) = by_tests (p x) (test x) refl (more x) (any_among p test more xs)
    where
      by_tests : (a b : Bool) → p x ≡ a → (a ≡ true → b ≡ true) → list_any p (filter test xs) ≡ list_any p xs →
          list_any p (cond b (x ∷ filter test xs) (filter test xs)) ≡ (a || list_any p xs)
      by_tests a true is more same = λ i. is i || same i
      by_tests true false is more same = absurd (let clash = more refl in cc)
      by_tests false false is more same = same

  pub any_joined : (p test : X → Bool) → ((x : X) → p x ≡ true → test x ≡ true) → (xs ys zs : List X) → filter test xs ≡ filter test ys ++ filter test zs →
      list_any p xs ≡ (list_any p ys || list_any p zs)
  any_joined p test more xs ys zs are =
      sym (any_among p test more xs) ∙ ap (list_any p) are ∙ list_any-append p (filter test ys) (filter test zs)
      ∙ (λ i. any_among p test more ys i || any_among p test more zs i)

  -- each that passes has its flag
  abbrev AreFlagged : (X → Bool) → List Bool → List X → Type 0
  AreFlagged test flags xs = (j : ℕ) (x : X) → slice_get xs j ≡ Some x → test x ≡ true → slice_index_or flags j false ≡ true

  later_flagged : (test : X → Bool) (flag : Bool) (flags : List Bool) (x : X) (xs : List X) → AreFlagged test (flag ∷ flags) (x ∷ xs) → AreFlagged test flags xs
  later_flagged test flag flags x xs are j y is passed = are (suc j) y is passed

  -- so that what is selected has all that pass
  none_flagged : (test : X → Bool) (xs : List X) → AreFlagged test [] xs → filter test xs ≡ []
  none_flagged test [] are = refl
  none_flagged test (x ∷ xs) are = by_test (test x) (λ passed. are 0 x refl passed) (none_flagged test xs (λ j y is passed. are (suc j) y is passed))
    where
      by_test : (b : Bool) → (b ≡ true → false ≡ true) → filter test xs ≡ [] → cond b (x ∷ filter test xs) (filter test xs) ≡ []
      by_test true must none = absurd (let clash = must refl in cc)
      by_test false must none = none

  all_selected : (test : X → Bool) (flags : List Bool) (xs : List X) → AreFlagged test flags xs → filter test (selected flags xs) ≡ filter test xs
  all_selected test [] xs are = sym (none_flagged test xs are)
  all_selected test (flag ∷ flags) [] are = refl
  all_selected test (flag ∷ flags) (x ∷ xs) are =
      by_test flag (test x) (λ passed. are 0 x refl passed) refl (all_selected test flags xs (later_flagged test flag flags x xs are))
    where
      by_test : (f b : Bool) → (b ≡ true → f ≡ true) → test x ≡ b → filter test (selected flags xs) ≡ filter test xs →
          filter test (if f then x ∷ selected flags xs else selected flags xs) ≡ cond b (x ∷ filter test xs) (filter test xs)
      by_test true true has is same = (λ i. cond (is i) (x ∷ same i) (same i))
      by_test true false has is same = (λ i. cond (is i) (x ∷ same i) (same i))
      by_test false true has is same = absurd (let clash = has refl in cc)
      by_test false false has is same = same

  at_place : (before behind : List X) (x : X) → slice_get (before ++ x ∷ behind) (length before) ≡ Some x
  at_place [] behind x = refl
  at_place (y ∷ before) behind x = at_place before behind x

  at_behind : (before behind : List X) (x : X) (j k : ℕ) → k ≡ suc (length before + j) → slice_get (before ++ x ∷ behind) k ≡ slice_get behind j
  at_behind [] behind x j zero is = absurd (omega arith)
  at_behind [] behind x j (suc k) is = let same : k ≡ j = omega arith in ap (slice_get behind) same
  at_behind (y ∷ before) behind x j zero is = absurd (omega arith)
  at_behind (y ∷ before) behind x j (suc k) is = at_behind before behind x j k (omega arith)

  -- what is selected of a list in which an item stands whose flag is set
  record IsSelected (test : X → Bool) (flags : List Bool) (list : List X) (x : X) (behind : List X) : Type 0 where
    before_it : List X
    behind_it : List X
    stands : selected flags list ≡ before_it ++ x ∷ behind_it
    same : filter test behind_it ≡ filter test behind

  one_before : (test : X → Bool) (flag : Bool) (flags : List Bool) (y : X) (list : List X) (x : X) (behind : List X) → IsSelected test flags list x behind →
      IsSelected test (flag ∷ flags) (y ∷ list) x behind
  one_before test true flags y list x behind is =
      record { before_it = y ∷ is.before_it; behind_it = is.behind_it; stands = ap (λ (zs : List X). y ∷ zs) is.stands; same = is.same }
  one_before test false flags y list x behind is =
      record { before_it = is.before_it; behind_it = is.behind_it; stands = is.stands; same = is.same }

  is_selected : (test : X → Bool) (flags : List Bool) (before behind : List X) (x : X) → slice_index_or flags (length before) false ≡ true →
      ((j k : ℕ) (y : X) → k ≡ suc (length before + j) → slice_get behind j ≡ Some y → test y ≡ true → slice_index_or flags k false ≡ true) →
      IsSelected test flags (before ++ x ∷ behind) x behind
  is_selected test [] before behind x set others = absurd (cc)
  is_selected test (true ∷ flags) [] behind x set others = record {
    before_it = [];
    behind_it = selected flags behind;
    stands = refl;
    same = all_selected test flags behind (λ j y is passed. others j (suc j) y (omega arith) is passed);
  }
  is_selected test (false ∷ flags) [] behind x set others = absurd (cc)
  is_selected test (flag ∷ flags) (y ∷ before) behind x set others =
      one_before test flag flags y (before ++ x ∷ behind) x behind
      (is_selected test flags before behind x set (λ j k z at is passed. others j (suc k) z (omega arith) is passed))

module _ {R : Type 0} (rules : RecordRules R) where
  -- A COMPACTION

  module _ (now horizon : ℕ) (before behind made : List R) (r : R) (kept : AreKept rules now horizon (before ++ r ∷ behind) made)
      (visible : rules.has_visible now horizon r ≡ true) where
    abbrev records : List R
    records = before ++ r ∷ behind

    seen : seen_at rules now horizon records (length before) ≡ true
    seen = ap (passes (rules.has_visible now horizon)) (at_place before behind r) ∙ visible

    flagged : slice_index_or kept.flags (length before) false ≡ true
    flagged = (kept.each (length before) (slice_get_within records (length before) r (at_place before behind r))).1 (0, seen)

    -- and so is a record that names it
    named_at : (k : ℕ) (other : R) → length before < k → slice_get records k ≡ Some other → rules.names other r ≡ true → names_at rules records k (length before) ≡ true
    unfolding relates_at
    named_at k other less stands names =
        (λ i. lt-ltb (length before) k less i && passes (λ later. passes (rules.names later) (at_place before behind r i)) (stands i)) ∙ names

    other_flagged : (j k : ℕ) (other : R) → k ≡ suc (length before + j) → slice_get behind j ≡ Some other → rules.names other r ≡ true →
        slice_index_or kept.flags k false ≡ true
    other_flagged j k other at stands names =
        let there : slice_get records k ≡ Some other = at_behind before behind r j k at ∙ stands in
        (kept.each k (slice_get_within records k other there)).1 (1, inr (length before, inr (named_at k other (omega arith) there names), seen))

    stays_selected : IsSelected (λ other. rules.names other r) kept.flags records r behind
    stays_selected = is_selected (λ other. rules.names other r) kept.flags before behind r flagged other_flagged

  -- A RUN

  -- the horizon is that of the start or a moment of the run
  abbrev IsHorizon : Held R → List ℕ → ℕ → Type 0
  IsHorizon start moments horizon = (horizon ≡ start.header.horizon) ⊎ Contains moments horizon

  larger : (start : Held R) (moments : List ℕ) (old now : ℕ) → IsHorizon start moments old → Contains moments now → IsHorizon start moments (max old now)
  larger start moments old now is contains = elim (cases_lt old now) [
    | inl less ↦ let same : now ≡ max old now = omega arith in inr (subst (Contains moments) same contains)
    | inr over ↦ let same : old ≡ max old now = omega arith in subst (IsHorizon start moments) same is
  ]

  module _ (start : Held R) (moments : List ℕ) (r : R) (behind : List R) (visible : IsVisibleThroughout rules start.header.horizon moments r) where
    record IsOn (events : List (Event R)) (held : Held R) : Type 0 where
      horizon : IsHorizon start moments held.header.horizon
      stays : Stays rules r behind events held

    compacted : (past : List (Event R)) (old new : Held R) (now : ℕ) → IsOn past old → Contains moments now → IsMade rules now old new →
        IsOn (Compacts now ∷ past) new
    compacted past old new now on contains (inl (last, same)) =
        let same_on = subst (IsOn past) (sym same) on in
        let stays = same_on.stays in
        record {
          horizon = same_on.horizon;
          stays = record { before_it = stays.before_it; behind_it = stays.behind_it; stands = stays.stands; naming_it = stays.naming_it };
        }
    compacted past old new now on contains (inr (less, is)) =
        let stays = on.stays in
        let kept = subst (λ (rs : List R). AreKept rules now old.header.horizon rs new.records) stays.stands is.records in
        let chosen = stays_selected now old.header.horizon stays.before_it stays.behind_it new.records r kept (visible now old.header.horizon contains on.horizon) in
        record {
          horizon = subst (IsHorizon start moments) (sym is.horizon) (larger start moments old.header.horizon now on.horizon contains);
          stays =
              record {
                before_it = chosen.before_it;
                behind_it = chosen.behind_it;
                stands = kept.are ∙ chosen.stands;
                naming_it = chosen.same ∙ stays.naming_it;
              };
        }

    one_more : (past : List (Event R)) (old : Held R) (new : R) → IsOn past old → IsOn (Adds new ∷ past) (held_with new old)
    one_more past old new on =
        let stays = on.stays in
        let test : R → Bool = λ other. rules.names other r in
        record {
          horizon = on.horizon;
          stays =
              record {
                before_it = stays.before_it;
                behind_it = stays.behind_it ++ new ∷ [];
                stands = ap (λ (rs : List R). rs ++ new ∷ []) stays.stands ∙ append_assoc stays.before_it (r ∷ stays.behind_it) (new ∷ []);
                naming_it =
                    filter_both test stays.behind_it (new ∷ []) ∙ ap (λ (rs : List R). rs ++ filter test (new ∷ [])) stays.naming_it
                    ∙ append_assoc (filter test behind) (filter test (added past)) (filter test (new ∷ []))
                    ∙ ap (λ (rs : List R). filter test behind ++ rs) (sym (filter_both test (added past) (new ∷ [])));
              };
        }

    opened : (past : List (Event R)) (old : Held R) → IsOn past old → IsOn (Opens ∷ past) (migrated old)
    opened past old on = by_version (old.version == 1)
      where
        by_version : (b : Bool) → IsOn (Opens ∷ past) (if b then record old {
          file = other_file old.file;
          version = 2;
          header = record (old.header) { generation = old.header.generation + 1 };
        } else old)
        by_version true =
            let stays = on.stays in
            record {
              horizon = on.horizon;
              stays = record { before_it = stays.before_it; behind_it = stays.behind_it; stands = stays.stands; naming_it = stays.naming_it };
            }
        by_version false =
            let stays = on.stays in
            record {
              horizon = on.horizon;
              stays = record { before_it = stays.before_it; behind_it = stays.behind_it; stands = stays.stands; naming_it = stays.naming_it };
            }

    goes_on : (before : List R) → start.records ≡ before ++ r ∷ behind → (events : List (Event R)) (held : Held R) → Leads rules start events held →
        CompactsAt moments events → IsOn events held
    goes_on before there [] held leads at =
        subst (IsOn []) (sym leads)
        (record { horizon = inl refl; stays = record { before_it = before; behind_it = behind; stands = there; naming_it = sym (append-nil _) } })
    goes_on before there (Adds new ∷ past) held leads at =
        subst (IsOn (Adds new ∷ past)) (sym leads.4) (one_more past leads.0 new (goes_on before there past leads.0 leads.1 at))
    goes_on before there (Compacts now ∷ past) held leads at =
        compacted past leads.0 held now (goes_on before there past leads.0 leads.1 at.1) at.0 leads.2
    goes_on before there (Opens ∷ past) held leads at =
        subst (IsOn (Opens ∷ past)) (sym leads.2) (opened past leads.0 (goes_on before there past leads.0 leads.1 at))

  pub visible_records_stay : VisibleRecordsStay rules
  visible_records_stay start held events moments before behind r leads at there visible =
      let on = goes_on start moments r behind visible before there events held leads at in on.stays
