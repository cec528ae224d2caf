-- What is counted in the row of a round, and the record that began it.
use Rattle.std.proofs.Common.{◌≡◌, ℕ, zero, suc, ◌+◌, ◌<◌, ◌≤◌, Bool, true, false, not, ◌&&◌, nat_eq, List, [], ◌∷◌, ◌++◌, length, refl, sym, ap, ◌∙◌, arith}
use Rattle.std.specs.Prelude.{if◌then◌else◌}
use Rattle.std.specs.List.{list_all}
use Rattle.std.proofs.lemmas.Bool.Decides.{nat_tests}
use Rattle.ledger_records.specs.declared.idp_round.Told.{Told}
use Rattle.ledger_records.specs.declared.idp_record.IdpRecord.{IdpRecord}
use Rattle.ledger_records.specs.declared.idp_record.IdpRecord.TheVariants as kinds
use Rattle.round_rows.specs.declared.row.RoundRow.{RoundRow}
use Rattle.round_rows.specs.Rounds.{waits_for, answered_if}
use Rattle.idp_rows.specs.RoundsOf.{round_row, round_behind, answers, answers_after}
use Rattle.idp_ledger.specs.Laws.{IsRowOf, RoundsAreCounted, EachRoundHasItsRecord}

-- ---- what is counted

abbrev does_confirm : Told → Bool
does_confirm t = t.confirmed

-- how many of these confirm
abbrev more_if : Bool → ℕ → ℕ
more_if true n = suc n
more_if false n = n

abbrev confirming : List Told → ℕ
confirming [] = 0
confirming (t ∷ ts) = more_if t.confirmed (confirming ts)

-- a round behind records has so many answers more, and its turns, and it skipped what it did
record IsBehind (row new : RoundRow) (ts : List Told) : Type 0 where
  told : new.told ≡ row.told + length ts
  confirmed : new.confirmed ≡ row.confirmed + confirming ts
  turns : new.turns ≡ row.turns
  skipped : new.skipped ≡ row.skipped

one_answer : (b : Bool) (row new : RoundRow) (t : Told) (ts : List Told) → waits_for t.request row ≡ b → IsBehind (answered_if b t.confirmed t.next row) new ts
    → IsBehind row new ((if b then t ∷ [] else []) ++ ts)
one_answer false row new t ts waits rest = rest
one_answer true row new t ts waits rest = record {
  told = omega (arith, rest.told);
  confirmed = by_confirmed t.confirmed rest.confirmed;
  turns = rest.turns;
  skipped = rest.skipped;
}
  where
    by_confirmed : (c : Bool) → new.confirmed ≡ (answered_if true c t.next row).confirmed + confirming ts → new.confirmed ≡ row.confirmed + more_if c (confirming ts)
    by_confirmed true is = omega (arith, is)
    by_confirmed false is = is

behind : (row : RoundRow) (later : List IdpRecord) → IsBehind row (round_behind row later) (answers_after row later)
behind row [] = record { told = omega arith; confirmed = omega arith; turns = refl; skipped = refl }
behind row (kinds.Told t ∷ later) =
    one_answer (waits_for t.request row) row (round_behind row (kinds.Told t ∷ later)) t (answers_after (answered_if (waits_for t.request row) t.confirmed t.next row) later) refl
    (behind (answered_if (waits_for t.request row) t.confirmed t.next row) later)
behind row (other ∷ later) = behind row later

few_confirm : (ts : List Told) → confirming ts ≤ length ts
few_confirm [] = omega arith
few_confirm (t ∷ ts) = one_more t.confirmed (few_confirm ts)
  where
    one_more : (c : Bool) → confirming ts ≤ length ts → more_if c (confirming ts) ≤ suc (length ts)
    one_more true le = omega (arith, le)
    one_more false le = omega (arith, le)

all_confirm : (ts : List Told) → list_all does_confirm ts ≡ true → confirming ts ≡ length ts
all_confirm [] all = refl
all_confirm (t ∷ ts) all = by_confirmed t.confirmed (all_confirm ts) all
  where
    by_confirmed : (c : Bool) → (list_all does_confirm ts ≡ true → confirming ts ≡ length ts) → (c && list_all does_confirm ts) ≡ true → more_if c (confirming ts) ≡ suc (length ts)
    by_confirmed true rest all = omega (arith, rest all)
    by_confirmed false rest all = absurd (Rattle.std.proofs.lemmas.Bool.false≢true all)

not_all_confirm : (ts : List Told) → list_all does_confirm ts ≡ false → confirming ts < length ts
not_all_confirm [] none = absurd (Rattle.std.proofs.lemmas.Bool.true≢false none)
not_all_confirm (t ∷ ts) none = by_confirmed t.confirmed (not_all_confirm ts) (few_confirm ts) none
  where
    by_confirmed : (c : Bool) → (list_all does_confirm ts ≡ false → confirming ts < length ts) → confirming ts ≤ length ts → (c && list_all does_confirm ts) ≡ false
        → more_if c (confirming ts) < suc (length ts)
    by_confirmed true rest le none = omega (arith, rest none)
    by_confirmed false rest le none = omega (arith, le)

-- as many as there are turns, and each of them
counts_say : (skips all : Bool) (n k turns : ℕ) → (all ≡ true → k ≡ n) → (all ≡ false → k < n) → (not skips && nat_eq n turns && nat_eq k turns) ≡ (not skips && nat_eq n turns && all)
counts_say true all n k turns full short = refl
counts_say false true n k turns full short = ap (λ m. nat_eq n turns && nat_eq m turns) (full refl) ∙ both_same (nat_eq n turns)
  where
    both_same : (b : Bool) → (b && b) ≡ (b && true)
    both_same true = refl
    both_same false = refl
counts_say false false n k turns full short = by_equal (nat_eq n turns) refl
  where
    by_equal : (b : Bool) → nat_eq n turns ≡ b → (b && nat_eq k turns) ≡ (b && false)
    by_equal false differs = refl
    by_equal true same =
        let less = short refl in
        grind (arith, nat_tests, less, same)

pub rounds_are_counted : RoundsAreCounted
rounds_are_counted r later =
    let b = behind (round_row r) later in
    let ts = answers r later in
    let row = round_behind (round_row r) later in
    let told : row.told ≡ length ts = omega (arith, b.told) in
    let confirmed : row.confirmed ≡ confirming ts = omega (arith, b.confirmed) in
    record {
      told = told;
      confirmed =
          ap (λ s. not s && nat_eq row.told (length row.turns) && nat_eq row.confirmed (length row.turns)) b.skipped
          ∙ ap (λ (l : ℕ). not r.skipped && nat_eq row.told l && nat_eq row.confirmed l) (ap length b.turns)
          ∙ ap (λ n. not r.skipped && nat_eq n (length r.turns) && nat_eq row.confirmed (length r.turns)) told
          ∙ ap (λ n. not r.skipped && nat_eq (length ts) (length r.turns) && nat_eq n (length r.turns)) confirmed
          ∙ counts_say r.skipped (list_all does_confirm ts) (length ts) (confirming ts) (length r.turns) (all_confirm ts) (not_all_confirm ts);
    }

-- ---- the record of a row

one_before : (x : IdpRecord) (later : List IdpRecord) (row : RoundRow) → IsRowOf later row → IsRowOf (x ∷ later) row
one_before x later row of = record { before = x ∷ of.before; begun = of.begun; later = of.later; are = ap (λ (rs : List IdpRecord). x ∷ rs) of.are; is = of.is }

pub each_round_has_its_record : EachRoundHasItsRecord
each_round_has_its_record [] row there = absurd (omega (arith, there.1))
each_round_has_its_record (kinds.Pending x ∷ later) row there = one_before (kinds.Pending x) later row (each_round_has_its_record later row there)
each_round_has_its_record (kinds.Issued x ∷ later) row there = one_before (kinds.Issued x) later row (each_round_has_its_record later row there)
each_round_has_its_record (kinds.Ended x ∷ later) row there = one_before (kinds.Ended x) later row (each_round_has_its_record later row there)
each_round_has_its_record (kinds.Left x ∷ later) row there = one_before (kinds.Left x) later row (each_round_has_its_record later row there)
each_round_has_its_record (kinds.Confirmed x ∷ later) row there = one_before (kinds.Confirmed x) later row (each_round_has_its_record later row there)
each_round_has_its_record (kinds.Spoke x ∷ later) row there = one_before (kinds.Spoke x) later row (each_round_has_its_record later row there)
each_round_has_its_record (kinds.Told x ∷ later) row there = one_before (kinds.Told x) later row (each_round_has_its_record later row there)
each_round_has_its_record (kinds.Round x ∷ later) row (zero, less, is) = record { before = []; begun = x; later = later; are = refl; is = sym is }
each_round_has_its_record (kinds.Round x ∷ later) row (suc k, less, is) = one_before (kinds.Round x) later row (each_round_has_its_record later row (k, omega arith, is))
