-- The rows of rounds, from the records.
use Rattle.std.proofs.Common.{◌≡◌, ℕ, suc, ◌+◌, ◌≤◌, Bool, true, false, List, [], ◌∷◌, ◌++◌, map, length, Option, Some, refl, ap, ◌∙◌, arith}
use Rattle.std.specs.List.{slice_get}
use Rattle.std.proofs.lemmas.List.{append-nil}
use Rattle.ledger_records.specs.declared.idp_record.IdpRecord.{IdpRecord}
use Rattle.ledger_records.specs.declared.idp_record.IdpRecord.TheVariants as kinds
use Rattle.round_rows.specs.declared.row.RoundRow.{RoundRow}
use Rattle.round_rows.specs.Rounds.{waits_for, answered_if}
use Rattle.idp_rows.specs.RoundsOf.{round_row, round_after, round_behind, round_rows}

-- ---- one record more

pub behind-push : (row : RoundRow) (later : List IdpRecord) (r : IdpRecord) → round_behind row (later ++ r ∷ []) ≡ round_after (round_behind row later) r
behind-push row [] r = refl
behind-push row (x ∷ later) r = behind-push (round_after row x) later r

pub map_nothing : (rows : List RoundRow) → map (λ (row : RoundRow). row) rows ≡ rows
map_nothing [] = refl
map_nothing (row ∷ rows) = λ i. row ∷ map_nothing rows i

pub round_rows-push : (records : List IdpRecord) (r : IdpRecord) → round_rows (records ++ r ∷ []) ≡ map (λ row. round_after row r) (round_rows records) ++ round_rows (r ∷ [])
round_rows-push [] r = refl
round_rows-push (kinds.Round o ∷ later) r = λ i. behind-push (round_row o) later r i ∷ round_rows-push later r i
round_rows-push (other ∷ later) r = round_rows-push later r

pub rounds_stay : (rows : List RoundRow) → map (λ (row : RoundRow). row) rows ++ [] ≡ rows
rounds_stay rows = append-nil (map (λ (row : RoundRow). row) rows) ∙ map_nothing rows

-- ---- how many there are, and how many answers came

pub rounds_few : (records : List IdpRecord) → length (round_rows records) ≤ length records
rounds_few [] = omega arith
rounds_few (kinds.Pending r ∷ later) = omega (arith, rounds_few later)
rounds_few (kinds.Issued r ∷ later) = omega (arith, rounds_few later)
rounds_few (kinds.Ended r ∷ later) = omega (arith, rounds_few later)
rounds_few (kinds.Left r ∷ later) = omega (arith, rounds_few later)
rounds_few (kinds.Confirmed r ∷ later) = omega (arith, rounds_few later)
rounds_few (kinds.Spoke r ∷ later) = omega (arith, rounds_few later)
rounds_few (kinds.Round r ∷ later) = omega (arith, rounds_few later)
rounds_few (kinds.Told r ∷ later) = omega (arith, rounds_few later)

-- what is counted behind records is at most what was counted, and one for each
record IsBounded (row new : RoundRow) (more : ℕ) : Type 0 where
  told : new.told ≤ row.told + more
  confirmed : new.confirmed ≤ row.confirmed + more

same_bounded : (row : RoundRow) → IsBounded row row 1
same_bounded row = record { told = omega arith; confirmed = omega arith }

one_bounded : (now confirmed : Bool) (next : Option (List ℕ)) (row : RoundRow) → IsBounded row (answered_if now confirmed next row) 1
one_bounded true true next row = record { told = omega arith; confirmed = omega arith }
one_bounded true false next row = record { told = omega arith; confirmed = omega arith }
one_bounded false confirmed next row = record { told = omega arith; confirmed = omega arith }

after_bounded : (row : RoundRow) (r : IdpRecord) → IsBounded row (round_after row r) 1
after_bounded row (kinds.Told r) = one_bounded (waits_for r.request row) r.confirmed r.next row
after_bounded row other = same_bounded row

behind_bounded : (row : RoundRow) (later : List IdpRecord) → IsBounded row (round_behind row later) (length later)
behind_bounded row [] = record { told = omega arith; confirmed = omega arith }
behind_bounded row (r ∷ later) =
    let one = after_bounded row r in
    let rest = behind_bounded (round_after row r) later in
    record { told = omega (arith, one.told, rest.told); confirmed = omega (arith, one.confirmed, rest.confirmed) }

pub record AreCounted (records : List IdpRecord) (row : RoundRow) : Type 0 where
  pub told : row.told ≤ length records
  pub confirmed : row.confirmed ≤ length records

one_later : (r : IdpRecord) (later : List IdpRecord) (row : RoundRow) → AreCounted later row → AreCounted (r ∷ later) row
one_later r later row c = record { told = omega (arith, c.told); confirmed = omega (arith, c.confirmed) }

pub counted : (records : List IdpRecord) (k : ℕ) (row : RoundRow) → slice_get (round_rows records) k ≡ Some row → AreCounted records row
counted [] k row there = absurd (cc)
counted (kinds.Pending r ∷ later) k row there = one_later (kinds.Pending r) later row (counted later k row there)
counted (kinds.Issued r ∷ later) k row there = one_later (kinds.Issued r) later row (counted later k row there)
counted (kinds.Ended r ∷ later) k row there = one_later (kinds.Ended r) later row (counted later k row there)
counted (kinds.Left r ∷ later) k row there = one_later (kinds.Left r) later row (counted later k row there)
counted (kinds.Confirmed r ∷ later) k row there = one_later (kinds.Confirmed r) later row (counted later k row there)
counted (kinds.Spoke r ∷ later) k row there = one_later (kinds.Spoke r) later row (counted later k row there)
counted (kinds.Told r ∷ later) k row there = one_later (kinds.Told r) later row (counted later k row there)
counted (kinds.Round r ∷ later) Rattle.std.proofs.Common.zero row there =
    let same : round_behind (round_row r) later ≡ row = cc in
    let b = behind_bounded (round_row r) later in
    record {
      told = omega (arith, b.told, ap (λ (w : RoundRow). w.told) same);
      confirmed = omega (arith, b.confirmed, ap (λ (w : RoundRow). w.confirmed) same);
    }
counted (kinds.Round r ∷ later) (suc k) row there = one_later (kinds.Round r) later row (counted later k row there)
