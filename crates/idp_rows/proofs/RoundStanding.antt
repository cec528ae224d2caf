-- What a Round and a Told draw and name.
use Rattle.std.proofs.Common.{◌≡◌, ℕ, ◌+◌, true, List, [], ◌∷◌, Some, sym, ap, ◌∙◌}
use Rattle.ledger_records.specs.declared.idp_round.Round.{Round}
use Rattle.ledger_records.specs.declared.idp_round.Told.{Told}
use Rattle.ledger_records.specs.declared.idp_record.IdpRecord.TheVariants as kinds
use Rattle.ledger_rules.specs.Numbers.{Drawn, are_fresh}
use Rattle.idp_rows.specs.RowsOf.{IdpRows}
use Rattle.idp_rows.specs.Record.{is_next, next_drawn}
use Rattle.idp_rows.proofs.StandingRows.{IsFresh, first_fresh, later_fresh, next_parts}

abbrev pub answer_of : Round → Drawn
answer_of r = record { number = r.first; id = r.message }

abbrev pub request_of : Round → Drawn
request_of r = record { number = r.first + 1; id = r.request }

pub fresh_answer : (rows : IdpRows) (next : ℕ) (r : Round) → is_next rows next (kinds.Round r) ≡ true → IsFresh next r.first r.message
fresh_answer rows next r is = first_fresh next (answer_of r) (request_of r ∷ []) (next_parts rows next (kinds.Round r) is).fresh

pub fresh_request : (rows : IdpRows) (next : ℕ) (r : Round) → is_next rows next (kinds.Round r) ≡ true → IsFresh next (r.first + 1) r.request
fresh_request rows next r is =
    first_fresh next (request_of r) [] (later_fresh next (answer_of r) (request_of r ∷ []) (next_parts rows next (kinds.Round r) is).fresh)

pub fresh_next : (rows : IdpRows) (next : ℕ) (r : Told) (id : List ℕ) → r.next ≡ Some id → is_next rows next (kinds.Told r) ≡ true → IsFresh next r.first id
fresh_next rows next r id some is =
    first_fresh next (record { number = r.first; id = id }) []
    (ap (λ n. are_fresh next (next_drawn r.first n)) (sym some) ∙ (next_parts rows next (kinds.Told r) is).fresh)
