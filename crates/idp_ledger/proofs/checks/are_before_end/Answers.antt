use Rattle.std.specs.Prelude.{IsTrue, ◌↔◌}
use Rattle.std.proofs.Common.{◌<◌, ◌∷◌, [], nat_lt, sym, subst}
use Rattle.std.specs.List.{All}
use Rattle.ledger_records.specs.declared.idp_record.IdpRecord.{IdpRecord}
use Rattle.ledger_rules.specs.Numbers.{Drawn, NUMBER_END}
use Rattle.idp_rows.specs.RowsOf.{if_pending}
use Rattle.idp_rows.specs.Record.{drawn, next_drawn}
use Rattle.record_ledger.proofs.Draftable.{one_below}
use Rattle.idp_ledger.proofs.Draftable.{both_below, two_below, four_below, one_of, two_of, three_of, four_of}
use Rattle.idp_ledger.proofs.checks.are_before_end.Goals as goal

pub returns-in-Round : goal.returns-in-Round
returns-in-Round c =
    let r = c.in-Round.r in
    let P = λ (e : IdpRecord). IsTrue (nat_lt r.first 9223372036854775807) ↔ All (λ (d : Drawn). d.number < NUMBER_END) (drawn e) in
    subst P (sym c.in-Round.is) (both_below r.first r.message r.request)

pub returns-in-Some-next : goal.returns-in-Some-next
returns-in-Some-next c =
    let r = c.in-Told.r in
    let P = λ (e : IdpRecord). IsTrue (nat_lt r.first 9223372036854775808) ↔ All (λ (d : Drawn). d.number < NUMBER_END) (drawn e) in
    subst P (sym c.in-Told.is)
    (subst (λ n. IsTrue (nat_lt r.first 9223372036854775808) ↔ All (λ (d : Drawn). d.number < NUMBER_END) (next_drawn r.first n)) (sym c.in-Some-next.is)
    (one_below (record { number = r.first; id = c.in-Some-next.field-0 })))

pub returns-in-Pending : goal.returns-in-Pending
returns-in-Pending c =
    let r = c.in-Pending.r in
    let P = λ (e : IdpRecord). IsTrue (nat_lt r.first 9223372036854775808) ↔ All (λ (d : Drawn). d.number < NUMBER_END) (drawn e) in
    subst P (sym c.in-Pending.is) (one_below (record { number = r.first; id = r.pending }))

pub returns-in-Ended : goal.returns-in-Ended
returns-in-Ended c =
    let r = c.in-Ended.r in
    let P = λ (e : IdpRecord). IsTrue (nat_lt r.first 9223372036854775808) ↔ All (λ (d : Drawn). d.number < NUMBER_END) (drawn e) in
    subst P (sym c.in-Ended.is) (one_below (record { number = r.first; id = r.message }))

pub returns-in-Left : goal.returns-in-Left
returns-in-Left c =
    let r = c.in-Left.r in
    let P = λ (e : IdpRecord). IsTrue (nat_lt r.first 9223372036854775808) ↔ All (λ (d : Drawn). d.number < NUMBER_END) (drawn e) in
    subst P (sym c.in-Left.is) (one_below (record { number = r.first; id = r.request }))

pub returns-in-Spoke : goal.returns-in-Spoke
returns-in-Spoke c =
    let r = c.in-Spoke.r in
    let P = λ (e : IdpRecord). IsTrue (nat_lt r.first 9223372036854775808) ↔ All (λ (d : Drawn). d.number < NUMBER_END) (drawn e) in
    subst P (sym c.in-Spoke.is) (one_below (record { number = r.first; id = r.message }))

pub returns-in-Some : goal.returns-in-Some
returns-in-Some c =
    let r = c.in-Issued.r in
    let P = λ (e : IdpRecord). IsTrue (nat_lt r.first 9223372036854775805) ↔ All (λ (d : Drawn). d.number < NUMBER_END) (drawn e) in
    subst P (sym c.in-Issued.is)
    (subst (λ p. IsTrue (nat_lt r.first 9223372036854775805) ↔ All (λ (d : Drawn). d.number < NUMBER_END) (one_of r ∷ two_of r ∷ if_pending p (three_of r ∷ four_of r ∷ []))) (sym c.in-Some.is) (four_below r))

pub returns-in-None : goal.returns-in-None
returns-in-None c =
    let r = c.in-Issued.r in
    let P = λ (e : IdpRecord). IsTrue (nat_lt r.first 9223372036854775807) ↔ All (λ (d : Drawn). d.number < NUMBER_END) (drawn e) in
    subst P (sym c.in-Issued.is)
    (subst (λ p. IsTrue (nat_lt r.first 9223372036854775807) ↔ All (λ (d : Drawn). d.number < NUMBER_END) (one_of r ∷ two_of r ∷ if_pending p (three_of r ∷ four_of r ∷ []))) (sym c.in-None.is) (two_below r))
