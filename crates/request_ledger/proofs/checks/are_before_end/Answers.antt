use Rattle.std.specs.Prelude.{IsTrue, ◌↔◌}
use Rattle.std.proofs.Common.{◌<◌, nat_lt, sym, subst}
use Rattle.std.specs.List.{All}
use Rattle.ledger_records.specs.declared.sp_record.SpRecord.{SpRecord}
use Rattle.ledger_rules.specs.Numbers.{Drawn, NUMBER_END}
use Rattle.request_ledger.specs.Record.{drawn}
use Rattle.record_ledger.proofs.Draftable.{one_below}
use Rattle.request_ledger.proofs.Draftable.{two_below}
use Rattle.request_ledger.proofs.checks.are_before_end.Goals as goal

pub returns-in-Asked : goal.returns-in-Asked
returns-in-Asked c =
    let P = λ (e : SpRecord). IsTrue (nat_lt c.in-Asked.r.first 9223372036854775807) ↔ All (λ (d : Drawn). d.number < NUMBER_END) (drawn e) in
    subst P (sym c.in-Asked.is) (two_below c.in-Asked.r)

pub returns-in-Opened : goal.returns-in-Opened
returns-in-Opened c =
    let r = c.in-Opened.r in
    let P = λ (e : SpRecord). IsTrue (nat_lt r.first 9223372036854775808) ↔ All (λ (d : Drawn). d.number < NUMBER_END) (drawn e) in
    subst P (sym c.in-Opened.is) (one_below (record { number = r.first; id = r.token }))

pub returns-in-Left : goal.returns-in-Left
returns-in-Left c =
    let r = c.in-Left.r in
    let P = λ (e : SpRecord). IsTrue (nat_lt r.first 9223372036854775808) ↔ All (λ (d : Drawn). d.number < NUMBER_END) (drawn e) in
    subst P (sym c.in-Left.is) (one_below (record { number = r.first; id = r.request }))

pub returns-in-Ended : goal.returns-in-Ended
returns-in-Ended c =
    let r = c.in-Ended.r in
    let P = λ (e : SpRecord). IsTrue (nat_lt r.first 9223372036854775808) ↔ All (λ (d : Drawn). d.number < NUMBER_END) (drawn e) in
    subst P (sym c.in-Ended.is) (one_below (record { number = r.first; id = r.message }))
