use Rattle.std.specs.Prelude.{IsTrue, ◌↔◌}
use Rattle.std.proofs.Common.{◌<◌, nat_lt, sym, subst}
use Rattle.std.specs.List.{All}
use Rattle.ledger_records.specs.declared.hub_record.HubRecord.{HubRecord}
use Rattle.ledger_rules.specs.Numbers.{Drawn, NUMBER_END}
use Rattle.record_ledger.proofs.Draftable.{one_below}
use Rattle.hub_ledger.specs.Record.{drawn}
use Rattle.hub_ledger.proofs.Draftable.{two_below, three_below}
use Rattle.hub_ledger.proofs.checks.are_before_end.Goals as goal

pub returns-in-Routed : goal.returns-in-Routed
returns-in-Routed c =
    let P = λ (e : HubRecord). IsTrue (nat_lt c.in-Routed.r.first 9223372036854775807) ↔ All (λ (d : Drawn). d.number < NUMBER_END) (drawn e) in
    subst P (sym c.in-Routed.is) (two_below c.in-Routed.r)

pub returns-in-Backed : goal.returns-in-Backed
returns-in-Backed c =
    let P = λ (e : HubRecord). IsTrue (nat_lt c.in-Backed.r.first 9223372036854775806) ↔ All (λ (d : Drawn). d.number < NUMBER_END) (drawn e) in
    subst P (sym c.in-Backed.is) (three_below c.in-Backed.r)

pub returns-in-Spoke : goal.returns-in-Spoke
returns-in-Spoke c =
    let r = c.in-Spoke.r in
    let P = λ (e : HubRecord). IsTrue (nat_lt r.first 9223372036854775808) ↔ All (λ (d : Drawn). d.number < NUMBER_END) (drawn e) in
    subst P (sym c.in-Spoke.is) (one_below (record { number = r.first; id = r.message }))
