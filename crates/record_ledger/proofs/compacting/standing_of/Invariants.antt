use Rattle.std.proofs.Common.{◌≡◌, List, Ok, take}
use Rattle.record_ledger.specs.Rules.{records_of}
use Rattle.record_ledger.proofs.compacting.standing_of.Given as goal

abbrev pub invariant-loop-payload : goal.invariant-loop-payload
invariant-loop-payload g l = (records : List g.row.S-Record.Denot) → records_of g.S.Standing.rules 2 l.payloads ≡ Ok records → g.S.Standing.row_rules.stands l.standing (take l.payload-index records)
