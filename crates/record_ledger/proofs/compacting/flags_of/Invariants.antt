use Rattle.std.proofs.Common.{◌≡◌, List, Ok, map, take}
use Rattle.record_ledger.specs.Rules.{records_of}
use Rattle.record_ledger.specs.Linking.{IsLinked}
use Rattle.record_ledger.proofs.compacting.flags_of.Given as goal

abbrev pub invariant-loop-payload : goal.invariant-loop-payload
invariant-loop-payload g l = record {
  links : (records : List g.row.S-Record.Denot) → records_of g.S.Standing.rules 2 l.journal.kept.holds.payloads ≡ Ok records → IsLinked g.S.Standing.rules g.S.Standing.link_rules (take l.payload-index records) l.links;
  seen : (records : List g.row.S-Record.Denot) → records_of g.S.Standing.rules 2 l.journal.kept.holds.payloads ≡ Ok records
      → l.seen.items ≡ map (g.S.Standing.rules.has_visible l.now l.horizon) (take l.payload-index records);
}
