use Rattle.std.proofs.Common.{◌≡◌, take}
use Rattle.ledger_rules.specs.Kept.{selected}
use Rattle.record_ledger.proofs.compacting.payloads_of.Given as goal

abbrev pub invariant-loop-place : goal.invariant-loop-place
invariant-loop-place l = l.payloads.items ≡ selected (take l.place l.flags) (take l.place l.journal.kept.holds.payloads)
