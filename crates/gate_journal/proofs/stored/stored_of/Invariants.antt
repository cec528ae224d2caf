use Rattle.std.specs.Prelude.{All}
use Rattle.std.proofs.Common.{◌≡◌, ◌≤◌, ◌++◌, length}
use Rattle.gate_journal.specs.Format.{end_of}
use Rattle.gate_journal.proofs.stored.stored_of.Given as goal

abbrev pub invariant-loop-payload : goal.invariant-loop-payload
invariant-loop-payload l = record {
  place : l.payloads.place ≡ end_of l.records.items;
  each : All (λ payload. length payload ≤ 1048576) l.records.items;
  read : l.records.items ++ l.payloads.payloads ≡ l.text.payloads;
}

abbrev pub decreases-loop-payload : goal.decreases-loop-payload
decreases-loop-payload l = length l.payloads.payloads
