use Rattle.std.proofs.Common.{◌≡◌, ◌≤◌, ◌-◌, ℕ, List, length, drop}
use Rattle.gate_journal.specs.Format.{payloads_of, payloads_from}
use Rattle.gate_journal.proofs.Payloads.{prefixed}
use Rattle.gate_journal.proofs.texts.walk.Given as goal

abbrev pub invariant-loop-gate : goal.invariant-loop-gate
invariant-loop-gate l = record {
  within : l.at ≤ length l.file;
  read : (passed : List (List ℕ)) × (payloads_of l.longest l.file ≡ prefixed passed (payloads_from l.longest l.at l.gate (drop l.at l.file)));
}

abbrev pub decreases-loop-gate : goal.decreases-loop-gate
decreases-loop-gate l = length l.file - l.at
