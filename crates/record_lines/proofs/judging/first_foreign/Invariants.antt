use Rattle.std.proofs.Common.{◌≡◌, length}
use Rattle.record_lines.proofs.JudgedPayloads.{IsMidway}
use Rattle.record_lines.proofs.judging.first_foreign.Given as goal

abbrev pub invariant-loop-payload : goal.invariant-loop-payload
invariant-loop-payload g l = record {
  same : l.place ≡ l.payloads.place;
  midway : IsMidway g.S.Standing.rules g.S.Standing.row_rules.stands l.version l.file.payloads l.payloads.payloads l.place l.standing;
}

abbrev pub decreases-loop-payload : goal.decreases-loop-payload
decreases-loop-payload g l = length l.payloads.payloads
