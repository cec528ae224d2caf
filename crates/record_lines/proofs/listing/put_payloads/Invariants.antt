use Rattle.std.proofs.Common.{length}
use Rattle.canon_octets.proofs.Underway.{IsUnderway}
use Rattle.record_lines.specs.Reading.{lines_read}
use Rattle.record_lines.proofs.listing.put_payloads.Given as goal

abbrev pub invariant-loop-payload : goal.invariant-loop-payload
invariant-loop-payload g l = IsUnderway g.P.Octets.appends l.fn.place l.place (lines_read g.S.Standing.rules g.S.Lines.line l.version l.payloads.payloads) (lines_read g.S.Standing.rules g.S.Lines.line l.version l.initial.payloads.payloads)

abbrev pub decreases-loop-payload : goal.decreases-loop-payload
decreases-loop-payload g l = length l.payloads.payloads
