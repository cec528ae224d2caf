use Rattle.std.proofs.Common.{◌≡◌, length}
use denote.Shadow.{shadow}
use denote.Text.{Utf8}
use Rattle.sp_server.specs.Guard.{are_plain, between_slashes}
use Rattle.sp_server.proofs.guard.are_plain.Given as goal

abbrev pub invariant-loop-segment : goal.invariant-loop-segment
invariant-loop-segment l =
    (are_plain (between_slashes l.segments) ≡ are_plain (between_slashes l.rest)) × shadow (Utf8 l.rest)

abbrev pub decreases-loop-segment : goal.decreases-loop-segment
decreases-loop-segment l = length l.rest
