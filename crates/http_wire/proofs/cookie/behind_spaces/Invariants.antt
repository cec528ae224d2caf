use Rattle.std.proofs.Common.{◌≡◌, length}
use denote.Shadow.{shadow}
use denote.Text.{Utf8}
use Rattle.http_wire.specs.Cookies.{behind_spaces}
use Rattle.http_wire.proofs.cookie.behind_spaces.Given as goal

abbrev pub invariant-loop-behind : goal.invariant-loop-behind
invariant-loop-behind l = (behind_spaces l.text ≡ behind_spaces l.rest) × shadow (Utf8 l.rest)

abbrev pub decreases-loop-behind : goal.decreases-loop-behind
decreases-loop-behind l = length l.rest
