use Rattle.std.proofs.Common.{◌≡◌, length, reverse}
use denote.Shadow.{shadow}
use denote.Text.{Utf8}
use Rattle.http_wire.specs.Cookies.{behind_spaces}
use Rattle.http_wire.proofs.cookie.before_spaces.Given as goal

abbrev pub invariant-loop-front : goal.invariant-loop-front
invariant-loop-front l = (behind_spaces (reverse l.text) ≡ behind_spaces (reverse l.rest)) × shadow (Utf8 l.rest)

abbrev pub decreases-loop-front : goal.decreases-loop-front
decreases-loop-front l = length l.rest
