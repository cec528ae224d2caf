use Rattle.std.proofs.Common.{◌≡◌, length}
use Rattle.http_wire.specs.Cookies.{cookie_value, value_in}
use Rattle.http_wire.proofs.cookie.cookie_of.Given as goal

abbrev pub invariant-loop-piece : goal.invariant-loop-piece
invariant-loop-piece l = cookie_value l.header l.name ≡ value_in l.name l.pieces

abbrev pub decreases-loop-piece : goal.decreases-loop-piece
decreases-loop-piece l = length l.pieces
