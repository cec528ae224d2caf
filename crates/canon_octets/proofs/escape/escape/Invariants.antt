use Rattle.std.proofs.Common.{length}
use Rattle.std.specs.List.{flat_map}
use Rattle.canon_octets.specs.Escapes.{escape_byte}
use Rattle.canon_octets.proofs.Underway.{IsUnderway}
use Rattle.canon_octets.proofs.escape.escape.Given as goal

abbrev pub invariant-pieces : goal.invariant-pieces
invariant-pieces g l = IsUnderway g.O.Octets.appends l.fn.out l.out (flat_map (escape_byte l.place) l.rest) (flat_map (escape_byte l.place) l.bytes)

abbrev pub decreases-pieces : goal.decreases-pieces
decreases-pieces g l = length l.rest
