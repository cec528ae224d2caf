use Rattle.std.proofs.Common.{drop}
use Rattle.canon_octets.proofs.Underway.{IsUnderway}
use Rattle.excl_c14n.proofs.Tags.{declared_in}
use Rattle.excl_c14n.proofs.walk.put_declarations.Given as goal

abbrev pub invariant-loop-i : goal.invariant-loop-i
invariant-loop-i g l =
    IsUnderway g.O.Octets.appends l.initial.out l.out (declared_in l.doc.tree (drop l.i l.wanted)) (declared_in l.doc.tree l.wanted)
