use Rattle.std.proofs.Common.{◌≡◌}
use Rattle.excl_c14n.proofs.Tags.{rendered_from}
use Rattle.excl_c14n.proofs.walk.render_all.Given as goal

abbrev pub invariant-loop-i : goal.invariant-loop-i
invariant-loop-i l = l.rendered ≡ rendered_from l.initial.rendered l.wanted l.i
