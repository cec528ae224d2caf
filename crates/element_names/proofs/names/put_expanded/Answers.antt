use Rattle.std.proofs.Common.{ap, ◌∙◌}
use Rattle.element_names.proofs.NameKeys.{proper_added, proper_passed}
use Rattle.element_names.proofs.names.put_expanded.Goals as goal
use Rattle.element_names.proofs.names.put_expanded.Goals.{then-name+in_ok-push, else-name}

pub loop-name-preserved : goal.loop-name-preserved
loop-name-preserved c =
    elim c.if-name.branch [
      | then-name+in_ok-push w ↦
          proper_added c.args.names.now c.loop-name.name-index _ c.loop-name.keys.items c.if-name.keys.items c.loop-name-test.true
          c.loop-name.invariant w.if-name.true (ap (λ v. v.items) w.keys-is ∙ w.in_ok-push.ensures.items)
      | else-name w ↦
          proper_passed c.args.names.now c.loop-name.name-index _ c.loop-name.keys.items c.if-name.keys.items c.loop-name-test.true
          c.loop-name.invariant w.if-name.false (ap (λ v. v.items) w.keys-is)
    ]
