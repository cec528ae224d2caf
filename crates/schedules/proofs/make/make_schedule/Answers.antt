use Rattle.std.proofs.Common.{length, ap, refl, arith}
use Rattle.schedules.proofs.Making.{one_made, few_made}
use Rattle.schedules.proofs.make.make_schedule.Goals as goal

pub of-requires : goal.of-requires
of-requires c = omega (arith, few_made c.loop-i.i c.args.start, ap length c.loop-i.invariant.steps_are)

pub loop-i-preserved : goal.loop-i-preserved
loop-i-preserved c =
    one_made c.loop-i.i c.args.start c.loop-i.number _ c.loop-i.steps.items c.put_login.new.steps.items c.put_more.new.steps.items
    c.loop-i.invariant refl c.in_ok-put_login.ensures c.in_ok-put_more.ensures
