use Rattle.std.proofs.Common.{arith}
use Rattle.http_wire.proofs.Numbers.{number_more}
use Rattle.http_wire.proofs.lines.number_of.Goals as goal

pub loop-digit-preserved : goal.loop-digit-preserved
loop-digit-preserved c =
    number_more c.args.digits.now c.loop-digit.digit-index c.loop-digit.number _ (omega arith) c.requires c.loop-digit.invariant.0 c.loop-digit.invariant.1 c.from.ensures
