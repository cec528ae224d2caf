use Rattle.std.proofs.Common.{arith}
use Rattle.http_wire.proofs.Cutting.{first_place, no_place}
use Rattle.http_wire.proofs.cut.before_first.Goals as goal

pub returns-then-byte-stop : goal.returns-then-byte-stop
returns-then-byte-stop c = first_place c.args.bytes.now c.args.stop c.loop-i.i (omega arith) c.loop-i.invariant (λ h. c.if-byte-stop.true)

pub returns : goal.returns
returns c = no_place c.args.bytes.now c.args.stop c.loop-i.i (omega arith) c.loop-i.invariant
