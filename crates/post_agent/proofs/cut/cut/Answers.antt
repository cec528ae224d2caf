use Rattle.std.proofs.Common.{sym, arith}
use Rattle.post_agent.proofs.Cutting.{cut_found, no_cut}
use Rattle.post_agent.proofs.cut.cut.Goals as goal

pub returns-then-byte-stop : goal.returns-then-byte-stop
returns-then-byte-stop c =
    cut_found c.args.stop c.args.bytes.now c.loop-i.i c.loop-i-test.true c.loop-i.invariant c.if-byte-stop.true

pub returns : goal.returns
returns c = sym (no_cut c.args.stop c.args.bytes.now (λ k h. c.loop-i.invariant k (omega (arith, c.loop-i-test.false))))
