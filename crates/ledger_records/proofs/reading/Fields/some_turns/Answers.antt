use Rattle.std.proofs.lemmas.Result.{err_from_is_err_and}
use Rattle.ledger_records.specs.Reading.{turn_at, many_at}
use Rattle.ledger_records.proofs.Loop.{begins, goes_on, ends, is_done}
use Rattle.ledger_records.proofs.reading.Fields.some_turns.Goals as goal

pub loop-init : goal.loop-init
loop-init c = begins turn_at c.new-turns.result c.args.count c.args.self.now.rest.now c.new-turns.ensures

pub returns-in_err-turn : goal.returns-in_err-turn
returns-in_err-turn c =
    let p = err_from_is_err_and c.from_residual.result c.from_residual.ensures.1 in
    rw (p.1, p.2) (ends turn_at c.in_err-turn.field-0.0 c.loop.turns c.args.count c.loop.counter c.loop.self.rest.now (many_at turn_at c.args.count c.args.self.now.rest.now) c.loop-test.true c.in_err-turn.ensures c.loop.invariant)

pub loop-preserved : goal.loop-preserved
loop-preserved c =
    rw c.in_ok-push.ensures.ok (goes_on turn_at c.loop.turns c.args.count c.loop.counter c.loop.self.rest.now c.in_ok-turn.field-0 c.turn.new.self.rest.now (many_at turn_at c.args.count c.args.self.now.rest.now) c.loop-test.true c.in_ok-turn.ensures c.loop.invariant)

pub returns : goal.returns
returns c = is_done turn_at c.loop.turns c.args.count c.loop.counter c.loop.self.rest.now (many_at turn_at c.args.count c.args.self.now.rest.now) c.loop-test.false c.loop.invariant
