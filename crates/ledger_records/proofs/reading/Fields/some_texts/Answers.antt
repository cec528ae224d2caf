use Rattle.std.proofs.lemmas.Result.{err_from_is_err_and}
use Rattle.ledger_records.specs.Reading.{text_at, many_at}
use Rattle.ledger_records.proofs.Loop.{begins, goes_on, ends, is_done}
use Rattle.ledger_records.proofs.reading.Fields.some_texts.Goals as goal

pub loop-init : goal.loop-init
loop-init c = begins text_at c.new-texts.result c.args.count c.args.self.now.rest.now c.new-texts.ensures

pub returns-in_err-text : goal.returns-in_err-text
returns-in_err-text c =
    let p = err_from_is_err_and c.from_residual.result c.from_residual.ensures.1 in
    rw (p.1, p.2) (ends text_at c.in_err-text.field-0.0 c.loop.texts c.args.count c.loop.counter c.loop.self.rest.now (many_at text_at c.args.count c.args.self.now.rest.now) c.loop-test.true c.in_err-text.ensures c.loop.invariant)

pub loop-preserved : goal.loop-preserved
loop-preserved c =
    rw c.in_ok-push.ensures.ok (goes_on text_at c.loop.texts c.args.count c.loop.counter c.loop.self.rest.now c.in_ok-text.field-0 c.text.new.self.rest.now (many_at text_at c.args.count c.args.self.now.rest.now) c.loop-test.true c.in_ok-text.ensures c.loop.invariant)

pub returns : goal.returns
returns c = is_done text_at c.loop.texts c.args.count c.loop.counter c.loop.self.rest.now (many_at text_at c.args.count c.args.self.now.rest.now) c.loop-test.false c.loop.invariant
