use Rattle.std.proofs.lemmas.Result.{err_from_is_err_and}
use Rattle.ledger_records.specs.Reading.{attribute_at, many_at}
use Rattle.ledger_records.proofs.Loop.{begins, goes_on, ends, is_done}
use Rattle.ledger_records.proofs.reading.Fields.some_attributes.Goals as goal

pub loop-init : goal.loop-init
loop-init c = begins attribute_at c.new-attributes.result c.args.count c.args.self.now.rest.now c.new-attributes.ensures

pub returns-in_err-attribute : goal.returns-in_err-attribute
returns-in_err-attribute c =
    let p = err_from_is_err_and c.from_residual.result c.from_residual.ensures.1 in
    rw (p.1, p.2) (ends attribute_at c.in_err-attribute.field-0.0 c.loop.attributes c.args.count c.loop.counter c.loop.self.rest.now (many_at attribute_at c.args.count c.args.self.now.rest.now) c.loop-test.true c.in_err-attribute.ensures c.loop.invariant)

pub loop-preserved : goal.loop-preserved
loop-preserved c =
    rw c.in_ok-push.ensures.ok (goes_on attribute_at c.loop.attributes c.args.count c.loop.counter c.loop.self.rest.now c.in_ok-attribute.field-0 c.attribute.new.self.rest.now (many_at attribute_at c.args.count c.args.self.now.rest.now) c.loop-test.true c.in_ok-attribute.ensures c.loop.invariant)

pub returns : goal.returns
returns c = is_done attribute_at c.loop.attributes c.args.count c.loop.counter c.loop.self.rest.now (many_at attribute_at c.args.count c.args.self.now.rest.now) c.loop-test.false c.loop.invariant
