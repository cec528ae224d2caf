use Rattle.std.proofs.Common.{ap, ◌∙◌, arith}
use Rattle.element_make.specs.Views.{lent_views}
use Rattle.canon_octets.proofs.Appending.{on_err}
use Rattle.element_make.proofs.Attributes.{one_more_put, one_broken_off}
use Rattle.element_make.proofs.tag.put_attributes.Goals as goal

pub returns-in_err-put_attribute-clause-err : goal.returns-in_err-put_attribute-clause-err
returns-in_err-put_attribute-clause-err g c =
    on_err c.from_residual-in_err-put_attribute.result
    (one_broken_off g.met.O.Octets.composes c.deref-attribute-items.result.now c.args.out.now c.loop-attribute.out c.put_attribute.new.out c.loop-attribute.attribute-index _ _
    (ap lent_views c.deref-attribute-items.ensures.value ∙ c.in_ok-order.ensures) (omega arith) c.loop-attribute.invariant c.in_err-put_attribute.ensures.err)

pub loop-attribute-preserved : goal.loop-attribute-preserved
loop-attribute-preserved g c =
    one_more_put g.met.O.Octets.composes c.deref-attribute-items.result.now c.args.out.now c.loop-attribute.out c.put_attribute.new.out c.loop-attribute.attribute-index _
    (omega arith) c.loop-attribute.invariant c.in_ok-put_attribute.ensures.ok
