use Rattle.std.proofs.Common.{ap, sym, ◌∙◌, Some, arith}
use Rattle.element_make.specs.Made.{Made, value_of}
use Rattle.element_make.specs.Views.{attribute_views}
use Rattle.element_make.proofs.Attributes.{value_passed, value_found, no_value}
use Rattle.element_make.proofs.element.Made.attr_value.Goals as goal

pub loop-attribute-init : goal.loop-attribute-init
loop-attribute-init c =
    ap (λ (m : Made). value_of c.args.local.now m.attributes) (sym c.self.view_is)
    ∙ ap (λ kept. value_of c.args.local.now (attribute_views kept)) (sym c.deref-attribute-items.ensures.value)

pub loop-attribute-preserved : goal.loop-attribute-preserved
loop-attribute-preserved c =
    c.loop-attribute.invariant
    ∙ value_passed c.args.local.now c.deref-attribute-items.result.now c.loop-attribute.attribute-index c.attribute-item.result
    c.loop-attribute-test.true c.attribute-item.is (sym c.eq.ensures ∙ c.if-eq.false)

pub returns-then-eq : goal.returns-then-eq
returns-then-eq c =
    ap (λ v. Some v) c.as_str.ensures.value
    ∙ sym (value_found c.args.local.now c.deref-attribute-items.result.now c.loop-attribute.attribute-index c.attribute-item.result
    c.loop-attribute-test.true c.attribute-item.is (sym c.eq.ensures ∙ c.if-eq.true))
    ∙ sym c.loop-attribute.invariant

pub returns : goal.returns
returns c =
    sym (no_value c.args.local.now c.deref-attribute-items.result.now c.loop-attribute.attribute-index (omega arith))
    ∙ sym c.loop-attribute.invariant
