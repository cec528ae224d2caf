use Rattle.std.proofs.Common.{◌≡◌, true, false, ap, sym, ◌∙◌, below_more}
use Rattle.std.specs.Ordering.{is_le}
use Rattle.xml_spec.specs.Canonical.{byte_order}
use Rattle.element_make.specs.declared.tag.Lent.{Lent}
use Rattle.element_make.proofs.Lists.{at_any}
use Rattle.element_make.proofs.tag.place_of.Goals as goal

pub loop-place-preserved : goal.loop-place-preserved
loop-place-preserved c k d =
    below_more _ _ (λ k h. c.loop-place.invariant k d h)
    (at_any (λ (other : Lent). is_le (byte_order c.args.attribute.name.now other.name.now) ≡ false) c.args.others.now c.loop-place.place _ d
    c.loop-place-test.true (ap is_le (sym c.cmp.ensures) ∙ sym c.is_le.ensures ∙ c.if-is_le.false)) k

pub returns-then-is_le-clause-place : goal.returns-then-is_le-clause-place
returns-then-is_le-clause-place c d h =
    at_any (λ (other : Lent). is_le (byte_order c.args.attribute.name.now other.name.now) ≡ true) c.args.others.now c.loop-place.place _ d
    c.loop-place-test.true (ap is_le (sym c.cmp.ensures) ∙ sym c.is_le.ensures ∙ c.if-is_le.true)
