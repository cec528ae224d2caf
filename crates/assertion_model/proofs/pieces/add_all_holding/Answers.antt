use Rattle.std.proofs.Common.{sym, ap, ◌∙◌, subst, arith}
use Rattle.xml_spec.specs.Characters.{IsText}
use Rattle.assertion_model.specs.Assertion.{holding}
use Rattle.assertion_model.proofs.Joining.{one_of_all, one_more, all_added}
use Rattle.assertion_model.proofs.pieces.add_all_holding.Goals as goal

pub holding-requires-clause-text : goal.holding-requires-clause-text
holding-requires-clause-text c =
    subst IsText (sym c.as_str.ensures) (one_of_all IsText c.args.texts.now c.loop-i.i c.at.result.now c.requires.texts c.at.ensures)

pub loop-i-preserved : goal.loop-i-preserved
loop-i-preserved c =
    one_more (holding c.args.local.now) c.args.texts.now c.loop-i.i c.at.result.now c.loop-i.made c.child.new.self _ _ c.at.ensures
    c.in_ok-child.ensures.ok (c.in_ok-holding.ensures ∙ ap (holding c.args.local.now) c.as_str.ensures) c.loop-i.invariant

pub returns : goal.returns
returns c =
    all_added (holding c.args.local.now) c.args.texts.now c.loop-i.made c.args.made.now c.loop-i.i (omega arith) c.loop-i.invariant
