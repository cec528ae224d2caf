use Rattle.std.proofs.Common.{refl, codes, ap, ◌∙◌, arith}
use Rattle.std.specs.Char.{encode_utf8}
use Rattle.std.specs.Str.{chars}
use Rattle.xml_spec.proofs.Valid.{name_shown}
use Rattle.std.specs.List.{AllByRecursion}
use Rattle.xml_spec.specs.Characters.{IsText}
use Rattle.element_make.specs.Made.{Made, alone, joined}
use Rattle.assertion_model.specs.Assertion.{all_holding, restriction}
use Rattle.assertion_model.proofs.Joining.{one_of_all, one_more, all_added}
use Rattle.assertion_model.proofs.make.add_restrictions.Goals as goal

pub new-restriction-requires : goal.new-restriction-requires
unfolding chars encode_utf8
new-restriction-requires c = (name_shown _ refl, refl)

pub add_all_holding-requires-clause-name : goal.add_all_holding-requires-clause-name
unfolding chars encode_utf8
add_all_holding-requires-clause-name c = (name_shown _ refl, refl)

pub add_all_holding-requires-clause-texts : goal.add_all_holding-requires-clause-texts
add_all_holding-requires-clause-texts c =
    one_of_all (AllByRecursion IsText) c.args.audiences.now c.loop-i.i c.at.result.now c.requires c.at.ensures

pub loop-i-preserved : goal.loop-i-preserved
loop-i-preserved c =
    one_more restriction c.args.audiences.now c.loop-i.i c.at.result.now c.loop-i.made c.child.new.self _ _ c.at.ensures c.in_ok-child.ensures.ok
    (ap alone (c.in_ok-add_all_holding.ensures
    ∙ ap (λ (m : Made). record m { kids = joined m.kids (all_holding (codes "Audience") c.at.result.now) }) c.new-restriction.ensures)) c.loop-i.invariant

pub returns : goal.returns
returns c = all_added restriction c.args.audiences.now c.loop-i.made c.args.made.now c.loop-i.i (omega arith) c.loop-i.invariant
