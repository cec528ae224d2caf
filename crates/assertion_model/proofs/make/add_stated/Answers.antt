use Rattle.std.proofs.Common.{refl, sym, codes, ap, ◌∙◌, subst, arith, ◌++◌, [], ◌∷◌}
use Rattle.std.specs.Char.{encode_utf8}
use Rattle.std.specs.Str.{chars}
use Rattle.xml_spec.proofs.Valid.{name_shown}
use Rattle.xml_spec.specs.Characters.{IsText}
use Rattle.element_make.specs.Made.{Made, alone, joined}
use Rattle.assertion_model.specs.Assertion.{given, part, all_holding, stated, IsStatable}
use Rattle.assertion_model.proofs.Joining.{one_of_all, one_more, all_added}
use Rattle.assertion_model.proofs.make.add_stated.Goals as goal

pub new-stated-requires : goal.new-stated-requires
unfolding chars encode_utf8
new-stated-requires c = (name_shown _ refl, refl)

pub attr-requires-clause-name : goal.attr-requires-clause-name
unfolding chars encode_utf8
attr-requires-clause-name c = (name_shown _ refl, refl)

pub add_all_holding-requires-clause-name : goal.add_all_holding-requires-clause-name
unfolding chars encode_utf8
add_all_holding-requires-clause-name c = (name_shown _ refl, refl)

pub attr-requires-clause-value : goal.attr-requires-clause-value
attr-requires-clause-value c =
    let all = one_of_all IsStatable c.args.attributes.now c.loop-i.i c.at-attribute.result.now c.requires c.at-attribute.ensures in
    subst IsText (sym c.as_str.ensures) all.name

pub add_all_holding-requires-clause-texts : goal.add_all_holding-requires-clause-texts
add_all_holding-requires-clause-texts c =
    let all = one_of_all IsStatable c.args.attributes.now c.loop-i.i c.at-attribute.result.now c.requires c.at-attribute.ensures in
    all.values

pub loop-i-preserved : goal.loop-i-preserved
loop-i-preserved c =
    let a = c.at-attribute.result.now in
    one_more stated c.args.attributes.now c.loop-i.i a c.loop-i.made c.child.new.self _ _ c.at-attribute.ensures c.in_ok-child.ensures.ok
    (ap alone (c.in_ok-add_all_holding.ensures
    ∙ ap (λ (m : Made). record m { kids = joined m.kids (all_holding (codes "AttributeValue") a.values) })
    (c.in_ok-attr.ensures.ok ∙ ap (λ (m : Made). record m { attributes = m.attributes ++ given (codes "Name") c.as_str.result.now ∷ [] }) c.new-stated.ensures))
    ∙ ap (λ n. part (codes "Attribute") (given (codes "Name") n ∷ []) (all_holding (codes "AttributeValue") a.values)) c.as_str.ensures)
    c.loop-i.invariant

pub returns : goal.returns
returns c = all_added stated c.args.attributes.now c.loop-i.made c.args.made.now c.loop-i.i (omega arith) c.loop-i.invariant
