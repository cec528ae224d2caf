use Rattle.std.proofs.Common.{refl, ◌≢◌, ◌++◌, [], codes, sym, ap, ◌∙◌, subst}
use Rattle.std.specs.Char.{encode_utf8}
use Rattle.std.specs.Str.{chars}
use Rattle.xml_spec.proofs.Valid.{name_shown}
use Rattle.std.specs.List.{AllByRecursion}
use Rattle.xml_spec.specs.Tree.{Attribute}
use Rattle.element_make.specs.Made.{Made}
use Rattle.assertion_model.specs.Assertion.{given_if_any}
use Rattle.assertion_model.proofs.Joining.{apart, others_behind}
use Rattle.assertion_model.proofs.make.conditions.Goals as goal

pub new-made-requires : goal.new-made-requires
unfolding chars encode_utf8
new-made-requires c = (name_shown _ refl, refl)

pub add_if_any-requires-clause-name : goal.add_if_any-requires-clause-name
unfolding chars encode_utf8
add_if_any-requires-clause-name c = (name_shown _ refl, refl)

pub add_if_any-requires-2-clause-name : goal.add_if_any-requires-2-clause-name
unfolding chars encode_utf8
add_if_any-requires-2-clause-name c = (name_shown _ refl, refl)

pub add_if_any-requires-2-clause-anew : goal.add_if_any-requires-2-clause-anew
add_if_any-requires-2-clause-anew c =
    let wanted = codes "NotOnOrAfter" in
    subst (λ (m : Made). AllByRecursion (λ (a : Attribute). a.name ≢ wanted) m.attributes)
    (sym (c.in_ok-add_if_any.ensures
    ∙ ap (λ (m : Made). record m { attributes = m.attributes ++ given_if_any (codes "NotBefore") c.args.moments.now.not_before }) c.new-made.ensures))
    (others_behind wanted (codes "NotBefore") [] c.args.moments.now.not_before tt (apart (codes "NotBefore") wanted refl refl))
