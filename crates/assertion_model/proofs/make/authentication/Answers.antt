use Rattle.std.proofs.Common.{refl, ◌≢◌, ◌++◌, [], ◌∷◌, codes, sym, ap, ◌∙◌, subst}
use Rattle.std.specs.Char.{encode_utf8}
use Rattle.std.specs.Str.{chars}
use Rattle.xml_spec.proofs.Valid.{name_shown}
use Rattle.std.specs.List.{AllByRecursion}
use Rattle.xml_spec.specs.Tree.{Attribute}
use Rattle.element_make.specs.Made.{Made}
use Rattle.assertion_model.specs.Assertion.{given, given_if_any}
use Rattle.assertion_model.proofs.Joining.{apart, others_behind}
use Rattle.assertion_model.proofs.Writable.{seen_text}
use Rattle.assertion_model.proofs.make.authentication.Goals as goal

pub new-context-requires : goal.new-context-requires
unfolding chars encode_utf8
new-context-requires c = (name_shown _ refl, refl)

pub holding-requires-clause-name : goal.holding-requires-clause-name
unfolding chars encode_utf8
holding-requires-clause-name c = (name_shown _ refl, refl)

pub new-made-requires : goal.new-made-requires
unfolding chars encode_utf8
new-made-requires c = (name_shown _ refl, refl)

pub attr-requires-clause-name : goal.attr-requires-clause-name
unfolding chars encode_utf8
attr-requires-clause-name c = (name_shown _ refl, refl)

pub add_if_any-requires-clause-name : goal.add_if_any-requires-clause-name
unfolding chars encode_utf8
add_if_any-requires-clause-name c = (name_shown _ refl, refl)

pub add_if_any-requires-2-clause-name : goal.add_if_any-requires-2-clause-name
unfolding chars encode_utf8
add_if_any-requires-2-clause-name c = (name_shown _ refl, refl)

pub holding-requires-clause-text : goal.holding-requires-clause-text
holding-requires-clause-text c = seen_text _ refl

pub add_if_any-requires-2-clause-anew : goal.add_if_any-requires-2-clause-anew
add_if_any-requires-2-clause-anew c =
    let wanted = codes "SessionNotOnOrAfter" in
    subst (λ (m : Made). AllByRecursion (λ (a : Attribute). a.name ≢ wanted) m.attributes)
    (sym (c.in_ok-add_if_any.ensures
    ∙ ap (λ (m : Made). record m { attributes = m.attributes ++ given_if_any (codes "SessionIndex") c.args.login.now.index })
    (c.in_ok-attr.ensures.ok ∙ ap (λ (m : Made). record m { attributes = m.attributes ++ given (codes "AuthnInstant") c.as_str.result.now ∷ [] }) c.new-made.ensures)))
    (others_behind wanted (codes "SessionIndex") (given (codes "AuthnInstant") c.as_str.result.now ∷ []) c.args.login.now.index
    (apart (codes "AuthnInstant") wanted refl refl, tt) (apart (codes "SessionIndex") wanted refl refl))
