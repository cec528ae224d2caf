use Rattle.std.proofs.Common.{refl, ◌≡◌, ◌≢◌, true, false, [], sym, ap, ◌∙◌}
use Rattle.std.specs.Char.{encode_utf8}
use Rattle.std.specs.Str.{chars}
use Rattle.xml_spec.proofs.Valid.{name_shown}
use Rattle.element_make.specs.Made.{Made, alone, joined}
use Rattle.assertion_model.specs.Assertion.{joined_all, stated}
use Rattle.assertion_model.proofs.Joining.{none_stated, some_stated}
use Rattle.assertion_model.proofs.make.add_statements.Goals as goal

pub new-statement-requires : goal.new-statement-requires
unfolding chars encode_utf8
new-statement-requires c = (name_shown _ refl, refl)

pub returns-then-is_empty : goal.returns-then-is_empty
returns-then-is_empty c = none_stated c.args.made.now c.args.attributes.now (c.is_empty.ensures.0 c.if-is_empty.true)

pub returns : goal.returns
returns c =
    let made = c.args.made.now in
    let some : c.args.attributes.now ≢ [] =
    λ none. let clash : false ≡ true = sym c.if-is_empty.false ∙ c.is_empty.ensures.1 none in cc in
    c.in_ok-child.ensures.ok
    ∙ ap (λ nodes. record made { kids = joined made.kids nodes }) (
    ap alone (c.in_ok-add_stated.ensures ∙ ap (λ (m : Made). record m { kids = joined m.kids (joined_all stated c.args.attributes.now) }) c.new-statement.ensures)
    ∙ some_stated c.args.attributes.now some
    )
