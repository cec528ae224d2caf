use Rattle.std.proofs.Common.{[], Option, Some, ap, subst, refl, ◌∙◌}
use Rattle.std.specs.List.{cons_option}
use Rattle.std.specs.Option.{option_map}
use Rattle.xml_spec.specs.Names.{Binding}
use Rattle.element_names.specs.Spaces.{Binds}
use Rattle.element_names.specs.Tables.{added}
use Rattle.element_names.proofs.Bindings.{binds_one}
use Rattle.element_names.proofs.spaces.Spaces.declare.Goals as goal

pub returns-in_ok-declare-in-Some-clause-ok : goal.returns-in_ok-declare-in-Some-clause-ok
returns-in_ok-declare-in-Some-clause-ok c =
    let before = c.args.self.now in
    let value = c.args.attribute.now.value in
    let text = c.as_str.ensures.value ∙ c.in_ok-namespace-in-Some.ensures in
    let named = c.in-Some.ensures in
    subst (λ (o : Option Binding). Binds before (record { table = c.add.new.self; scope = c.declare.new.self; levels = before.levels }) (cons_option o []))
    (ap (option_map (λ p. record { prefix = p; namespace = value })) named)
    (binds_one before (record { table = c.add.new.self; scope = c.declare.new.self; levels = before.levels }) c.in-Some.prefix.now value c.in_ok-number-in-Some.number
    c.requires.ready (c.in_ok-number-in-Some.ensures.table ∙ ap (added before.table) text)
    (c.in_ok-number-in-Some.ensures.number ∙ ap Some text) c.in_ok-declare-in-Some.ensures.ok refl)
