use Rattle.std.proofs.Common.{◌≢◌, refl, sym, subst}
use Rattle.std.specs.List.{AllByRecursion}
use Rattle.xml_spec.specs.Tree.{Attribute}
use Rattle.element_make.specs.Made.{Made}
use Rattle.element_make.proofs.Content.{kept_with_attribute, seen_with_attribute}
use Rattle.element_make.proofs.element.Made.attr.Goals as goal

pub invariant_of-self-2 : goal.invariant_of-self-2
invariant_of-self-2 c =
    kept_with_attribute c.self.inside.tag c.self.inside.content.items (record { name = c.args.local; value = c.in_ok-value.value }) c.push.new.self c.args.local.now c.args.value.now refl
    c.in_ok-value.ensures.ok c.in_ok-push.ensures.items c.self.invariant c.requires.name c.requires.no_declaration c.requires.value
    (subst (λ (m : Made). AllByRecursion (λ (a : Attribute). a.name ≢ c.args.local.now) m.attributes) (sym c.self.view_is) c.requires.anew)

pub returns-clause-ok : goal.returns-clause-ok
returns-clause-ok c =
    seen_with_attribute c.self.inside.tag c.self.inside.content.items (record { name = c.args.local; value = c.in_ok-value.value }) c.push.new.self c.args.local.now c.args.value.now refl
    c.in_ok-value.ensures.ok c.in_ok-push.ensures.items c.args.self.now c.self.view_is
