use Rattle.std.proofs.Common.{◌≡◌, subst}
use Rattle.meta_registry.specs.Faults.{IsRegistryOf}
use Rattle.meta_registry.proofs.OneFault.{refused_once}
use Rattle.meta_registry.proofs.Outcomes.{same_tree, never_both}
use Rattle.meta_registry.proofs.laws.a_text_has_one_outcome.Goals as goal

pub returns-clause-registry : goal.returns-clause-registry
returns-clause-registry c text key other one second is is_too =
    let same : is_too.tree ≡ is.tree = c.no_bytes_spell_two_trees.ensures text is_too.tree is.tree is_too.spelled.spells is.spelled.spells in
    same_tree key other is.tree one second is.root (subst (λ tree. IsRegistryOf other tree 0 second) same is_too.root)

pub returns-clause-never_both : goal.returns-clause-never_both
returns-clause-never_both c text key registry fault is refused =
    never_both text key registry fault (c.no_bytes_spell_two_trees.ensures text) is refused

pub returns-clause-refused : goal.returns-clause-refused
returns-clause-refused c text key one other is is_too known known_too =
    refused_once text key one other (c.no_bytes_spell_two_trees.ensures text) is is_too known known_too
