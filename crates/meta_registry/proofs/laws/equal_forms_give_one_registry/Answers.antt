use Rattle.std.proofs.Common.{Some, ap}
use Rattle.meta_registry.specs.Aggregate.{peer_in}
use Rattle.meta_registry.proofs.Outcomes.{same_content, root_begins, behind_root}
use Rattle.meta_registry.proofs.laws.equal_forms_give_one_registry.Goals as goal

pub returns-clause-registry : goal.returns-clause-registry
returns-clause-registry c text key others other_key one second prefixes wanted is is_too e =
    same_content key other_key is.tree is_too.tree one second is.root is_too.root is.spelled.names is_too.spelled.names
    (c.equal_forms_have_equal_contents.ensures text others is.tree is_too.tree 0 0 (Some is.root.parts.signature) (Some is_too.root.parts.signature)
    prefixes wanted is.spelled.spells is.spelled.names is_too.spelled.spells is_too.spelled.names
    (root_begins key is.tree one is.root) (root_begins other_key is_too.tree second is_too.root)
    (behind_root key is.tree one is.root) (behind_root other_key is_too.tree second is_too.root) e)

pub returns-clause-peer : goal.returns-clause-peer
returns-clause-peer c text key others other_key one second prefixes wanted is is_too e entity role =
    ap (λ registry. peer_in registry entity role) (returns-clause-registry c text key others other_key one second prefixes wanted is is_too e)
