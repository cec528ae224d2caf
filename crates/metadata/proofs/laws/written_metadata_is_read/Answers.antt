use Rattle.std.proofs.Common.{◌≡◌, ap, ◌∙◌}
use Rattle.element_make.specs.Made.{tree_of, written}
use Rattle.metadata.specs.Metadata.{peer_of}
use Rattle.metadata.specs.Making.{metadata, plain}
use Rattle.metadata.proofs.Reading.{same_role, plain_role, other_role}
use Rattle.metadata.proofs.laws.written_metadata_is_read.Goals as goal

pub returns-clause-same : goal.returns-clause-same
returns-clause-same c role entity base tree some can spells =
    let made = metadata role entity base in
    let same : tree ≡ tree_of made = c.no_bytes_spell_two_trees.ensures (written made) tree (tree_of made) spells (c.a_made_element_spells_its_tree.ensures.spells made can) in
    ap (λ t. peer_of t 0 role) same ∙ same_role role entity base some

pub returns-clause-other : goal.returns-clause-other
returns-clause-other c role asked entity base tree apart can spells =
    let made = metadata role entity base in
    let same : tree ≡ tree_of made = c.no_bytes_spell_two_trees.ensures (written made) tree (tree_of made) spells (c.a_made_element_spells_its_tree.ensures.spells made can) in
    ap (λ t. peer_of t 0 asked) same ∙ other_role role asked entity base apart

pub returns-clause-plain : goal.returns-clause-plain
returns-clause-plain c role entity base tree some can spells =
    let made = plain role entity base in
    let same : tree ≡ tree_of made = c.no_bytes_spell_two_trees.ensures (written made) tree (tree_of made) spells (c.a_made_element_spells_its_tree.ensures.spells made can) in
    ap (λ t. peer_of t 0 role) same ∙ plain_role role entity base some
