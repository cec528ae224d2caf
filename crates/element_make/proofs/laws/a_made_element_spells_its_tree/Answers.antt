use Rattle.std.proofs.Common.{None, [], refl, subst}
use Rattle.xml_spec.specs.Document.{Spells}
use Rattle.element_make.specs.Made.{tree_of, written}
use Rattle.element_make.proofs.Named.{has_names}
use Rattle.element_make.proofs.Spelled.{tree_is_canonical, is_writable}
use Rattle.element_make.proofs.laws.a_made_element_spells_its_tree.Goals as goal

pub returns-clause-spells : goal.returns-clause-spells
returns-clause-spells c made is =
    subst (Spells (written made)) (tree_is_canonical made is)
    (c.a_canonical_form_spells_its_tree.ensures (tree_of made) 0 None [] refl tt (is_writable made is))

pub returns-clause-names : goal.returns-clause-names
returns-clause-names c made is = has_names made is
