use Rattle.std.proofs.Common.{List, ◌++◌, take}
use Rattle.xml_spec.specs.Identifiers.{Identifier}
use Rattle.saml_tree.specs.Index.{AreIndexed}
use Rattle.saml_tree.proofs.OwnIds.{ids_of}
use Rattle.saml_tree.proofs.ids.Ids.add_all.Given as goal

-- the IDs among the attributes so far are added
abbrev pub invariant-loop-attribute : goal.invariant-loop-attribute
invariant-loop-attribute l =
    (before : List Identifier) → AreIndexed before l.fn.self →
    AreIndexed (before ++ ids_of l.node (take l.attribute-index l.attributes)) l.self
