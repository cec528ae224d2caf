use Rattle.std.proofs.Common.{◌≡◌, ◌++◌, codes, length}
use Rattle.std.specs.List.{flat_map}
use Rattle.saml_names.specs.Names.{saml}
use Rattle.tree_read.specs.Children.{named}
use Rattle.tree_read.specs.Views.{tree_of}
use Rattle.assertion_model.specs.Places.{places_of_attribute, places_of_statement}
use Rattle.assertion_model.proofs.places.add_of_statement.Given as goal

abbrev pub invariant-loop-attribute : goal.invariant-loop-attribute
invariant-loop-attribute l = record {
  found : l.found ++ flat_map (places_of_attribute (tree_of l.at)) (named (saml (codes "Attribute")) l.left.left)
      ≡ l.initial.found ++ places_of_statement (tree_of l.at) l.at.node.0;
  document : l.left.document ≡ l.at.doc.now;
}

abbrev pub decreases-loop-attribute : goal.decreases-loop-attribute
decreases-loop-attribute l = length (named (saml (codes "Attribute")) l.left.left)
