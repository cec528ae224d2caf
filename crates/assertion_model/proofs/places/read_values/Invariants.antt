use Rattle.std.proofs.Common.{◌≡◌, ◌++◌, codes, length}
use Rattle.std.specs.List.{flat_map}
use Rattle.saml_names.specs.Names.{saml}
use Rattle.tree_read.specs.Children.{named}
use Rattle.tree_read.specs.Views.{tree_of}
use Rattle.assertion_model.specs.Places.{places_of_statement, value_places}
use Rattle.assertion_model.proofs.places.read_values.Given as goal

abbrev pub invariant-loop-statement : goal.invariant-loop-statement
invariant-loop-statement l = record {
  found : l.found ++ flat_map (places_of_statement (tree_of l.at)) (named (saml (codes "AttributeStatement")) l.left.left)
      ≡ value_places (tree_of l.at) l.at.node.0;
  document : l.left.document ≡ l.at.doc.now;
}

abbrev pub decreases-loop-statement : goal.decreases-loop-statement
decreases-loop-statement l = length (named (saml (codes "AttributeStatement")) l.left.left)
