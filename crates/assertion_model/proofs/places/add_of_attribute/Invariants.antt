use Rattle.std.proofs.Common.{◌≡◌, ◌++◌, codes, length}
use Rattle.saml_names.specs.Names.{saml}
use Rattle.tree_read.specs.Children.{named}
use Rattle.tree_read.specs.Views.{tree_of}
use Rattle.assertion_model.specs.Places.{places_of_attribute}
use Rattle.assertion_model.proofs.places.add_of_attribute.Given as goal

abbrev pub invariant-loop-value : goal.invariant-loop-value
invariant-loop-value l =
    l.found ++ named (saml (codes "AttributeValue")) l.left.left ≡ l.initial.found ++ places_of_attribute (tree_of l.at) l.at.node.0

abbrev pub decreases-loop-value : goal.decreases-loop-value
decreases-loop-value l = length (named (saml (codes "AttributeValue")) l.left.left)
