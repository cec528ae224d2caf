use Rattle.std.proofs.Common.{◌≡◌, length}
use Rattle.saml_names.specs.Names.{md}
use Rattle.tree_read.specs.Children.{named}
use Rattle.tree_read.specs.Views.{tree_of}
use Rattle.metadata.specs.Metadata.{address, first_location}
use Rattle.metadata.proofs.read.read_address.Given as goal

abbrev pub invariant-loop-endpoint : goal.invariant-loop-endpoint
invariant-loop-endpoint l = record {
  found : first_location (tree_of l.at) (named (md l.local) l.left.left) ≡ address (tree_of l.at) l.at.node.0 l.local;
  document : l.left.document ≡ l.at.doc.now;
}

abbrev pub decreases-loop-endpoint : goal.decreases-loop-endpoint
decreases-loop-endpoint l = length (named (md l.local) l.left.left)
