use Rattle.std.proofs.Common.{◌≡◌, ◌++◌, map, length, codes}
use Rattle.saml_names.specs.Names.{samlp}
use Rattle.tree_read.specs.Children.{named, children}
use Rattle.tree_read.specs.Texts.{text_of}
use Rattle.tree_read.specs.Views.{tree_of}
use Rattle.protocol_messages.proofs.logout.read_indexes.Given as goal

abbrev pub invariant-loop-index : goal.invariant-loop-index
invariant-loop-index l = record {
  found : l.indexes ++ map (text_of (tree_of l.at)) (named (samlp (codes "SessionIndex")) l.left.left)
      ≡ map (text_of (tree_of l.at)) (children (tree_of l.at) l.at.node.0 (samlp (codes "SessionIndex")));
  document : l.left.document ≡ l.at.doc.now;
}

abbrev pub decreases-loop-index : goal.decreases-loop-index
decreases-loop-index l = length (named (samlp (codes "SessionIndex")) l.left.left)
