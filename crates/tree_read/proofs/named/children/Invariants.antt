use Rattle.std.proofs.Common.{◌≡◌, ◌++◌, length}
use Rattle.std.specs.List.{AllByRecursion}
use Rattle.saml_tree.specs.Elements.{IsElement}
use Rattle.saml_names.specs.Views.{name_of}
use Rattle.tree_read.specs.Children.{named, children}
use Rattle.tree_read.specs.Views.{tree_of}
use Rattle.tree_read.proofs.named.children.Given as goal

abbrev pub invariant-loop-child : goal.invariant-loop-child
invariant-loop-child l = record {
  found : l.found ++ named (name_of l.name) l.left.left ≡ children (tree_of l.at) l.at.node.0 (name_of l.name);
  document : l.left.document ≡ l.at.doc.now;
  elements : AllByRecursion (λ n. IsElement (tree_of l.at) n) l.found;
}

abbrev pub decreases-loop-child : goal.decreases-loop-child
decreases-loop-child l = length (named (name_of l.name) l.left.left)
