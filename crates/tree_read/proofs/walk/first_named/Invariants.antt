use Rattle.std.proofs.Common.{◌≡◌, IfSome}
use Rattle.saml_tree.specs.Elements.{IsElement}
use Rattle.saml_names.specs.Views.{name_of}
use Rattle.tree_read.specs.Children.{named}
use Rattle.tree_read.specs.Walk.{children_from, children_first}
use Rattle.tree_read.proofs.Walking.{number_of, left_at}
use Rattle.tree_read.proofs.walk.first_named.Given as goal

abbrev pub invariant-loop-next : goal.invariant-loop-next
invariant-loop-next l = record {
  same : named (name_of l.name) (children_from l.doc.tree (number_of l.fn.from)) ≡ named (name_of l.name) (children_first l.doc.tree (number_of l.next));
  element : IfSome (number_of l.next) (λ k. IsElement l.doc.tree k);
}

abbrev pub decreases-loop-next : goal.decreases-loop-next
decreases-loop-next l = left_at l.doc.tree (number_of l.next)
