use Rattle.std.proofs.Common.{◌≡◌, ◌++◌, length, map, codes}
use Rattle.saml_names.specs.Names.{md}
use Rattle.tree_read.specs.Children.{named}
use Rattle.tree_read.specs.Views.{tree_of}
use Rattle.meta_registry.specs.Aggregate.{descriptors, entry_of}
use Rattle.meta_registry.proofs.registry.read_entries.Given as goal

abbrev pub invariant-loop-descriptor : goal.invariant-loop-descriptor
invariant-loop-descriptor l = record {
  found : l.entries.items ++ map (entry_of (tree_of l.at)) (named (md (codes "EntityDescriptor")) l.left.left) ≡ map (entry_of (tree_of l.at)) (descriptors (tree_of l.at) l.at.node.0);
  document : l.left.document ≡ l.at.doc.now;
}

abbrev pub decreases-loop-descriptor : goal.decreases-loop-descriptor
decreases-loop-descriptor l = length (named (md (codes "EntityDescriptor")) l.left.left)
