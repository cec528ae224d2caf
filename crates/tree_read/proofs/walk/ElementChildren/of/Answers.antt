use Rattle.std.proofs.Common.{sym, ap, ◌∙◌}
use Rattle.tree_read.specs.Walk.{children_from}
use Rattle.tree_read.proofs.Walking.{all_children}
use Rattle.tree_read.proofs.walk.ElementChildren.of.Goals as goal

pub returns-clause-left : goal.returns-clause-left
returns-clause-left c =
    let tree = c.args.at.doc.now.tree in
    ap (children_from tree) c.first_kid.ensures.number ∙ sym (all_children tree c.args.at.node.0)
