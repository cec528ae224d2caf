use Rattle.saml_tree.proofs.Nodes.{in_tree_by_text}
use Rattle.saml_tree.proofs.doc.Doc.leaf.Goals as goal

pub shape-requires : goal.shape-requires
shape-requires c = in_tree_by_text c.args.self.now.tree c.args.n.0 c.requires
