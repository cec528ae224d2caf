use Rattle.saml_tree.proofs.Nodes.{in_tree_by_name}
use Rattle.saml_tree.proofs.doc.Doc.name.Goals as goal

pub shape-requires : goal.shape-requires
shape-requires c = in_tree_by_name c.args.self.now.tree c.args.n.0 c.requires
