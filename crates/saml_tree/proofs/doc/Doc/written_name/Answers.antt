use Rattle.std.proofs.Common.{ap, is_some}
use Rattle.saml_tree.proofs.Nodes.{in_tree}
use Rattle.saml_tree.proofs.doc.Doc.written_name.Goals as goal

pub shape-requires : goal.shape-requires
shape-requires c = in_tree c.args.self.now.tree c.args.n.0 (ap (λ o. is_some o) c.requires)
