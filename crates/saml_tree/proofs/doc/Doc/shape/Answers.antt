use Rattle.std.proofs.Common.{◌∙◌, ap, sym, arith}
use Rattle.xml_spec.specs.Numbering.{from_node, kids_of, rest_of}
use Rattle.tree_rows.specs.Rows.{Shape, node}
use Rattle.saml_tree.specs.Documents.{DocumentView}
use Rattle.saml_tree.proofs.Seen.{rows_are, node_read}
use Rattle.saml_tree.proofs.doc.Doc.shape.Goals as goal

pub shape-requires : goal.shape-requires
shape-requires c =
    let same = ap (λ (d : DocumentView). d.tree) c.self.view_is in
    omega (arith, rows_are c.self.inside.rows.rows c.args.self.now.tree c.self.invariant.shaped same)

pub returns : goal.returns
returns c =
    let same = ap (λ (d : DocumentView). d.tree) c.self.view_is in
    let tree = c.args.self.now.tree in
    let all = rows_are c.self.inside.rows.rows tree c.self.invariant.shaped same in
    record {
      node =
          node_read c.self.inside.rows.rows tree c.self.invariant.shaped same c.args.n.0 (omega arith)
          ∙ ap (λ (s : Shape). node s (kids_of (from_node tree c.args.n.0)) (rest_of (from_node tree c.args.n.0))) (sym c.shape.ensures);
    }
