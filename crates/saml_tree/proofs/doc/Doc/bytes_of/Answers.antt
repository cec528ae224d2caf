use Rattle.std.proofs.Common.{ap, length, arith}
use Rattle.xml_spec.specs.Numbering.{elements_before}
use Rattle.saml_tree.specs.Documents.{DocumentView}
use Rattle.saml_tree.proofs.Ranges.{range_within}
use Rattle.saml_tree.proofs.doc.Doc.bytes_of.Goals as goal

pub slice_bounds-result-count : goal.slice_bounds-result-count
slice_bounds-result-count c =
    let within = range_within c.args.self.now.text (elements_before c.args.self.now.tree c.args.n.0) _ c.span-span.ensures in
    omega (arith, within.0)

pub slice_bounds-result-start : goal.slice_bounds-result-start
slice_bounds-result-start c =
    let within = range_within c.args.self.now.text (elements_before c.args.self.now.tree c.args.n.0) _ c.span-span.ensures in
    omega (arith, within.0)

pub slice_bounds-result-end : goal.slice_bounds-result-end
slice_bounds-result-end c =
    let within = range_within c.args.self.now.text (elements_before c.args.self.now.tree c.args.n.0) _ c.span-span.ensures in
    omega (arith, within.1, ap (λ (d : DocumentView). length d.text) c.self.view_is)
