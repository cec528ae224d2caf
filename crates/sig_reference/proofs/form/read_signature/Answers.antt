use Rattle.std.proofs.Common.{◌≡◌, sym, ap, ◌∙◌}
use Rattle.std.proofs.lemmas.Result.{err_from_is_err_and}
use Rattle.xml_spec.specs.Tree.{Nodes}
use Rattle.tree_read.specs.Children.{element_children}
use Rattle.sig_reference.specs.Form.{IsSignedInfo}
use Rattle.sig_reference.proofs.Shapes.{fault_on, of_document, by_name, first_is, behind_first}
use Rattle.sig_reference.proofs.form.read_signature.Goals as goal

pub returns-in_err-info-clause-other : goal.returns-in_err-info-clause-other
returns-in_err-info-clause-other c =
    let p = err_from_is_err_and c.from_residual.result c.from_residual.ensures.1 in
    rw (p.1, p.2) (λ parts here s.
    c.in_err-info.ensures.other parts.signed_info _
    (c.of-children.ensures.left ∙ ap (element_children c.args.at.doc.now.tree) (sym here) ∙ s.children ∙ by_name c.ds.ensures))

pub returns-in_err-value-clause-other : goal.returns-in_err-value-clause-other
returns-in_err-value-clause-other c =
    let p = err_from_is_err_and c.from_residual-in_err-value.result c.from_residual-in_err-value.ensures.1 in
    rw (p.1, p.2) (λ parts here s.
    c.in_err-value.ensures.other s.value _
    (behind_first c.in_ok-info.ensures.taken (c.of-children.ensures.left ∙ ap (element_children c.args.at.doc.now.tree) (sym here) ∙ s.children)
    ∙ by_name c.ds-2.ensures))

pub returns-in_err-info-2-clause-other : goal.returns-in_err-info-2-clause-other
returns-in_err-info-2-clause-other c =
    let at = c.in_ok-info.info in
    let same : c.args.at.doc.now ≡ at.doc.now = sym (c.in_ok-info.ensures.there ∙ c.of-children.ensures.document) in
    let p = err_from_is_err_and c.from_residual-in_err-info-2.result c.from_residual-in_err-info-2.ensures.1 in
    rw (p.1, p.2) (fault_on c.in_err-info-2.field-0.0 _ _ c.in_err-info-2.ensures.other (λ no parts here s.
    let first =
    first_is (c.of-children.ensures.left ∙ ap (element_children c.args.at.doc.now.tree) (sym here) ∙ s.children) c.in_ok-info.ensures.taken in
    no parts first (of_document (λ (tree : Nodes). IsSignedInfo tree parts) same s.info)))
