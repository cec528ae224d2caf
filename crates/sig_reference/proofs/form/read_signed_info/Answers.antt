use Rattle.std.proofs.Common.{◌≡◌, ℕ, sym, ap, ◌∙◌, subst}
use Rattle.std.proofs.lemmas.Result.{err_from_is_err_and}
use Rattle.xml_spec.specs.Tree.{Nodes}
use Rattle.tree_read.specs.Children.{element_children}
use Rattle.sig_reference.specs.Form.{IsCanonicalization, IsReference}
use Rattle.sig_reference.proofs.Shapes.{fault_on, of_document, by_name, first_is, behind_first}
use Rattle.sig_reference.proofs.form.read_signed_info.Goals as goal

pub returns-in_err-canonicalization-clause-other : goal.returns-in_err-canonicalization-clause-other
returns-in_err-canonicalization-clause-other c =
    let p = err_from_is_err_and c.from_residual.result c.from_residual.ensures.1 in
    rw (p.1, p.2) (λ parts here i.
    c.in_err-canonicalization.ensures.other i.canonicalization _
    (c.of-children.ensures.left ∙ ap (element_children c.args.at.doc.now.tree) (sym here) ∙ i.children ∙ by_name c.ds.ensures))

pub returns-in_err-method-clause-other : goal.returns-in_err-method-clause-other
returns-in_err-method-clause-other c =
    let p = err_from_is_err_and c.from_residual-in_err-method.result c.from_residual-in_err-method.ensures.1 in
    rw (p.1, p.2) (λ parts here i.
    c.in_err-method.ensures.other i.method _
    (behind_first c.in_ok-canonicalization.ensures.taken (c.of-children.ensures.left ∙ ap (element_children c.args.at.doc.now.tree) (sym here) ∙ i.children)
    ∙ by_name c.ds-2.ensures))

pub returns-in_err-reference-clause-other : goal.returns-in_err-reference-clause-other
returns-in_err-reference-clause-other c =
    let p = err_from_is_err_and c.from_residual-in_err-reference.result c.from_residual-in_err-reference.ensures.1 in
    rw (p.1, p.2) (λ parts here i.
    c.in_err-reference.ensures.other i.reference _
    (behind_first c.in_ok-method.ensures.taken
    (behind_first c.in_ok-canonicalization.ensures.taken (c.of-children.ensures.left ∙ ap (element_children c.args.at.doc.now.tree) (sym here) ∙ i.children))
    ∙ by_name c.ds-3.ensures))

pub returns-in_err-prefixes-clause-other : goal.returns-in_err-prefixes-clause-other
returns-in_err-prefixes-clause-other c =
    let at = c.in_ok-canonicalization.canonicalization in
    let same : c.args.at.doc.now ≡ at.doc.now = sym (c.in_ok-canonicalization.ensures.there ∙ c.of-children.ensures.document) in
    let p = err_from_is_err_and c.from_residual-in_err-prefixes.result c.from_residual-in_err-prefixes.ensures.1 in
    rw (p.1, p.2) (fault_on c.in_err-prefixes.field-0.0 _ _ c.in_err-prefixes.ensures.other (λ no parts here i.
    let first =
    first_is (c.of-children.ensures.left ∙ ap (element_children c.args.at.doc.now.tree) (sym here) ∙ i.children) c.in_ok-canonicalization.ensures.taken in
    no parts.info_prefixes (of_document (λ (tree : Nodes). IsCanonicalization tree at.node.0 parts.info_prefixes) same
    (subst (λ (n : ℕ). IsCanonicalization c.args.at.doc.now.tree n parts.info_prefixes) first i.canonical))))

pub returns-in_err-reference-2-clause-other : goal.returns-in_err-reference-2-clause-other
returns-in_err-reference-2-clause-other c =
    let at = c.in_ok-reference.reference in
    let same : c.args.at.doc.now ≡ at.doc.now =
    sym (c.in_ok-reference.ensures.there ∙ c.take-2.ensures.document ∙ c.take.ensures.document ∙ c.of-children.ensures.document) in
    let p = err_from_is_err_and c.from_residual-in_err-reference-2.result c.from_residual-in_err-reference-2.ensures.1 in
    rw (p.1, p.2) (fault_on c.in_err-reference-2.field-0.0 _ _ c.in_err-reference-2.ensures.other (λ no parts here i.
    let third =
    first_is (behind_first c.in_ok-method.ensures.taken
    (behind_first c.in_ok-canonicalization.ensures.taken (c.of-children.ensures.left ∙ ap (element_children c.args.at.doc.now.tree) (sym here) ∙ i.children)))
    c.in_ok-reference.ensures.taken in
    no parts (of_document (λ (tree : Nodes). IsReference tree at.node.0 parts) same
    (subst (λ (n : ℕ). IsReference c.args.at.doc.now.tree n parts) third i.referred))))
