use Rattle.std.proofs.Common.{◌≡◌, ℕ, sym, ◌∙◌, subst}
use Rattle.std.proofs.lemmas.Result.{err_from_is_err_and}
use Rattle.xml_spec.specs.Tree.{Nodes}
use Rattle.sig_reference.specs.Form.{AreTransforms}
use Rattle.sig_reference.proofs.Shapes.{fault_on, of_document, by_name, first_is, behind_first}
use Rattle.sig_reference.proofs.form.read_reference.Goals as goal

pub returns-in_err-transforms-clause-other : goal.returns-in_err-transforms-clause-other
returns-in_err-transforms-clause-other c =
    let p = err_from_is_err_and c.from_residual.result c.from_residual.ensures.1 in
    rw (p.1, p.2) (λ parts r. c.in_err-transforms.ensures.other r.transforms _ (c.of-children.ensures.left ∙ r.children ∙ by_name c.ds.ensures))

pub returns-in_err-method-clause-other : goal.returns-in_err-method-clause-other
returns-in_err-method-clause-other c =
    let p = err_from_is_err_and c.from_residual-in_err-method.result c.from_residual-in_err-method.ensures.1 in
    rw (p.1, p.2) (λ parts r.
    c.in_err-method.ensures.other r.method _
    (behind_first c.in_ok-transforms.ensures.taken (c.of-children.ensures.left ∙ r.children) ∙ by_name c.ds-2.ensures))

pub returns-in_err-value-clause-other : goal.returns-in_err-value-clause-other
returns-in_err-value-clause-other c =
    let p = err_from_is_err_and c.from_residual-in_err-value.result c.from_residual-in_err-value.ensures.1 in
    rw (p.1, p.2) (λ parts r.
    c.in_err-value.ensures.other r.value _
    (behind_first c.in_ok-method.ensures.taken (behind_first c.in_ok-transforms.ensures.taken (c.of-children.ensures.left ∙ r.children))
    ∙ by_name c.ds-3.ensures))

pub returns-in_err-prefixes-clause-other : goal.returns-in_err-prefixes-clause-other
returns-in_err-prefixes-clause-other c =
    let at = c.in_ok-transforms.transforms in
    let same : c.args.at.doc.now ≡ at.doc.now = sym (c.in_ok-transforms.ensures.there ∙ c.of-children.ensures.document) in
    let p = err_from_is_err_and c.from_residual-in_err-prefixes.result c.from_residual-in_err-prefixes.ensures.1 in
    rw (p.1, p.2) (fault_on c.in_err-prefixes.field-0.0 _ _ c.in_err-prefixes.ensures.other (λ no parts r.
    let first = first_is (c.of-children.ensures.left ∙ r.children) c.in_ok-transforms.ensures.taken in
    no parts.element_prefixes (of_document (λ (tree : Nodes). AreTransforms tree at.node.0 parts.element_prefixes) same
    (subst (λ (n : ℕ). AreTransforms c.args.at.doc.now.tree n parts.element_prefixes) first r.transformed))))
