use Rattle.std.proofs.Common.{◌≡◌, ℕ, sym, ◌∙◌, subst}
use Rattle.std.proofs.lemmas.Result.{err_from_is_err_and, IfErr-weaker}
use Rattle.xml_spec.specs.Tree.{Nodes}
use Rattle.sig_reference.specs.Form.{IsCanonicalization}
use Rattle.sig_reference.proofs.Shapes.{fault_on, of_document, by_name, first_is, behind_first}
use Rattle.sig_reference.proofs.form.read_transforms.Goals as goal

pub returns-in_err-first-clause-other : goal.returns-in_err-first-clause-other
returns-in_err-first-clause-other c =
    let p = err_from_is_err_and c.from_residual.result c.from_residual.ensures.1 in
    rw (p.1, p.2) (λ prefixes t. c.in_err-first.ensures.other t.first _ (c.of-children.ensures.left ∙ t.children ∙ by_name c.ds.ensures))

pub returns-clause-other : goal.returns-clause-other
returns-clause-other c =
    let at = c.in_ok-second.second in
    let same : c.args.at.doc.now ≡ at.doc.now = sym (c.in_ok-second.ensures.there ∙ c.take.ensures.document ∙ c.of-children.ensures.document) in
    IfErr-weaker c.read_canonicalization.result _ _ (λ fault says. fault_on fault _ _ says (λ no prefixes t.
    let second = first_is (behind_first c.in_ok-first.ensures.taken (c.of-children.ensures.left ∙ t.children)) c.in_ok-second.ensures.taken in
    no prefixes (of_document (λ (tree : Nodes). IsCanonicalization tree at.node.0 prefixes) same
    (subst (λ (n : ℕ). IsCanonicalization c.args.at.doc.now.tree n prefixes) second t.canonical)))) c.read_canonicalization.ensures.other
