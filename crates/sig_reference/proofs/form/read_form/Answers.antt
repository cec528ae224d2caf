use Rattle.std.proofs.Common.{◌≡◌, sym, ap, ◌∙◌}
use Rattle.std.proofs.lemmas.Result.{err_from_is_err_and, IfErr-weaker}
use Rattle.xml_spec.specs.Tree.{Nodes}
use Rattle.tree_read.specs.Children.{named}
use Rattle.sig_reference.specs.Form.{IsSignature}
use Rattle.sig_reference.specs.Views.{parts_of}
use Rattle.sig_reference.proofs.Shapes.{fault_on, of_document, by_name, first_is, behind_first, both_ok}
use Rattle.sig_reference.proofs.form.read_form.Goals as goal

pub returns-in_err-signature-clause-other : goal.returns-in_err-signature-clause-other
returns-in_err-signature-clause-other c =
    let p = err_from_is_err_and c.from_residual-in_err-signature.result c.from_residual-in_err-signature.ensures.1 in
    rw (p.1, p.2) (λ parts f.
    c.in_err-signature.ensures.other parts.signature _
    (behind_first c.in_ok-take.ensures.taken (c.of-children.ensures.left ∙ f.children) ∙ by_name c.ds.ensures))

pub returns-clause-ok : goal.returns-clause-ok
returns-clause-ok c =
    let same = c.in_ok-signature.ensures.there ∙ c.take.ensures.document ∙ c.of-children.ensures.document in
    both_ok c.read_signature.result _ _ _ c.read_signature.ensures.ok c.read_signature.ensures.node (λ signature is here. record {
      issuer = c.in_ok-take.field-0.node.0;
      others = c.take-2.new.self.left;
      children = cc (c.of-children.ensures.left, c.in_ok-take.ensures.taken, c.in_ok-signature.ensures.taken, c.saml.ensures, c.ds.ensures);
      only = ap (λ n. named n c.take-2.new.self.left) (sym c.ds-2.ensures) ∙ c.has_no.ensures.0 c.if-not-has_no.false;
      signature = of_document (λ (tree : Nodes). IsSignature tree (parts_of signature)) same is;
    })

pub returns-clause-other : goal.returns-clause-other
returns-clause-other c =
    let at = c.in_ok-signature.signature in
    let same : c.args.at.doc.now ≡ at.doc.now = sym (c.in_ok-signature.ensures.there ∙ c.take.ensures.document ∙ c.of-children.ensures.document) in
    IfErr-weaker c.read_signature.result _ _ (λ fault says. fault_on fault _ _ says (λ no parts f.
    no parts (first_is (behind_first c.in_ok-take.ensures.taken (c.of-children.ensures.left ∙ f.children)) c.in_ok-signature.ensures.taken)
    (of_document (λ (tree : Nodes). IsSignature tree parts) same f.signature))) c.read_signature.ensures.other
