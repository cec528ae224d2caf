use Rattle.std.proofs.Common.{◌≡◌, ◌≢◌, true, false, [], sym, ◌∙◌}
use Rattle.std.proofs.lemmas.Result.{err_from_is_err_and, IfErr-weaker}
use Rattle.xml_spec.specs.Tree.{Nodes}
use Rattle.tree_read.specs.Children.{element_children}
use Rattle.sig_reference.specs.Form.{IsPrefixList}
use Rattle.sig_reference.proofs.Shapes.{fault_on, of_document, with_parameter, listed_by}
use Rattle.sig_reference.proofs.methods.read_canonicalization.Goals as goal

pub returns-in_err-parameter-clause-other : goal.returns-in_err-parameter-clause-other
returns-in_err-parameter-clause-other c =
    let tree = c.args.at.doc.now.tree in
    let node = c.args.at.node.0 in
    let some : element_children tree node ≢ [] =
    λ none. let clash : false ≡ true = sym c.if-is_done.false ∙ c.is_done.ensures.1 (c.of-children.ensures.left ∙ none) in cc in
    let p = err_from_is_err_and c.from_residual.result c.from_residual.ensures.1 in
    rw (p.1, p.2) (λ prefixes canonical.
    let lists = with_parameter tree node prefixes some canonical in
    c.in_err-parameter.ensures.other lists.parameter [] (c.of-children.ensures.left ∙ lists.only))

pub returns-clause-other : goal.returns-clause-other
returns-clause-other c =
    let at = c.in_ok-parameter.parameter in
    let same : c.args.at.doc.now ≡ at.doc.now = sym (c.in_ok-parameter.ensures.there ∙ c.of-children.ensures.document) in
    let here = sym c.of-children.ensures.left ∙ c.in_ok-parameter.ensures.taken in
    IfErr-weaker c.read_prefixes.result _ _ (λ fault says. fault_on fault _ _ says (λ no prefixes canonical.
    no prefixes (of_document (λ (tree : Nodes). IsPrefixList tree at.node.0 prefixes) same
    (listed_by c.args.at.doc.now.tree c.args.at.node.0 _ _ prefixes here canonical).1))) c.read_prefixes.ensures.other
