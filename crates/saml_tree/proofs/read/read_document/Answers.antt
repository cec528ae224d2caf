use Rattle.std.proofs.Common.{subst}
use Rattle.std.proofs.lemmas.Result.{err_from_is_err_and}
use Rattle.saml_tree.specs.Documents.{IsRefused}
use Rattle.saml_tree.proofs.Following.{refused_of}
use Rattle.saml_tree.proofs.read.read_document.Goals as goal

pub returns-in_err-rows-clause-refused : goal.returns-in_err-rows-clause-refused
returns-in_err-rows-clause-refused c =
    let text = c.in-Some.ensures.some in
    let p = err_from_is_err_and c.from_residual.result c.from_residual.ensures.1 in
    rw (p.1, p.2) (subst (λ z. IsRefused z c.in_err-rows.field-0.0) text.0
    (refused_of c.in-Some.characters.now c.in_err-rows.field-0.0 text.1 c.in_err-rows.ensures.err))
