use Rattle.std.proofs.Common.{◌≡◌, ℕ, Option, Some, MatchOption, inr, sym, subst, ◌∙◌}
use Rattle.verdict_codes.specs.declared.codes.Verdict.TheVariants as verdicts
use Rattle.saml_commands.specs.Answers.{Refused}
use Rattle.saml_commands.specs.Documents.{OfElement}
use Rattle.saml_commands.specs.Running.{IsVerdictOf}
use Rattle.saml_commands.specs.Vouch.{OfVouching}
use Rattle.saml_commands.proofs.Answering.{if_ok_map}
use Rattle.saml_commands.proofs.vouch.vouch_document.Goals as goal

pub returns-in-Err : goal.returns-in-Err
returns-in-Err c =
    let tree = c.args.doc.now.tree in
    let key = c.args.key.now in
    if_ok_map c.refused.result (IsVerdictOf c.of_signature.result) (OfElement (OfVouching key) (Some c.args.id.now) tree)
    (λ answer h.
    subst (λ (o : Option ℕ). MatchOption o (answer ≡ Refused verdicts.BadReference) (λ node. OfVouching key tree node answer))
    c.in-Some.ensures.number (inr (c.in-Err.fault, h.0, c.in-Err.ensures.err, sym c.of_signature.ensures ∙ h.1, h.2)))
    c.refused.ensures
