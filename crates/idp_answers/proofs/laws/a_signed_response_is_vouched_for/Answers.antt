use Rattle.std.proofs.Common.{◌≡◌, ◌≤◌, length, ◌∙◌, subst}
use Rattle.xml_spec.specs.declared.TheConstants.{MAX_DOCUMENT_LENGTH}
use Rattle.xml_spec.specs.Document.{Spells}
use Rattle.element_make.specs.Made.{Made, written}
use Rattle.sig_reference.specs.Signing.{signed}
use Rattle.idp_answers.proofs.Signable.{response_signable, response_made, sent_signed}
use Rattle.idp_answers.proofs.laws.a_signed_response_is_vouched_for.Goals as goal

pub returns : goal.returns
returns c mode key login message consumer now sent tree signs named issued is short spells single =
    let sent_is : sent ≡ signed key issued.unsigned = issued.is ∙ sent_signed mode key issued.unsigned signs in
    let can = response_signable mode key login issued.assertion issued.unsigned issued.of_login message login.issuer consumer login.request
    issued.answers.instant named issued.answers.is in
    let made = response_made mode key issued.unsigned sent issued.is is in
    c.what_is_signed_is_vouched_for.ensures key issued.unsigned tree made can
    (c.what_a_document_holds_can_be_checked.ensures.alone key issued.unsigned made
    (subst (λ (made : Made). length (written made) ≤ MAX_DOCUMENT_LENGTH) sent_is short))
    (subst (λ (made : Made). Spells (written made) tree) sent_is spells) single
