use Rattle.std.proofs.Common.{◌≤◌, length, subst, ℕ, List}
use Rattle.xml_spec.specs.declared.TheConstants.{MAX_DOCUMENT_LENGTH}
use Rattle.xml_spec.specs.Document.{Spells}
use Rattle.logout_profile.proofs.Signable.{request_signable, response_signable}
use Rattle.logout_profile.proofs.laws.what_is_made_is_vouched_for.Goals as goal

pub returns-clause-request : goal.returns-clause-request
returns-clause-request c peer id issuer issued name indexes bytes tree named is short spells single =
    c.what_is_signed_is_vouched_for.ensures peer.key_out is.unsigned tree is.signed.well_made
    (request_signable is.unsigned id issuer is.address name indexes is.made.instant is.made.until named is.made.is)
    (c.what_a_document_holds_can_be_checked.ensures.alone peer.key_out is.unsigned is.signed.well_made
    (subst (λ (text : List ℕ). length text ≤ MAX_DOCUMENT_LENGTH) is.signed.is short))
    (subst (λ (text : List ℕ). Spells text tree) is.signed.is spells) single

pub returns-clause-response : goal.returns-clause-response
returns-clause-response c peer id issuer issued request partial bytes tree named is short spells single =
    c.what_is_signed_is_vouched_for.ensures peer.key_out is.unsigned tree is.signed.well_made
    (response_signable is.unsigned id issuer is.address request partial is.made.instant named is.made.is)
    (c.what_a_document_holds_can_be_checked.ensures.alone peer.key_out is.unsigned is.signed.well_made
    (subst (λ (text : List ℕ). length text ≤ MAX_DOCUMENT_LENGTH) is.signed.is short))
    (subst (λ (text : List ℕ). Spells text tree) is.signed.is spells) single
