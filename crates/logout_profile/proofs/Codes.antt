-- The verdict on a message of a logout has a code of 35 at most.
use Rattle.std.specs.Prelude.{Option, None, Some, Result, Ok, Err, if◌then◌else◌}
use Rattle.std.proofs.Common.{◌≡◌, ℕ, Bool, true, false, List, sym, subst, arith}
use Rattle.post_binding.specs.declared.fault.FormFault.{FormFault}
use Rattle.post_binding.specs.declared.posted.Posted.{Posted}
use Rattle.post_binding.specs.Form.{form}
use Rattle.verdict_codes.specs.declared.codes.Verdict.{Verdict}
use Rattle.verdict_codes.specs.declared.codes.Verdict.TheVariants.{LogoutDestination, LogoutNotInTime}
use Rattle.peer_keys.specs.declared.peers.LogoutPeer.{LogoutPeer}
use Rattle.fault_verdicts.proofs.Codes.{EndsAt, document_ends, ends, form_ends, signature_ends}
use Rattle.logout_profile.specs.Carrying.{destination_of, until_of}
use Rattle.logout_profile.specs.Verdict.{form_refusal, is_in_time, is_sent_to, IsRefused, by_document, by_form, by_issuer, by_message, by_root, by_signature}

posted_ends : (r : Result Posted FormFault) (verdict : Verdict) → form_refusal r ≡ Some verdict → EndsAt 35 verdict
posted_ends (Err fault) verdict e = omega (arith, form_ends fault verdict e)
posted_ends (Ok posted) verdict e = absurd (cc)

meant_ends : (sent timely : Bool) (verdict : Verdict)
    → (if sent then (if timely then None else Some LogoutNotInTime) else Some LogoutDestination) ≡ Some verdict
    → EndsAt 35 verdict
meant_ends true true verdict e = absurd (cc)
meant_ends true false verdict e = ends 35 LogoutNotInTime verdict (omega arith) e
meant_ends false timely verdict e = ends 35 LogoutDestination verdict (omega arith) e

pub disobeyed_ends : (peers : List LogoutPeer) (second : Option (List ℕ)) (address : List ℕ) (skew now : ℕ)
    (body : List ℕ) (verdict : Verdict) → IsRefused peers second address skew now body verdict → EndsAt 35 verdict
disobeyed_ends peers second address skew now body verdict (by_form e) = posted_ends (form body) verdict e
disobeyed_ends peers second address skew now body verdict (by_document field text relay fault p r e) =
    omega (arith, document_ends fault verdict e)
disobeyed_ends peers second address skew now body verdict (by_root field text relay tree p s n e) =
    subst (EndsAt 35) (sym e) (omega arith)
disobeyed_ends peers second address skew now body verdict (by_issuer c k n e) =
    subst (EndsAt 35) (sym e) (omega arith)
disobeyed_ends peers second address skew now body verdict (by_signature c place peer fault k p n e) =
    omega (arith, signature_ends fault verdict e)
disobeyed_ends peers second address skew now body verdict (by_message c place peer key k p v e) =
    meant_ends (is_sent_to address (destination_of c.message)) (is_in_time skew now (until_of c.message)) verdict e
