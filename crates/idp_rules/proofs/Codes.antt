-- The verdict on a form that asks for a login has a code of 43 at most.
use Rattle.std.specs.Prelude.{Some, Result, Ok, Err}
use Rattle.std.proofs.Common.{◌≡◌, ℕ, List, sym, subst, arith}
use Rattle.post_binding.specs.declared.fault.FormFault.{FormFault}
use Rattle.post_binding.specs.declared.posted.Field.{Field}
use Rattle.post_binding.specs.declared.posted.Field.TheVariants.{Request, Response}
use Rattle.post_binding.specs.declared.posted.Posted.{Posted}
use Rattle.post_binding.specs.Form.{form}
use Rattle.verdict_codes.specs.declared.codes.Verdict.{Verdict}
use Rattle.verdict_codes.specs.declared.codes.Verdict.TheVariants.{BadForm}
use Rattle.peer_keys.specs.declared.peers.LogoutPeer.{LogoutPeer}
use Rattle.fault_verdicts.proofs.Codes.{EndsAt, document_ends, ends, form_ends, signature_ends}
use Rattle.idp_rules.specs.Verdict.{form_refusal, IsRefused, by_form, by_document, by_root, by_issuer, by_destination, by_consumer, by_signature}

posted_ends : (r : Result Posted FormFault) (verdict : Verdict) → form_refusal r ≡ Some verdict → EndsAt 43 verdict
posted_ends (Err fault) verdict e = omega (arith, form_ends fault verdict e)
posted_ends (Ok posted) verdict e = in_field posted.field e
  where
    in_field : (f : Field) → form_refusal (Ok (record posted { field = f })) ≡ Some verdict → EndsAt 43 verdict
    in_field Response is = ends 43 BadForm verdict (omega arith) is
    in_field Request is = absurd (cc)

pub refused_ends : (peers : List LogoutPeer) (address body : List ℕ) (verdict : Verdict)
    → IsRefused peers address body verdict → EndsAt 43 verdict
refused_ends peers address body verdict (by_form e) = posted_ends (form body) verdict e
refused_ends peers address body verdict (by_document message relay fault p r e) =
    omega (arith, document_ends fault verdict e)
refused_ends peers address body verdict (by_root message relay tree p s n e) = subst (EndsAt 43) (sym e) (omega arith)
refused_ends peers address body verdict (by_issuer c k n e) = subst (EndsAt 43) (sym e) (omega arith)
refused_ends peers address body verdict (by_destination c place peer k f d e) = subst (EndsAt 43) (sym e) (omega arith)
refused_ends peers address body verdict (by_consumer c place peer k f d w e) = subst (EndsAt 43) (sym e) (omega arith)
refused_ends peers address body verdict (by_signature c place peer fault k f d w s u e) =
    omega (arith, signature_ends fault verdict e)
