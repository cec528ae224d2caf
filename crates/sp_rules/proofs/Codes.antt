-- The verdict on a posted form has a code of 23 at most.
use Rattle.std.specs.Prelude.{Some, Result, Ok, Err, if◌then◌else◌}
use Rattle.std.specs.List.{AllByRecursion}
use Rattle.std.proofs.Common.{◌≡◌, ℕ, Bool, true, false, List, [], ◌∷◌, sym, subst, arith}
use Rattle.post_binding.specs.declared.fault.FormFault.{FormFault}
use Rattle.post_binding.specs.declared.posted.Field.{Field}
use Rattle.post_binding.specs.declared.posted.Field.TheVariants.{Request, Response}
use Rattle.post_binding.specs.declared.posted.Posted.{Posted}
use Rattle.post_binding.specs.Form.{form}
use Rattle.verdict_codes.specs.declared.codes.Verdict.{Verdict}
use Rattle.verdict_codes.specs.declared.codes.Verdict.TheVariants as verdicts
use Rattle.request_rows.specs.Rows.{RowsView}
use Rattle.fault_verdicts.proofs.Codes.{EndsAt, document_ends, ends, form_ends, signature_ends}
use Rattle.sp_rules.specs.declared.config.SpConfig.{SpConfig}
use Rattle.sp_rules.specs.Meant.{consumer, is_from, is_for, is_sent_to, is_in_time}
use Rattle.sp_rules.specs.Outstanding.{asked_for, is_outstanding, is_unspent, is_unseen, is_relayed}
use Rattle.sp_rules.specs.Verdict.{form_refusal, number_refusal, first_failing, IsRefused, by_form, by_document, by_root, by_head, by_signature, by_assertion, by_login}

posted_ends : (r : Result Posted FormFault) (verdict : Verdict) → form_refusal r ≡ Some verdict → EndsAt 23 verdict
posted_ends (Err fault) verdict e = omega (arith, form_ends fault verdict e)
posted_ends (Ok posted) verdict e = in_field posted.field e
  where
    in_field : (f : Field) → form_refusal (Ok (record posted { field = f })) ≡ Some verdict → EndsAt 23 verdict
    in_field Request is = ends 23 verdicts.BadForm verdict (omega arith) is
    in_field Response is = absurd (cc)

number_ends : (assertions : List ℕ) (verdict : Verdict) → number_refusal assertions ≡ Some verdict → EndsAt 23 verdict
number_ends [] verdict e = ends 23 verdicts.NotOneAssertion verdict (omega arith) e
number_ends (p ∷ []) verdict e = absurd (cc)
number_ends (p ∷ q ∷ others) verdict e = ends 23 verdicts.NotOneAssertion verdict (omega arith) e

head_ends : (success : Bool) (assertions : List ℕ) (verdict : Verdict)
    → (if success then number_refusal assertions else Some verdicts.NotSuccess) ≡ Some verdict → EndsAt 23 verdict
head_ends true assertions verdict e = number_ends assertions verdict e
head_ends false assertions verdict e = ends 23 verdicts.NotSuccess verdict (omega arith) e

first_ends : (checks : List (Bool × Verdict)) (verdict : Verdict)
    → AllByRecursion (λ (c : Bool × Verdict). EndsAt 23 c.1) checks → first_failing checks ≡ Some verdict
    → EndsAt 23 verdict
first_ends [] verdict all e = absurd (cc)
first_ends ((true, given) ∷ others) verdict all e = first_ends others verdict all.1 e
first_ends ((false, given) ∷ others) verdict all e = ends 23 given verdict all.0 e

login_ends : (from for sent timely waits unspent unseen relayed : Bool) (verdict : Verdict) →
    first_failing ((from, verdicts.WrongIssuer) ∷ (for, verdicts.WrongAudience) ∷ (sent, verdicts.WrongRecipient)
    ∷ (timely, verdicts.NotInTime) ∷ (waits, verdicts.NotOutstanding) ∷ (unspent, verdicts.RequestSpent)
    ∷ (unseen, verdicts.AssertionSeen) ∷ (relayed, verdicts.RelayDiffers) ∷ [])
    ≡ Some verdict → EndsAt 23 verdict
login_ends from for sent timely waits unspent unseen relayed verdict e =
    first_ends ((from, verdicts.WrongIssuer) ∷ (for, verdicts.WrongAudience) ∷ (sent, verdicts.WrongRecipient)
    ∷ (timely, verdicts.NotInTime) ∷ (waits, verdicts.NotOutstanding) ∷ (unspent, verdicts.RequestSpent)
    ∷ (unseen, verdicts.AssertionSeen) ∷ (relayed, verdicts.RelayDiffers) ∷ [])
    verdict (
      omega arith,
      (
        omega arith,
        (
          omega arith,
          (
            omega arith,
            (omega arith, (omega arith, (omega arith, (omega arith, tt)))),
          ),
        ),
      ),
    ) e

pub refused_ends : (config : SpConfig) (rows : RowsView) (horizon now : ℕ) (body : List ℕ) (verdict : Verdict)
    → IsRefused config rows horizon now body verdict → EndsAt 23 verdict
refused_ends config rows horizon now body verdict (by_form e) = posted_ends (form body) verdict e
refused_ends config rows horizon now body verdict (by_document message relay fault p r e) =
    omega (arith, document_ends fault verdict e)
refused_ends config rows horizon now body verdict (by_root message relay tree p s n e) =
    subst (EndsAt 23) (sym e) (omega arith)
refused_ends config rows horizon now body verdict (by_head c k e) =
    head_ends c.head.success c.head.assertions verdict e
refused_ends config rows horizon now body verdict (by_signature c p fault k s u e) =
    omega (arith, signature_ends fault verdict e)
refused_ends config rows horizon now body verdict (by_assertion c p e key k s covered none is) =
    subst (EndsAt 23) (sym is) (omega arith)
refused_ends config rows horizon now body verdict (by_login b k e) =
    let c = b.carried in
    let asked = asked_for rows horizon now b.login in
    login_ends (is_from config c.head b.login) (is_for config b.login) (is_sent_to (consumer config) c.head b.login)
    (is_in_time config now b.login)
    (is_outstanding asked c.head b.login) (is_unspent rows b.login) (is_unseen rows horizon now b.login)
    (is_relayed asked c.relay) verdict e
