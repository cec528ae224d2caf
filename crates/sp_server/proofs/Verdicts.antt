-- The verdict on a form over two ledgers that answer alike.
use Rattle.std.specs.Prelude.{IsSome, not}
use Rattle.std.proofs.Common.{◌≡◌, inl, inr, ℕ, Bool, List, [], ◌∷◌, Option, None, Some, sym, subst, ap, refl, ◌∙◌}
use Rattle.assertion_model.specs.declared.login.Login.{Login}
use Rattle.protocol_messages.specs.declared.response.ResponseHead.{ResponseHead}
use Rattle.request_rows.specs.Rows.{asked_row, is_seen, is_spent}
use Rattle.request_rows.specs.declared.row.AskedRow.{AskedRow}
use Rattle.request_ledger.specs.Laws.{AnswerAlike, CompactionsChangeNoAnswer}
use Rattle.request_ledger.specs.Ledger.{Held}
use Rattle.request_ledger.specs.RowsOf.{rows_of}
use Rattle.sp_rules.specs.Meant.{consumer, is_from, is_for, is_sent_to, is_in_time}
use Rattle.sp_rules.specs.Outstanding.{is_outstanding, is_relayed}
use Rattle.sp_rules.specs.Verdict as refusals
use Rattle.sp_rules.specs.Verdict.{IsRefused, first_failing, login_refusal}
use Rattle.sp_rules.specs.declared.config.SpConfig.{SpConfig}
use Rattle.verdict_codes.specs.declared.codes.Verdict.{Verdict}
use Rattle.verdict_codes.specs.declared.codes.Verdict.TheVariants as verdicts
use Rattle.sp_server.specs.Step.{rows_seen}
use Rattle.sp_server.specs.Verdicts.{CompactionsChangeNoVerdict, IsVerdictOver}
use Rattle.sp_server.proofs.Alike.{opens_alike}

-- the other way round
pub alike_back : (now : ℕ) (one other : Held) → AnswerAlike now one other → AnswerAlike now other one
alike_back now one other like = record {
  asked = λ request. sym (like.asked request);
  spent = λ request is. sym (like.spent request (subst (λ (o : Option AskedRow). IsSome o) (sym (like.asked request))
      is));
  seen = λ issuer assertion. sym (like.seen issuer assertion);
  session = λ token. sym (like.session token);
  ending = λ issuer name indexes. sym (like.ending issuer name indexes);
  waiting = λ request. sym (like.waiting request);
}

-- what a login is refused for, over an asked row, and whether its request is spent and its assertion seen
abbrev refusal_over : SpConfig → ℕ → ResponseHead → Option (List ℕ) → Login → Option AskedRow → Bool → Bool
    → Option Verdict
refusal_over config now head relay login asked spent seen =
    first_failing ((is_from config head login, verdicts.WrongIssuer)
    ∷ (is_for config login, verdicts.WrongAudience)
    ∷ (is_sent_to (consumer config) head login, verdicts.WrongRecipient)
    ∷ (is_in_time config now login, verdicts.NotInTime)
    ∷ (is_outstanding asked head login, verdicts.NotOutstanding)
    ∷ (not spent, verdicts.RequestSpent)
    ∷ (not seen, verdicts.AssertionSeen)
    ∷ (is_relayed asked relay, verdicts.RelayDiffers) ∷ [])

-- a request that is not outstanding is not asked whether it is spent
spent_alike : (config : SpConfig) (now : ℕ) (head : ResponseHead) (relay : Option (List ℕ)) (login : Login)
    (asked : Option AskedRow) (spent other seen : Bool) → (IsSome asked → spent ≡ other)
    → refusal_over config now head relay login asked spent seen ≡ refusal_over config now head relay login asked other
    seen
spent_alike config now head relay login None spent other seen same = refl
spent_alike config now head relay login (Some row) spent other seen same =
    ap (λ (s : Bool). refusal_over config now head relay login (Some row) s seen) (same refl)

refusal_alike : (config : SpConfig) (now : ℕ) (head : ResponseHead) (relay : Option (List ℕ)) (login : Login)
    (one other : Held) → AnswerAlike now one other
    → login_refusal config (rows_seen (rows_of one.records)) one.header.horizon now head relay login ≡ login_refusal
    config (rows_seen (rows_of other.records)) other.header.horizon now head relay login
refusal_alike config now head relay login one other like =
    let asked = asked_row (rows_of one.records).asked login.request now one.header.horizon in
    let spent = is_spent (rows_of one.records).opened login.request in
    let then_spent = is_spent (rows_of other.records).opened login.request in
    let seen = is_seen (rows_of one.records).opened login.issuer login.id now one.header.horizon in
    spent_alike config now head relay login asked spent then_spent seen (like.spent login.request)
    ∙ ap (λ (s : Bool). refusal_over config now head relay login asked then_spent s) (like.seen login.issuer login.id)
    ∙ ap (λ (a : Option AskedRow). refusal_over config now head relay login a then_spent
    (is_seen (rows_of other.records).opened login.issuer login.id now other.header.horizon)) (like.asked login.request)

refused_alike : (config : SpConfig) (now : ℕ) (one other : Held) (body : List ℕ) (verdict : Verdict)
    → AnswerAlike now one other
    → IsRefused config (rows_seen (rows_of other.records)) other.header.horizon now body verdict
    → IsRefused config (rows_seen (rows_of one.records)) one.header.horizon now body verdict
refused_alike config now one other body verdict like (refusals.by_form is) = refusals.by_form is
refused_alike config now one other body verdict like (refusals.by_document message relay fault posts refused is) =
    refusals.by_document message relay fault posts refused is
refused_alike config now one other body verdict like (refusals.by_root message relay tree posts spelled none is) =
    refusals.by_root message relay tree posts spelled none is
refused_alike config now one other body verdict like (refusals.by_head c carries is) = refusals.by_head c carries is
refused_alike config now one other body verdict like (refusals.by_signature c p fault carries asserts uncovered is) =
    refusals.by_signature c p fault carries asserts uncovered is
refused_alike config now one other body verdict like (refusals.by_assertion c p e key carries asserts covered none is) =
    refusals.by_assertion c p e key carries asserts covered none is
refused_alike config now one other body verdict like (refusals.by_login b brings is) =
    refusals.by_login b brings (refusal_alike config now b.carried.head b.carried.relay b.login one other like ∙ is)

pub verdict_alike : (config : SpConfig) (now : ℕ) (one other : Held) (body : List ℕ) (number : ℕ)
    → AnswerAlike now one other
    → IsVerdictOver config other now body number → IsVerdictOver config one now body number
verdict_alike config now one other body number like (inl it) =
    inl (it.0, (it.1.0, it.1.1, opens_alike config now one other body it.1.0 it.1.1 like it.1.2))
verdict_alike config now one other body number like (inr it) =
    inr (it.0, it.1, refused_alike config now one other body it.0 like it.2)

pub no_verdict_changes : CompactionsChangeNoAnswer → CompactionsChangeNoVerdict
no_verdict_changes law config now later old new body number are made late =
    let like = law now later old new are made late in (
      verdict_alike config later old new body number (alike_back later new old like),
      verdict_alike config later new old body number like,
    )
