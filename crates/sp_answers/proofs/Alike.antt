-- What rows are asked for in a verdict.
use Rattle.std.specs.Prelude.{[], ◌∷◌, IsSome, IsTrue, not, None, Option, Some}
use Rattle.std.proofs.Common.{◌≡◌, ℕ, Bool, List, refl, sym, subst, ap, ◌∙◌}
use Rattle.protocol_messages.specs.declared.response.ResponseHead.{ResponseHead}
use Rattle.assertion_model.specs.declared.login.Login.{Login}
use Rattle.verdict_codes.specs.declared.codes.Verdict.{Verdict}
use Rattle.verdict_codes.specs.declared.codes.Verdict.TheVariants as verdicts
use Rattle.request_rows.specs.declared.row.AskedRow.{AskedRow}
use Rattle.request_rows.specs.declared.row.OpenedRow.{OpenedRow}
use Rattle.request_rows.specs.Rows.{RowsView, asked_row, is_seen, is_spent}
use Rattle.sp_rules.specs.declared.config.SpConfig.{SpConfig}
use Rattle.sp_rules.specs.Meant.{consumer, is_from, is_for, is_sent_to, is_in_time}
use Rattle.sp_rules.specs.Outstanding.{asked_for, is_outstanding, is_relayed}
use Rattle.sp_rules.specs.Verdict.{by_form, by_document, by_root, by_head, by_signature, by_assertion, by_login, first_failing, login_refusal}
use Rattle.sp_answers.specs.Judging.{LikeRowsAcceptAlike, LikeRowsOpenAlike, LikeRowsRefuseAlike, RowsAnswerAlike}

pub open_alike : LikeRowsOpenAlike
open_alike config now one horizon other other_horizon body b row like opens =
    let request : asked_for one horizon now b.login ≡ Some row = like.asked b.login.request ∙ opens.request in
    let some : IsSome (asked_for one horizon now b.login) = subst (λ (o : Option AskedRow). IsSome o) (sym request) refl in
    record {
      brings = opens.brings;
      meant = opens.meant;
      request = request;
      outstanding = opens.outstanding;
      unspent = subst (λ (s : Bool). IsTrue (not s)) (sym (like.spent b.login.request some)) opens.unspent;
      unseen = subst (λ (s : Bool). IsTrue (not s)) (sym (like.seen b.login.issuer b.login.id)) opens.unseen;
      relayed = opens.relayed;
    }

-- equal rows answer alike
pub same_alike : (now horizon : ℕ) (one other : RowsView) → one.asked ≡ other.asked → one.opened ≡ other.opened
    → RowsAnswerAlike now one horizon other horizon
same_alike now horizon one other asked opened = record {
  asked = λ request. ap (λ (rows : List AskedRow). asked_row rows request now horizon) asked;
  spent = λ request some. ap (λ (rows : List OpenedRow). is_spent rows request) opened;
  seen = λ issuer assertion. ap (λ (rows : List OpenedRow). is_seen rows issuer assertion now horizon) opened;
}

pub accept_alike : LikeRowsAcceptAlike
accept_alike config now one horizon other other_horizon body accepted like opening = record {
  brought = opening.brought;
  asked = opening.asked;
  opens =
      open_alike config now one horizon other other_horizon body opening.brought opening.asked like opening.opens;
  is = opening.is;
}

module _ (config : SpConfig) (now : ℕ) (head : ResponseHead) (relay : Option (List ℕ)) (login : Login) where
  -- what a login is refused for, by what is looked up of it in the rows
  abbrev refusal_by : Option AskedRow → (spent seen : Bool) → Option Verdict
  refusal_by asked spent seen =
      first_failing ((is_from config head login, verdicts.WrongIssuer)
      ∷ (is_for config login, verdicts.WrongAudience)
      ∷ (is_sent_to (consumer config) head login, verdicts.WrongRecipient)
      ∷ (is_in_time config now login, verdicts.NotInTime)
      ∷ (is_outstanding asked head login, verdicts.NotOutstanding)
      ∷ (not spent, verdicts.RequestSpent)
      ∷ (not seen, verdicts.AssertionSeen)
      ∷ (is_relayed asked relay, verdicts.RelayDiffers) ∷ [])

  -- where no request was asked it does not matter whether it is spent: the login is refused before
  spent_alike : (asked : Option AskedRow) (one other seen : Bool) → (IsSome asked → one ≡ other)
      → refusal_by asked one seen ≡ refusal_by asked other seen
  spent_alike None one other seen same = refl
  spent_alike (Some row) one other seen same = ap (λ (s : Bool). refusal_by (Some row) s seen) (same refl)

  refusal_alike : (one : RowsView) (horizon : ℕ) (other : RowsView) (other_horizon : ℕ)
      → RowsAnswerAlike now one horizon other other_horizon
      → login_refusal config one horizon now head relay login
      ≡ login_refusal config other other_horizon now head relay login
  refusal_alike one horizon other other_horizon like =
      let asked = asked_for one horizon now login in
      let others = is_spent other.opened login.request in
      let seen = is_seen one.opened login.issuer login.id now horizon in
      spent_alike asked (is_spent one.opened login.request) others seen (like.spent login.request)
      ∙ (ap (λ (s : Bool). refusal_by asked others s) (like.seen login.issuer login.id)
      ∙ ap (λ (a : Option AskedRow). refusal_by a others (is_seen other.opened login.issuer login.id now other_horizon))
      (like.asked login.request))

pub refuse_alike : LikeRowsRefuseAlike
refuse_alike config now one horizon other other_horizon body verdict like (by_form is) = by_form is
refuse_alike config now one horizon other other_horizon body verdict like (by_document message relay fault posts refused
    is) = by_document message relay fault posts refused is
refuse_alike config now one horizon other other_horizon body verdict like (by_root message relay tree posts spelled none
    is) = by_root message relay tree posts spelled none is
refuse_alike config now one horizon other other_horizon body verdict like (by_head c carries is) = by_head c carries is
refuse_alike config now one horizon other other_horizon body verdict like (by_signature c p fault carries asserts
    uncovered is) = by_signature c p fault carries asserts uncovered is
refuse_alike config now one horizon other other_horizon body verdict like (by_assertion c p e key carries asserts
    covered none is) = by_assertion c p e key carries asserts covered none is
refuse_alike config now one horizon other other_horizon body verdict like (by_login b brings is) =
    by_login b brings (refusal_alike config now b.carried.head b.carried.relay b.login one horizon other other_horizon
    like ∙ is)
