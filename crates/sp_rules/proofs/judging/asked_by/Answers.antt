use Rattle.std.proofs.Common.{◌≡◌, ℕ, List, Some, Result, Ok, Err, sym, ◌∙◌, ap, subst}
use Rattle.std.specs.Prelude.{IfOk, IfErr, OnOk}
use Rattle.request_rows.specs.Rows.{asked_row}
use Rattle.fault_verdicts.specs.Judging.{IsJudged}
use Rattle.fault_verdicts.specs.declared.judged.Judged.TheVariants as judgements
use Rattle.sp_rules.specs.Meant.{is_sent_to}
use Rattle.sp_rules.specs.Outstanding.{asked_for, is_outstanding, is_relayed}
use Rattle.sp_rules.specs.Verdict.{login_refusal}
use Rattle.sp_rules.proofs.Refusals.{handed_on, asked_in_vain, wrong_issuer, wrong_audience, wrong_recipient, not_in_time, not_outstanding, request_spent, assertion_seen, relay_differs, not_refused, row_found, row_there}
use Rattle.verdict_codes.specs.declared.codes.Verdict.TheVariants as verdicts
use Rattle.sp_rules.proofs.judging.asked_by.Goals as goal

always : {T E P : Type 0} (result : Result T E) → P → OnOk result P
always (Ok x) p = p
always (Err e) p = tt

pub returns-in_err-address-clause-refused : goal.returns-in_err-address-clause-refused
returns-in_err-address-clause-refused c =
    handed_on (IsJudged (λ v. login_refusal c.args.config.now c.args.rows.now c.args.horizon c.args.now c.args.head.now c.args.relay.now c.args.login.now ≡ Some v))
    c.from_residual.result judgements.NoMemory c.from_residual.ensures.1 tt

pub returns-in_err-ask-clause-refused : goal.returns-in_err-ask-clause-refused
returns-in_err-ask-clause-refused c =
    asked_in_vain (login_refusal c.args.config.now c.args.rows.now c.args.horizon c.args.now c.args.head.now c.args.relay.now c.args.login.now)
    c.from_residual-in_err-ask.result c.in_err-ask.field-0.0 verdicts.WrongIssuer c.from_residual-in_err-ask.ensures.1 c.in_err-ask.ensures.err.0
    (wrong_issuer c.args.config.now c.args.rows.now c.args.horizon c.args.now c.args.head.now c.args.relay.now c.args.login.now
    (sym c.is_from.ensures ∙ c.in_err-ask.ensures.err.1))

pub returns-in_err-ask-2-clause-refused : goal.returns-in_err-ask-2-clause-refused
returns-in_err-ask-2-clause-refused c =
    asked_in_vain (login_refusal c.args.config.now c.args.rows.now c.args.horizon c.args.now c.args.head.now c.args.relay.now c.args.login.now)
    c.from_residual-in_err-ask-2.result c.in_err-ask-2.field-0.0 verdicts.WrongAudience c.from_residual-in_err-ask-2.ensures.1 c.in_err-ask-2.ensures.err.0
    (wrong_audience c.args.config.now c.args.rows.now c.args.horizon c.args.now c.args.head.now c.args.relay.now c.args.login.now
    (sym c.is_from.ensures ∙ c.in_ok-ask.ensures.ok)
    (sym c.is_for.ensures ∙ c.in_err-ask-2.ensures.err.1))

pub returns-in_err-ask-3-clause-refused : goal.returns-in_err-ask-3-clause-refused
returns-in_err-ask-3-clause-refused c =
    asked_in_vain (login_refusal c.args.config.now c.args.rows.now c.args.horizon c.args.now c.args.head.now c.args.relay.now c.args.login.now)
    c.from_residual-in_err-ask-3.result c.in_err-ask-3.field-0.0 verdicts.WrongRecipient c.from_residual-in_err-ask-3.ensures.1 c.in_err-ask-3.ensures.err.0
    (wrong_recipient c.args.config.now c.args.rows.now c.args.horizon c.args.now c.args.head.now c.args.relay.now c.args.login.now
    (sym c.is_from.ensures ∙ c.in_ok-ask.ensures.ok)
    (sym c.is_for.ensures ∙ c.in_ok-ask-2.ensures.ok)
    (sym (c.is_sent_to.ensures ∙ ap (λ (address : List ℕ). is_sent_to address c.args.head.now c.args.login.now) (c.as_str-2.ensures ∙ c.in_ok-address.ensures)) ∙ c.in_err-ask-3.ensures.err.1))

pub returns-in_err-ask-4-clause-refused : goal.returns-in_err-ask-4-clause-refused
returns-in_err-ask-4-clause-refused c =
    asked_in_vain (login_refusal c.args.config.now c.args.rows.now c.args.horizon c.args.now c.args.head.now c.args.relay.now c.args.login.now)
    c.from_residual-in_err-ask-4.result c.in_err-ask-4.field-0.0 verdicts.NotInTime c.from_residual-in_err-ask-4.ensures.1 c.in_err-ask-4.ensures.err.0
    (not_in_time c.args.config.now c.args.rows.now c.args.horizon c.args.now c.args.head.now c.args.relay.now c.args.login.now
    (sym c.is_from.ensures ∙ c.in_ok-ask.ensures.ok)
    (sym c.is_for.ensures ∙ c.in_ok-ask-2.ensures.ok)
    (sym (c.is_sent_to.ensures ∙ ap (λ (address : List ℕ). is_sent_to address c.args.head.now c.args.login.now) (c.as_str-2.ensures ∙ c.in_ok-address.ensures)) ∙ c.in_ok-ask-3.ensures.ok)
    (sym c.is_in_time.ensures ∙ c.in_err-ask-4.ensures.err.1))

pub returns-in_err-ask-5-clause-refused : goal.returns-in_err-ask-5-clause-refused
returns-in_err-ask-5-clause-refused c =
    let looked = c.asked_row-asked.ensures ∙ ap (λ (request : List ℕ). asked_row c.args.rows.now.asked request c.args.now c.args.horizon) c.as_str.ensures in
    asked_in_vain (login_refusal c.args.config.now c.args.rows.now c.args.horizon c.args.now c.args.head.now c.args.relay.now c.args.login.now)
    c.from_residual-in_err-ask-5.result c.in_err-ask-5.field-0.0 verdicts.NotOutstanding c.from_residual-in_err-ask-5.ensures.1 c.in_err-ask-5.ensures.err.0
    (not_outstanding c.args.config.now c.args.rows.now c.args.horizon c.args.now c.args.head.now c.args.relay.now c.args.login.now
    (sym c.is_from.ensures ∙ c.in_ok-ask.ensures.ok)
    (sym c.is_for.ensures ∙ c.in_ok-ask-2.ensures.ok)
    (sym (c.is_sent_to.ensures ∙ ap (λ (address : List ℕ). is_sent_to address c.args.head.now c.args.login.now) (c.as_str-2.ensures ∙ c.in_ok-address.ensures)) ∙ c.in_ok-ask-3.ensures.ok)
    (sym c.is_in_time.ensures ∙ c.in_ok-ask-4.ensures.ok)
    (sym (c.is_outstanding.ensures ∙ ap (λ row. is_outstanding row c.args.head.now c.args.login.now) looked) ∙ c.in_err-ask-5.ensures.err.1))

pub returns-in_err-ask-6-clause-refused : goal.returns-in_err-ask-6-clause-refused
returns-in_err-ask-6-clause-refused c =
    let looked = c.asked_row-asked.ensures ∙ ap (λ (request : List ℕ). asked_row c.args.rows.now.asked request c.args.now c.args.horizon) c.as_str.ensures in
    asked_in_vain (login_refusal c.args.config.now c.args.rows.now c.args.horizon c.args.now c.args.head.now c.args.relay.now c.args.login.now)
    c.from_residual-in_err-ask-6.result c.in_err-ask-6.field-0.0 verdicts.RequestSpent c.from_residual-in_err-ask-6.ensures.1 c.in_err-ask-6.ensures.err.0
    (request_spent c.args.config.now c.args.rows.now c.args.horizon c.args.now c.args.head.now c.args.relay.now c.args.login.now
    (sym c.is_from.ensures ∙ c.in_ok-ask.ensures.ok)
    (sym c.is_for.ensures ∙ c.in_ok-ask-2.ensures.ok)
    (sym (c.is_sent_to.ensures ∙ ap (λ (address : List ℕ). is_sent_to address c.args.head.now c.args.login.now) (c.as_str-2.ensures ∙ c.in_ok-address.ensures)) ∙ c.in_ok-ask-3.ensures.ok)
    (sym c.is_in_time.ensures ∙ c.in_ok-ask-4.ensures.ok)
    (sym (c.is_outstanding.ensures ∙ ap (λ row. is_outstanding row c.args.head.now c.args.login.now) looked) ∙ c.in_ok-ask-5.ensures.ok)
    (sym c.is_unspent.ensures ∙ c.in_err-ask-6.ensures.err.1))

pub returns-in_err-ask-7-clause-refused : goal.returns-in_err-ask-7-clause-refused
returns-in_err-ask-7-clause-refused c =
    let looked = c.asked_row-asked.ensures ∙ ap (λ (request : List ℕ). asked_row c.args.rows.now.asked request c.args.now c.args.horizon) c.as_str.ensures in
    asked_in_vain (login_refusal c.args.config.now c.args.rows.now c.args.horizon c.args.now c.args.head.now c.args.relay.now c.args.login.now)
    c.from_residual-in_err-ask-7.result c.in_err-ask-7.field-0.0 verdicts.AssertionSeen c.from_residual-in_err-ask-7.ensures.1 c.in_err-ask-7.ensures.err.0
    (assertion_seen c.args.config.now c.args.rows.now c.args.horizon c.args.now c.args.head.now c.args.relay.now c.args.login.now
    (sym c.is_from.ensures ∙ c.in_ok-ask.ensures.ok)
    (sym c.is_for.ensures ∙ c.in_ok-ask-2.ensures.ok)
    (sym (c.is_sent_to.ensures ∙ ap (λ (address : List ℕ). is_sent_to address c.args.head.now c.args.login.now) (c.as_str-2.ensures ∙ c.in_ok-address.ensures)) ∙ c.in_ok-ask-3.ensures.ok)
    (sym c.is_in_time.ensures ∙ c.in_ok-ask-4.ensures.ok)
    (sym (c.is_outstanding.ensures ∙ ap (λ row. is_outstanding row c.args.head.now c.args.login.now) looked) ∙ c.in_ok-ask-5.ensures.ok)
    (sym c.is_unspent.ensures ∙ c.in_ok-ask-6.ensures.ok)
    (sym c.is_unseen.ensures ∙ c.in_err-ask-7.ensures.err.1))

pub returns-in_err-ask-8-clause-refused : goal.returns-in_err-ask-8-clause-refused
returns-in_err-ask-8-clause-refused c =
    let looked = c.asked_row-asked.ensures ∙ ap (λ (request : List ℕ). asked_row c.args.rows.now.asked request c.args.now c.args.horizon) c.as_str.ensures in
    asked_in_vain (login_refusal c.args.config.now c.args.rows.now c.args.horizon c.args.now c.args.head.now c.args.relay.now c.args.login.now)
    c.from_residual-in_err-ask-8.result c.in_err-ask-8.field-0.0 verdicts.RelayDiffers c.from_residual-in_err-ask-8.ensures.1 c.in_err-ask-8.ensures.err.0
    (relay_differs c.args.config.now c.args.rows.now c.args.horizon c.args.now c.args.head.now c.args.relay.now c.args.login.now
    (sym c.is_from.ensures ∙ c.in_ok-ask.ensures.ok)
    (sym c.is_for.ensures ∙ c.in_ok-ask-2.ensures.ok)
    (sym (c.is_sent_to.ensures ∙ ap (λ (address : List ℕ). is_sent_to address c.args.head.now c.args.login.now) (c.as_str-2.ensures ∙ c.in_ok-address.ensures)) ∙ c.in_ok-ask-3.ensures.ok)
    (sym c.is_in_time.ensures ∙ c.in_ok-ask-4.ensures.ok)
    (sym (c.is_outstanding.ensures ∙ ap (λ row. is_outstanding row c.args.head.now c.args.login.now) looked) ∙ c.in_ok-ask-5.ensures.ok)
    (sym c.is_unspent.ensures ∙ c.in_ok-ask-6.ensures.ok)
    (sym c.is_unseen.ensures ∙ c.in_ok-ask-7.ensures.ok)
    (sym (c.is_relayed.ensures ∙ ap (λ row. is_relayed row c.args.relay.now) looked) ∙ c.in_err-ask-8.ensures.err.1))

pub returns-clause-asked : goal.returns-clause-asked
returns-clause-asked c =
    let looked = c.asked_row-asked.ensures ∙ ap (λ (request : List ℕ). asked_row c.args.rows.now.asked request c.args.now c.args.horizon) c.as_str.ensures in
    subst (λ result. IfOk result (λ asked. asked_for c.args.rows.now c.args.horizon c.args.now c.args.login.now ≡ Some asked.now)) (sym c.ok_or.ensures.value)
    (row_found c.asked_row-asked.result _ (judgements.Code verdicts.NotOutstanding) looked)

pub returns-clause-accepted : goal.returns-clause-accepted
returns-clause-accepted c =
    let looked = c.asked_row-asked.ensures ∙ ap (λ (request : List ℕ). asked_row c.args.rows.now.asked request c.args.now c.args.horizon) c.as_str.ensures in
    always c.ok_or.result
    (not_refused c.args.config.now c.args.rows.now c.args.horizon c.args.now c.args.head.now c.args.relay.now c.args.login.now
    (sym c.is_from.ensures ∙ c.in_ok-ask.ensures.ok)
    (sym c.is_for.ensures ∙ c.in_ok-ask-2.ensures.ok)
    (sym (c.is_sent_to.ensures ∙ ap (λ (address : List ℕ). is_sent_to address c.args.head.now c.args.login.now) (c.as_str-2.ensures ∙ c.in_ok-address.ensures)) ∙ c.in_ok-ask-3.ensures.ok)
    (sym c.is_in_time.ensures ∙ c.in_ok-ask-4.ensures.ok)
    (sym (c.is_outstanding.ensures ∙ ap (λ row. is_outstanding row c.args.head.now c.args.login.now) looked) ∙ c.in_ok-ask-5.ensures.ok)
    (sym c.is_unspent.ensures ∙ c.in_ok-ask-6.ensures.ok)
    (sym c.is_unseen.ensures ∙ c.in_ok-ask-7.ensures.ok)
    (sym (c.is_relayed.ensures ∙ ap (λ row. is_relayed row c.args.relay.now) looked) ∙ c.in_ok-ask-8.ensures.ok))

pub returns-clause-refused : goal.returns-clause-refused
returns-clause-refused c =
    let P = IsJudged (λ v. login_refusal c.args.config.now c.args.rows.now c.args.horizon c.args.now c.args.head.now c.args.relay.now c.args.login.now ≡ Some v) in
    subst (λ result. IfErr result P) (sym c.ok_or.ensures.value)
    (row_there P c.asked_row-asked.result (judgements.Code verdicts.NotOutstanding) c.args.head.now c.args.login.now (sym c.is_outstanding.ensures ∙ c.in_ok-ask-5.ensures.ok))
