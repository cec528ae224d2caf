use Rattle.std.proofs.Common.{ℕ, List, Result, Ok, Err, sym, ◌∙◌, subst}
use Rattle.std.specs.Prelude.{IfOk, IfErr}
use Rattle.saml_tree.specs.Documents.{IsSpelled}
use Rattle.saml_tree.specs.Documents as documents
use Rattle.fault_verdicts.specs.Verdicts.{of_document}
use Rattle.fault_verdicts.specs.Judging.{judged_of, IsJudged}
use Rattle.sp_rules.specs.Opening.{Posts}
use Rattle.sp_rules.specs.Shown.{IsOpening}
use Rattle.sp_rules.specs.Verdict.{IsRefused}
use Rattle.sp_rules.proofs.Deciding.{not_posted, not_spelled}
use Rattle.sp_rules.proofs.Refusals.{handed_on}
use Rattle.sp_rules.proofs.judging.judge.Goals as goal

-- what holds for each form that was posted so holds for this one
for_this : {T E : Type 0} (P : List ℕ → T → Type 0) (IsPosted : List ℕ → Type 0) (body : List ℕ) (result : Result T E) → IsPosted body →
    IfOk result (λ x. (b : List ℕ) → IsPosted b → P b x) → IfOk result (P body)
for_this P IsPosted body (Ok x) posted h = h body posted
for_this P IsPosted body (Err e) posted h = tt

for_this_error : {T E : Type 0} (P : List ℕ → E → Type 0) (IsPosted : List ℕ → Type 0) (body : List ℕ) (result : Result T E) → IsPosted body →
    IfErr result (λ e. (b : List ℕ) → IsPosted b → P b e) → IfErr result (P body)
for_this_error P IsPosted body (Ok x) posted h = tt
for_this_error P IsPosted body (Err e) posted h = h body posted

pub returns-in_err-message-clause-refused : goal.returns-in_err-message-clause-refused
returns-in_err-message-clause-refused c =
    handed_on (IsJudged (IsRefused c.args.config.now c.args.rows.now c.args.horizon c.args.now c.args.body.now))
    c.from_residual.result c.in_err-message.field-0.0 c.from_residual.ensures.1
    (not_posted c.args.config.now c.args.rows.now c.args.horizon c.args.now c.args.body.now c.in_err-message.field-0.0 c.in_err-message.ensures.refused)

pub returns-in_err-doc-clause-refused : goal.returns-in_err-doc-clause-refused
returns-in_err-doc-clause-refused c =
    handed_on (IsJudged (IsRefused c.args.config.now c.args.rows.now c.args.horizon c.args.now c.args.body.now))
    c.from_residual-in_err-doc.result (judged_of (of_document c.in_err-doc.field-0.0)) c.from_residual-in_err-doc.ensures.1
    (not_spelled c.args.config.now c.args.rows.now c.args.horizon c.args.now c.args.body.now c.in_ok-message.message c.in_ok-message.relay c.in_err-doc.field-0.0
    c.in_ok-message.ensures.posts
    (subst (λ (text : List ℕ). documents.IsRefused text c.in_err-doc.field-0.0) c.as_slice.ensures c.in_err-doc.ensures.refused))

pub judge_document-requires-clause-spelled : goal.judge_document-requires-clause-spelled
judge_document-requires-clause-spelled c =
    subst (λ (text : List ℕ). IsSpelled text c.in_ok-doc.doc.tree) (sym c.in_ok-doc.ensures.text) c.in_ok-doc.ensures.ok

pub returns-clause-accepted : goal.returns-clause-accepted
returns-clause-accepted c =
    let posted = subst (λ (text : List ℕ). Posts c.args.body.now text c.in_ok-message.relay) (sym (c.in_ok-doc.ensures.text ∙ c.as_slice.ensures))
    c.in_ok-message.ensures.posts in
    for_this (λ body. IsOpening c.args.config.now c.args.rows.now c.args.horizon c.args.now body)
    (λ body. Posts body c.in_ok-doc.doc.text c.in_ok-message.relay) c.args.body.now c.judge_document.result posted c.judge_document.ensures.accepted

pub returns-clause-refused : goal.returns-clause-refused
returns-clause-refused c =
    let posted = subst (λ (text : List ℕ). Posts c.args.body.now text c.in_ok-message.relay) (sym (c.in_ok-doc.ensures.text ∙ c.as_slice.ensures))
    c.in_ok-message.ensures.posts in
    for_this_error (λ body. IsJudged (IsRefused c.args.config.now c.args.rows.now c.args.horizon c.args.now body))
    (λ body. Posts body c.in_ok-doc.doc.text c.in_ok-message.relay) c.args.body.now c.judge_document.result posted c.judge_document.ensures.refused
