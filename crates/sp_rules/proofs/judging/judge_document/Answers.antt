use Rattle.std.proofs.Common.{ℕ, List, Option, sym}
use Rattle.fault_verdicts.specs.Judging.{judged_of, IsJudged}
use Rattle.fault_verdicts.specs.Verdicts.{of_signature}
use Rattle.sp_rules.specs.Keys.{usable}
use Rattle.sp_rules.specs.Opening.{Posts}
use Rattle.sp_rules.specs.Verdict.{IsRefused}
use Rattle.sp_rules.specs.declared.config.SpConfig.{SpConfig}
use Rattle.request_rows.specs.Rows.{RowsView}
use Rattle.fault_verdicts.specs.declared.judged.Judged.{Judged}
use Rattle.fault_verdicts.specs.declared.judged.Judged.TheVariants as judgements
use Rattle.sp_rules.proofs.Refusals.{handed_on}
use Rattle.sp_rules.proofs.Deciding.{not_response, not_asserted, not_covered, child_of_cover, no_login, no_places, not_meant, opening}
use Rattle.sp_rules.proofs.judging.judge_document.Goals as goal

-- whatever form was posted, its refusal is right
abbrev IsRightFor : SpConfig → RowsView → ℕ → ℕ → List ℕ → Option (List ℕ) → Judged → Type 0
IsRightFor config rows horizon now message relay judged =
    (body : List ℕ) → Posts body message relay → IsJudged (IsRefused config rows horizon now body) judged

pub returns-in_err-head-clause-refused : goal.returns-in_err-head-clause-refused
returns-in_err-head-clause-refused c =
    handed_on (IsRightFor c.args.config.now c.args.rows.now c.args.horizon c.args.now c.args.doc.now.text c.args.relay.now)
    c.from_residual.result c.in_err-head.field-0.0 c.from_residual.ensures.1
    (λ body posted. not_response c.args.config.now c.args.rows.now c.args.horizon c.args.now body c.args.doc.now c.args.relay.now posted c.requires.spelled c.root.result.0 c.in_err-head.field-0.0 c.root.ensures.number c.in_err-head.ensures.refused)

pub returns-in_err-assertion-clause-refused : goal.returns-in_err-assertion-clause-refused
returns-in_err-assertion-clause-refused c =
    handed_on (IsRightFor c.args.config.now c.args.rows.now c.args.horizon c.args.now c.args.doc.now.text c.args.relay.now)
    c.from_residual-in_err-assertion.result (judgements.Code c.in_err-assertion.field-0.0) c.from_residual-in_err-assertion.ensures.1
    (λ body posted. not_asserted c.args.config.now c.args.rows.now c.args.horizon c.args.now body c.args.doc.now c.args.relay.now posted c.requires.spelled c.root.result.0 c.in_ok-head.head c.root.ensures.number c.in_ok-head.ensures.ok c.in_err-assertion.field-0.0 c.in_err-assertion.ensures.refused)

pub returns-in_err-cover-clause-refused : goal.returns-in_err-cover-clause-refused
returns-in_err-cover-clause-refused c =
    handed_on (IsRightFor c.args.config.now c.args.rows.now c.args.horizon c.args.now c.args.doc.now.text c.args.relay.now)
    c.from_residual-in_err-cover.result (judged_of (of_signature c.in_err-cover.field-0.0)) c.from_residual-in_err-cover.ensures.1
    (λ body posted. not_covered c.args.config.now c.args.rows.now c.args.horizon c.args.now body c.args.doc.now c.args.relay.now posted c.requires.spelled c.root.result.0 c.in_ok-head.head c.root.ensures.number c.in_ok-head.ensures.ok
    c.in_ok-assertion.assertion.node.0 c.in_ok-assertion.ensures.asserts
    c.in_err-cover.field-0.0 c.in_err-cover.ensures.err)

pub returns-in_err-login-clause-refused : goal.returns-in_err-login-clause-refused
returns-in_err-login-clause-refused c =
    handed_on (IsRightFor c.args.config.now c.args.rows.now c.args.horizon c.args.now c.args.doc.now.text c.args.relay.now)
    c.from_residual-in_err-login.result c.in_err-login.field-0.0 c.from_residual-in_err-login.ensures.1
    (λ body posted. no_login c.args.config.now c.args.rows.now c.args.horizon c.args.now body c.args.doc.now c.args.relay.now posted c.requires.spelled c.root.result.0 c.in_ok-head.head c.root.ensures.number c.in_ok-head.ensures.ok
    c.in_ok-assertion.assertion.node.0 c.in_ok-assertion.ensures.asserts c.in_ok-cover.cover c.in_ok-cover.ensures.ok
    c.in_err-login.field-0.0 c.in_err-login.ensures.refused)

pub returns-in_err-asked-clause-refused : goal.returns-in_err-asked-clause-refused
returns-in_err-asked-clause-refused c =
    handed_on (IsRightFor c.args.config.now c.args.rows.now c.args.horizon c.args.now c.args.doc.now.text c.args.relay.now)
    c.from_residual-in_err-asked.result (c.in_err-asked.field-0.0) c.from_residual-in_err-asked.ensures.1
    (λ body posted. not_meant c.args.config.now c.args.rows.now c.args.horizon c.args.now body c.args.doc.now c.args.relay.now posted c.requires.spelled c.root.result.0 c.in_ok-head.head c.root.ensures.number c.in_ok-head.ensures.ok
    c.in_ok-assertion.assertion.node.0 c.in_ok-assertion.ensures.asserts c.in_ok-cover.cover c.in_ok-cover.ensures.ok c.in_ok-login.login c.in_ok-login.ensures.read
    c.in_err-asked.field-0.0 c.in_err-asked.ensures.refused)

pub returns-in_err-places-clause-refused : goal.returns-in_err-places-clause-refused
returns-in_err-places-clause-refused c =
    handed_on (IsRightFor c.args.config.now c.args.rows.now c.args.horizon c.args.now c.args.doc.now.text c.args.relay.now)
    c.from_residual-in_err-places.result c.in_err-places.field-0.0 c.from_residual-in_err-places.ensures.1
    (λ body posted. no_places c.args.config.now c.args.rows.now c.args.horizon c.args.now body c.args.doc.now c.args.relay.now posted c.requires.spelled c.root.result.0 c.in_ok-head.head c.root.ensures.number c.in_ok-head.ensures.ok
    c.in_ok-assertion.assertion.node.0 c.in_ok-assertion.ensures.asserts c.in_ok-cover.cover c.in_ok-cover.ensures.ok c.in_ok-login.login c.in_ok-login.ensures.read
    c.in_err-places.field-0.0 c.in_err-places.ensures.refused)

pub returns-in_err-target-clause-refused : goal.returns-in_err-target-clause-refused
returns-in_err-target-clause-refused c =
    handed_on (IsRightFor c.args.config.now c.args.rows.now c.args.horizon c.args.now c.args.doc.now.text c.args.relay.now)
    c.from_residual-in_err-target.result (judgements.NoMemory) c.from_residual-in_err-target.ensures.1
    (λ body posted. tt)

pub accepted_of-requires-clause-child : goal.accepted_of-requires-clause-child
accepted_of-requires-clause-child c =
    child_of_cover (usable c.args.config.now c.args.now) c.args.doc.now c.root.result.0 c.in_ok-assertion.assertion.node.0 c.in_ok-head.head c.in_ok-cover.cover
    c.root.ensures.number c.in_ok-head.ensures.ok c.in_ok-assertion.ensures.asserts c.in_ok-cover.ensures.ok

pub returns-clause-accepted : goal.returns-clause-accepted
returns-clause-accepted c = λ body posted.
    opening c.args.config.now c.args.rows.now c.args.horizon c.args.now body c.args.doc.now c.args.relay.now posted c.requires.spelled c.root.result.0 c.in_ok-head.head c.root.ensures.number c.in_ok-head.ensures.ok
    c.in_ok-assertion.assertion.node.0 c.in_ok-assertion.ensures.asserts c.in_ok-cover.cover c.in_ok-cover.ensures.ok c.in_ok-login.login c.in_ok-login.ensures.read
    c.in_ok-asked.asked.now c.in_ok-accepted_of.field-0 c.in_ok-asked.ensures.asked c.in_ok-asked.ensures.accepted
    (c.in_ok-accepted_of.ensures c.in_ok-asked.asked.now (sym c.in_ok-target.ensures))
