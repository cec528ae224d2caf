use Rattle.std.specs.Prelude.{None}
use Rattle.std.proofs.Common.{refl, subst, sym}
use Rattle.std.proofs.lemmas.Result.{err_from_is_err_and}
use Rattle.gate_journal.specs.declared.header.Header.{Header}
use Rattle.http_wire.specs.declared.answer.Answer.TheVariants.{Fixed}
use Rattle.http_wire.specs.Views.{request_view}
use Rattle.hub_ledger.specs.RowsOf.{rows_of}
use Rattle.sp_rules.specs.Verdict.{IsRefused}
use Rattle.verdict_codes.specs.Codes.{number_of}
use Rattle.verdict_codes.specs.declared.codes.Verdict.{Verdict}
use Rattle.sp_answers.proofs.Alike.{same_alike}
use Rattle.provider_node.proofs.Judged.{judged_for}
use Rattle.identity_hub.specs.declared.config.HubConfig.{HubConfig}
use Rattle.identity_hub.specs.Step.{Answers, ByVerdict, rows_seen}
use Rattle.identity_hub.proofs.role.HubRole.reply_form.Goals as goal

pub returns-in_err-accepted : goal.returns-in_err-accepted
returns-in_err-accepted c =
    let p = err_from_is_err_and c.from_residual.result c.from_residual.ensures.1 in
    let config = c.self.inside.config in
    let rows = c.rows.result.now in
    let horizon = c.header-horizon.result.horizon in
    let held = c.args.ledger.now.held in
    let request = request_view c.args.request.now in
    let seen : (verdict : Verdict) → IsRefused config.upstream rows horizon c.args.now request.body verdict
    → IsRefused c.args.self.now.upstream (rows_seen (rows_of held.records)) held.header.horizon c.args.now request.body
    verdict =
    λ verdict refused.
    subst (λ (s : HubConfig). IsRefused s.upstream (rows_seen (rows_of held.records)) held.header.horizon c.args.now
    request.body verdict) c.self.view_is
    (subst (λ (h : Header). IsRefused config.upstream (rows_seen (rows_of held.records)) h.horizon c.args.now
    request.body
    verdict) c.header-horizon.ensures
    (c.like_rows_are_judged_alike.ensures.refuses config.upstream c.args.now (rows_seen (rows_of held.records)) horizon
    rows horizon request.body verdict (same_alike c.args.now horizon (rows_seen (rows_of held.records)) rows
    (sym c.rows.ensures.asked) (sym c.rows.ensures.opened)) refused)) in
    rw (p.1, p.2)
    (judged_for (IsRefused config.upstream rows horizon c.args.now request.body)
    (λ verdict. Answers c.args.self.now held request c.args.now (Fixed (number_of verdict)) None)
    c.in_err-accepted.field-0.0 (λ verdict is. ByVerdict verdict c.requires.route (seen verdict is) refl refl)
    c.in_err-accepted.ensures.refused)
