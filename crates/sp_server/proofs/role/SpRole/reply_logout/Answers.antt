use Rattle.std.specs.Prelude.{None}
use Rattle.std.proofs.Common.{refl, sym}
use Rattle.std.proofs.lemmas.Result.{err_from_is_err_and}
use Rattle.http_wire.specs.declared.answer.Answer.TheVariants.{Fixed}
use Rattle.http_wire.specs.Views.{request_view}
use Rattle.verdict_codes.specs.Codes.{number_of}
use Rattle.provider_node.proofs.Judged.{judged_for}
use Rattle.sp_server.specs.Peer.{IsNotObeyed}
use Rattle.sp_server.specs.Step.{Answers, ByLogoutVerdict}
use Rattle.sp_server.proofs.role.SpRole.reply_logout.Goals as goal

pub returns-in_err-asked_by : goal.returns-in_err-asked_by
returns-in_err-asked_by c =
    let p = err_from_is_err_and c.from_residual.result c.from_residual.ensures.1 in
    let request = request_view c.args.request.now in
    rw (p.1, p.2)
    (judged_for (IsNotObeyed c.args.self.now.config c.args.now request.body)
    (λ verdict. Answers c.args.self.now c.args.ledger.now.held request c.args.now (Fixed (number_of verdict)) None)
    c.in_err-asked_by.field-0.0
    (λ verdict is. ByLogoutVerdict verdict c.requires.route (sym c.if-is_expired.ensures) is refl refl)
    c.in_err-asked_by.ensures.err)
