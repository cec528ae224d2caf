use Rattle.std.specs.Prelude.{None}
use Rattle.std.proofs.Common.{◌≡◌, ap, refl, sym, ◌∙◌}
use Rattle.std.proofs.lemmas.Result.{err_from_is_err_and}
use Rattle.http_wire.specs.declared.answer.Answer.TheVariants.{Fixed}
use Rattle.http_wire.specs.Views.{request_view}
use Rattle.service_routes.specs.Routes.{checked}
use Rattle.service_routes.specs.declared.route.Route.TheVariants.{Refused, To}
use Rattle.verdict_codes.specs.Codes.{number_of}
use Rattle.provider_node.proofs.Judged.{judged_for}
use Rattle.idp_server.specs.declared.route.Service.TheVariants.{SingleLogout}
use Rattle.idp_server.specs.Routes.{route}
use Rattle.idp_server.specs.Step.{Answers, ByLogoutVerdict, ByStatus, IsNotObeyed}
use Rattle.idp_server.proofs.replying.IdpRoleRole.reply.Goals as goal

pub returns-in_err-single_logout-in-To-SingleLogout : goal.returns-in_err-single_logout-in-To-SingleLogout
returns-in_err-single_logout-in-To-SingleLogout c =
    let back = c.from_residual-in_err-single_logout-in-To-SingleLogout in
    let p = err_from_is_err_and back.result back.ensures.1 in
    let request = request_view c.args.request.now in
    let to : route request ≡ To SingleLogout =
    ap (checked request) (sym c.service_at.ensures) ∙ sym c.route_to.ensures.routed ∙ c.in-To-SingleLogout.is
    ∙ ap To c.in-To-SingleLogout.field-0-is in
    rw (p.1, p.2)
    (judged_for (IsNotObeyed c.args.self.now c.args.now request.body)
    (λ verdict. Answers c.args.self.now c.args.ledger.now.held request c.args.now (Fixed (number_of verdict)) None)
    (c.in_err-single_logout-in-To-SingleLogout).field-0.0 (λ verdict is. ByLogoutVerdict verdict to is refl refl)
    (c.in_err-single_logout-in-To-SingleLogout).ensures.refused)

pub returns-in-Refused : goal.returns-in-Refused
returns-in-Refused c =
    let request = request_view c.args.request.now in
    let to : route request ≡ Refused c.in-Refused.status =
    ap (checked request) (sym c.service_at.ensures) ∙ sym c.route_to.ensures.routed ∙ c.in-Refused.is in
    (ByStatus c.in-Refused.status to refl refl, c.in-Refused.ensures.answered)
