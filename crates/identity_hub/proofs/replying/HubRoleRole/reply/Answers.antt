use Rattle.std.proofs.Common.{◌≡◌, ap, refl, sym, ◌∙◌}
use Rattle.http_wire.specs.Views.{request_view}
use Rattle.http_wire.specs.declared.answer.Answer.TheVariants.{Full}
use Rattle.service_routes.specs.Routes.{checked}
use Rattle.service_routes.specs.declared.route.Route.TheVariants.{Refused, To}
use Rattle.idp_answers.specs.Answers.{plain_metadata_answer}
use Rattle.identity_hub.specs.declared.config.HubConfig.{HubConfig}
use Rattle.identity_hub.specs.declared.route.Service.TheVariants.{Metadata}
use Rattle.identity_hub.specs.Routes.{route}
use Rattle.identity_hub.specs.Step.{ByMetadata, ByStatus}
use Rattle.identity_hub.proofs.replying.HubRoleRole.reply.Goals as goal

pub returns-in-Refused : goal.returns-in-Refused
returns-in-Refused c =
    let request = request_view c.args.request.now in
    let to : route request ≡ Refused c.in-Refused.status =
    ap (checked request) (sym c.service_at.ensures) ∙ sym c.route_to.ensures.routed ∙ c.in-Refused.is in
    (ByStatus c.in-Refused.status to refl refl, c.in-Refused.ensures.answered)

pub returns-in_ok-bytes-in-To-Metadata : goal.returns-in_ok-bytes-in-To-Metadata
returns-in_ok-bytes-in-To-Metadata c =
    let request = request_view c.args.request.now in
    let role = c.in-To-Metadata.role in
    let to : route request ≡ To (Metadata role) =
    ap (checked request) (sym c.service_at.ensures) ∙ sym c.route_to.ensures.routed ∙ c.in-To-Metadata.is
    ∙ ap To c.in-To-Metadata.field-0-is in (
      ByMetadata role to
          (ap Full (c.in_ok-bytes-in-To-Metadata.ensures
          ∙ (λ i. plain_metadata_answer role (c.as_str-entity.ensures i) (c.as_str-base.ensures i))
          ∙ ap (λ (s : HubConfig). plain_metadata_answer role s.upstream.entity s.upstream.base) c.self.view_is)) refl,
      tt,
    )
