use Rattle.std.proofs.Common.{ap, refl, sym, ◌∙◌}
use Rattle.http_wire.specs.declared.answer.Answer.TheVariants.{Full}
use Rattle.sp_answers.specs.Answers.{metadata_answer}
use Rattle.sp_server.specs.Step.{ByMetadata, ByStatus, Setup}
use Rattle.http_wire.specs.Views.{request_view}
use Rattle.service_routes.specs.declared.route.Route.TheVariants.{To}
use Rattle.sp_server.proofs.Targets.{refused_answered}
use Rattle.sp_server.proofs.replying.SpRoleRole.reply.Goals as goal

pub returns-in-Refused : goal.returns-in-Refused
returns-in-Refused c = (
  ByStatus c.in-Refused.status (sym c.in-Refused.ensures) refl refl,
  refused_answered (request_view c.args.request.now) c.in-Refused.status (sym c.in-Refused.ensures),
)

pub returns-in_ok-bytes-in-To-Metadata : goal.returns-in_ok-bytes-in-To-Metadata
returns-in_ok-bytes-in-To-Metadata c = (
  ByMetadata (sym c.in-To-Metadata.ensures ∙ ap To c.in-To-Metadata.field-0-is)
      (ap Full (c.in_ok-bytes-in-To-Metadata.ensures ∙ ap (λ (s : Setup). metadata_answer s.config) c.self.view_is)) refl,
  tt,
)
