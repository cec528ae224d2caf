use Rattle.std.proofs.Common.{ap, ◌∙◌}
use Rattle.std.proofs.lemmas.Result.{IfOk-weaker}
use Rattle.idp_answers.specs.Answers.{metadata_answer}
use Rattle.idp_rules.specs.declared.config.IdpConfig.{IdpConfig}
use Rattle.idp_server.proofs.role.IdpRole.metadata.Goals as goal

pub returns : goal.returns
returns c =
    IfOk-weaker c.metadata_answer.result _ _
    (λ bytes is. is ∙ (λ i. metadata_answer (c.as_str.ensures i) (c.as_str-2.ensures i))
    ∙ ap (λ (s : IdpConfig). metadata_answer s.entity s.base) c.self.view_is) c.metadata_answer.ensures
