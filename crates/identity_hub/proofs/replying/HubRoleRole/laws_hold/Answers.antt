use Rattle.std.proofs.Common.{subst}
use Rattle.hub_ledger.specs.Record.{hub_rules}
use Rattle.provider_node.specs.Replies.{AreReplies}
use Rattle.identity_hub.specs.declared.config.HubConfig.{HubConfig}
use Rattle.identity_hub.specs.Replies.{hub_replies}
use Rattle.identity_hub.specs.Step.{Answers}
use Rattle.identity_hub.proofs.Roles.{hub_laws}
use Rattle.identity_hub.proofs.replying.HubRoleRole.laws_hold.Goals as goal

pub returns : goal.returns
returns c =
    subst (λ (s : HubConfig). AreReplies hub_replies hub_rules Answers s c.args.now) c.self.view_is
    (hub_laws c.each_login_has_an_answer.ensures.issued c.each_login_has_an_answer.ensures.refused
    c.like_rows_are_judged_alike.ensures.opens c.compactions_change_no_answer.ensures c.self.inside.config c.args.now
    c.requires c.self.invariant)
