use Rattle.std.proofs.Common.{subst}
use Rattle.request_ledger.specs.Record.{request_rules}
use Rattle.provider_node.specs.Replies.{AreReplies}
use Rattle.sp_server.specs.Replies.{sp_replies}
use Rattle.sp_server.specs.Step.{Answers, Setup}
use Rattle.sp_server.proofs.Replies.{sp_laws}
use Rattle.sp_server.proofs.replying.SpRoleRole.laws_hold.Goals as goal

pub returns : goal.returns
returns c =
    let told = c.each_moment_is_told.ensures c.args.now c.requires in
    subst (λ (s : Setup). AreReplies sp_replies request_rules Answers s c.args.now) c.self.view_is
    (sp_laws _ c.args.now (record {
      asking = (told.0, told.1);
      leaving = c.each_logout_has_an_answer.ensures.leaving c.args.now c.requires;
      ending = c.each_logout_has_an_answer.ensures.ending c.args.now c.requires;
    }) c.self.invariant c.compactions_change_no_answer.ensures)
