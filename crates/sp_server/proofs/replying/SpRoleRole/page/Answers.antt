use Rattle.std.specs.Prelude.{IfOk}
use Rattle.std.proofs.Common.{subst}
use Rattle.sp_server.specs.Replies.{IsAnswerTo}
use Rattle.sp_server.specs.Step.{Setup}
use Rattle.sp_server.proofs.Replies.{sp_answerable}
use Rattle.sp_server.proofs.replying.SpRoleRole.page.Goals as goal

pub answer-requires-clause-answerable : goal.answer-requires-clause-answerable
answer-requires-clause-answerable c =
    sp_answerable c.args.self.now c.args.now c.args.reply.now c.args.draft.now c.requires.wanted

pub returns : goal.returns
returns c =
    subst (λ (s : Setup). IfOk c.answer.result (λ bytes. IsAnswerTo s.config c.args.draft.now c.args.now
    c.args.reply.now bytes)) c.self.view_is c.answer.ensures
