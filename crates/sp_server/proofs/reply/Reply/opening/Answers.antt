use Rattle.provider_node.proofs.Ids.{one_line_id}
use Rattle.sp_server.proofs.reply.Reply.opening.Goals as goal

pub opened_answer-requires : goal.opened_answer-requires
opened_answer-requires c = one_line_id c.drawn_id_of-token.result.now c.drawn_id_of-token.ensures.usable.form
