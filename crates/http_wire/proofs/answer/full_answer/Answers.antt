use Rattle.http_wire.proofs.Answering.{answer_steps}
use Rattle.http_wire.proofs.answer.full_answer.Goals as goal

pub returns : goal.returns
returns c =
    answer_steps c.args.status c.args.location c.args.cookie c.args.body.now _ _ _ _ _ _ c.new-answer.ensures c.in_ok-put_head.ensures
    c.in_ok-put_line.ensures c.in_ok-put_line-2.ensures c.in_ok-push.ensures.ok c.in_ok-push-2.ensures.ok
