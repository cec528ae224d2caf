use Rattle.http_wire.proofs.Answering.{head_steps}
use Rattle.http_wire.proofs.answer.put_head.Goals as goal

pub returns : goal.returns
returns c =
    head_steps c.args.status c.args.size _ _ _ c.args.out.now _ c.format.ensures.text c.phrase.ensures c.format-2.ensures.text c.in_ok-put_pieces.ensures
