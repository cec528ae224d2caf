use Rattle.std.proofs.Common.{◌∙◌}
use Rattle.http_wire.proofs.Answering.{vouched_steps}
use Rattle.http_wire.proofs.vouched.vouched_answer.Goals as goal

pub returns : goal.returns
returns c =
    vouched_steps c.args.name.now c.args.attributes.now c.as_bytes.result.now _ _ _ _ _ _ _ (c.as_bytes.ensures.value ∙ c.in_ok-form.ensures) c.new-answer.ensures
    c.in_ok-put_head.ensures c.in_ok-push.ensures.ok c.in_ok-put_name.ensures c.in_ok-push-2.ensures.ok c.in_ok-push-3.ensures.ok c.in_ok-push-4.ensures.ok
