use Rattle.std.proofs.Common.{◌∙◌}
use Rattle.post_agent.proofs.Joining.{post_steps}
use Rattle.post_agent.proofs.request.post.Goals as goal

pub returns : goal.returns
returns c =
    post_steps _ _ _ _ _ _ _ _ _ _ c.in_ok-request.ensures c.in_ok-put_line.ensures c.in_ok-put_line-2.ensures
    (c.as_bytes.ensures.value ∙ c.format.ensures.text) c.in_ok-push.ensures.ok c.in_ok-push-2.ensures.ok
