use Rattle.std.proofs.Common.{◌∙◌}
use Rattle.post_agent.proofs.Texts.{is_decoded}
use Rattle.post_agent.proofs.escaped.decoded.Goals as goal

pub returns-in_ok-of-in-Ok : goal.returns-in_ok-of-in-Ok
returns-in_ok-of-in-Ok c =
    is_decoded c.args.symbols.now c.in-Ok.message.items c.in_ok-of-in-Ok.field-0 c.in-Ok.ensures.ok c.in-Ok.ensures.bytes
    (c.in_ok-of-in-Ok.ensures ∙ c.as_slice.ensures.value)
