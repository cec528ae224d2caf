use Rattle.post_agent.proofs.Texts.{at_reference, plain_character}
use Rattle.post_agent.proofs.escaped.first_character.Goals as goal

pub returns-then-text-eq38 : goal.returns-then-text-eq38
returns-then-text-eq38 c =
    at_reference c.args.text.now c.behind_reference.result c.behind_reference.ensures c.if-text-eq38.true c.requires

pub returns : goal.returns
returns c = plain_character c.args.text.now c.requires c.if-text-eq38.false
