use Rattle.xml_tokens.proofs.BareTags.{unclosed}
use Rattle.xml_tokens.proofs.tags.bare_start.Goals as goal

pub returns-in_err-behind : goal.returns-in_err-behind
returns-in_err-behind c =
    rw c.from_residual-in_err-behind.ensures (unclosed c.args.rest.now c.in_ok-tag.tag.now c.in_ok-name.name.now c.in_ok-name.close.now
    c.in_ok-tag.ensures c.in_ok-name.ensures c.in_err-behind.ensures)
