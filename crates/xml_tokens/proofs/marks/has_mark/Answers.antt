use Rattle.std.proofs.Common.{◌∙◌, sym}
use Rattle.xml_tokens.proofs.Finding.{has_by_contains, lacks_by_first}
use Rattle.xml_tokens.proofs.marks.has_mark.Goals as goal

pub returns-in-len1-up : goal.returns-in-len1-up
returns-in-len1-up c =
    sym (lacks_by_first c.args.mark.now c.as_bytes.result.now c.args.text.now c.as_bytes.ensures.value c.in-len1-up.len_at_least
    (sym c.has_byte.ensures ∙ c.if-not-has_byte.true))

pub returns-in_default : goal.returns-in_default
returns-in_default c = has_by_contains c.args.mark.now c.args.text.now c.contains.result c.requires.some c.contains.ensures.cases
