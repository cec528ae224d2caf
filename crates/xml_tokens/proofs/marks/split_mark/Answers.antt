use Rattle.std.proofs.Common.{◌<◌, length, ◌∙◌, sym, arith, ap}
use Rattle.xml_tokens.proofs.Finding.{split_found, lacks_by_first, no_place}
use Rattle.xml_tokens.proofs.marks.split_mark.Goals as goal

pub returns-in-len1-up : goal.returns-in-len1-up
returns-in-len1-up c =
    let some : 0 < length c.args.mark.now = omega (arith, ap length c.as_bytes.ensures.value) in
    no_place c.args.mark.now c.args.rest.now some
    (lacks_by_first c.args.mark.now c.as_bytes.result.now c.args.rest.now c.as_bytes.ensures.value c.in-len1-up.len_at_least
    (sym c.has_byte.ensures ∙ c.if-not-has_byte.true))

pub returns-in_default : goal.returns-in_default
returns-in_default c = split_found c.args.mark.now c.args.rest.now c.split_once.result c.split_once.ensures.cases
