use Rattle.xml_tokens.proofs.Finding.{target_without_colon, target_with_colon}
use Rattle.xml_tokens.proofs.lex.is_target.Goals as goal

pub returns-then-not-has_mark : goal.returns-then-not-has_mark
returns-then-not-has_mark c =
    target_without_colon c.args.name.now c.as_bytes.result.now c.has_mark.result c.eq_ignore_ascii_case.result c.has_mark.ensures
    c.if-not-has_mark.true c.as_bytes.ensures.value c.eq_ignore_ascii_case.ensures.test

pub returns-else-not-has_mark : goal.returns-else-not-has_mark
returns-else-not-has_mark c = target_with_colon c.args.name.now c.has_mark.result c.has_mark.ensures c.if-not-has_mark.false
