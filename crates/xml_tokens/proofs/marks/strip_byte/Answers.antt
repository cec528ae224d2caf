use Rattle.std.proofs.Common.{arith, rules}
use Rattle.std.proofs.lemmas.Str.{IsCharBoundary-after_ascii}
use Rattle.xml_tokens.proofs.marks.strip_byte.Goals as goal

pub range_from-requires : goal.range_from-requires
range_from-requires c _ = IsCharBoundary-after_ascii c.args.rest.now 0 c.utf8.rest (omega arith) (search rules)
