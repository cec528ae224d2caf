use Rattle.access_policy.proofs.Spelling.{plain_first, escaped_first}
use Rattle.std.proofs.Common.{◌∙◌, sym}
use Rattle.access_policy.proofs.conditions.first_byte.Goals as goal

pub returns-then-word-ne92 : goal.returns-then-word-ne92
returns-then-word-ne92 c = plain_first c.args.word.now c.requires c.if-word-ne92.true

pub returns : goal.returns
returns c = escaped_first c.args.word.now c.in_ok-byte.byte c.if-word-lt3.false c.if-word-ne92.false (sym c.hex_byte.ensures ∙ c.in_ok-byte.was)
