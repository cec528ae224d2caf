use Rattle.std.proofs.Common.{rules}
use Rattle.xml_tokens.specs.Texts.{characters_of, part_text}
use Rattle.xml_tokens.proofs.TextParts.{more_compared}
use Rattle.xml_tokens.proofs.text.is_written.Goals as goal

pub parts-preserved : goal.parts-preserved
parts-preserved c = record {
  utf8 = search rules;
  left_utf8 = search rules;
  written = c.in-Some.ensures.written;
  compared =
      more_compared (characters_of c.args.written.now) (characters_of c.parts.rest.now) c.args.text.now c.parts.left.now (part_text c.in-Some.part)
      (characters_of c.in-Some.behind.now) c.in-Some-strip_part.more.now c.parts.invariant.compared c.in-Some.ensures.means
      c.in-Some-strip_part.ensures;
}
