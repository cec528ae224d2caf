use Rattle.std.proofs.Common.{length}
use denote.Text.{Utf8}
use denote.Shadow.{shadow}
use Rattle.xml_tokens.specs.Texts.{characters_of, IsWrittenText}
use Rattle.xml_tokens.proofs.TextParts.{IsComparedSoFar}
use Rattle.xml_tokens.proofs.text.is_written.Given as goal

abbrev pub invariant-parts : goal.invariant-parts
invariant-parts l = record {
  utf8 : shadow (Utf8 l.rest);
  left_utf8 : shadow (Utf8 l.left);
  written : IsWrittenText l.rest;
  compared : IsComparedSoFar (characters_of l.written) (characters_of l.rest) l.text l.left;
}

abbrev pub decreases-parts : goal.decreases-parts
decreases-parts l = length l.rest
