use Rattle.std.proofs.Common.{length, string_bytes}
use denote.Text.{Utf8}
use denote.Shadow.{shadow}
use Rattle.xml_tokens.specs.Texts.{characters_of, IsWrittenText}
use Rattle.xml_tokens.proofs.TextParts.{IsPutSoFar}
use Rattle.xml_tokens.proofs.text.put_written.Given as goal

abbrev pub invariant-parts : goal.invariant-parts
invariant-parts l = record {
  utf8 : shadow (Utf8 l.rest);
  written : IsWrittenText l.rest;
  put : IsPutSoFar (characters_of l.written) (characters_of l.rest) (string_bytes l.initial.out) (string_bytes l.out);
}

abbrev pub decreases-parts : goal.decreases-parts
decreases-parts l = length l.rest
