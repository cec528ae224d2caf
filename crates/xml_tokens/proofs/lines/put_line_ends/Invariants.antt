use Rattle.std.proofs.Common.{length, string_bytes}
use denote.Text.{Utf8}
use denote.Shadow.{shadow}
use Rattle.xml_spec.specs.Meaning.{line_ends}
use Rattle.xml_tokens.proofs.TextParts.{IsPutSoFar}
use Rattle.xml_tokens.proofs.lines.put_line_ends.Given as goal

abbrev pub invariant-lines : goal.invariant-lines
invariant-lines l = record {
  utf8 : shadow (Utf8 l.rest);
  put : IsPutSoFar (line_ends l.text) (line_ends l.rest) (string_bytes l.initial.out) (string_bytes l.out);
}

abbrev pub decreases-lines : goal.decreases-lines
decreases-lines l = length l.rest
