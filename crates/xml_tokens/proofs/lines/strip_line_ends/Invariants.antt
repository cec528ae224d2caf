use Rattle.std.proofs.Common.{length}
use denote.Text.{Utf8}
use denote.Shadow.{shadow}
use Rattle.xml_tokens.proofs.Translating.{IsStripped}
use Rattle.xml_tokens.proofs.lines.strip_line_ends.Given as goal

abbrev pub invariant-lines : goal.invariant-lines
invariant-lines l = record {
  utf8 : shadow (Utf8 l.rest);
  more_utf8 : shadow (Utf8 l.more);
  stripped : IsStripped l.text l.rest l.left l.more;
}

abbrev pub decreases-lines : goal.decreases-lines
decreases-lines l = length l.rest
