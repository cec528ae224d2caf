use Rattle.std.proofs.Common.{length}
use denote.Text.{Utf8}
use denote.Shadow.{shadow}
use Rattle.xml_tokens.specs.Decoded.{HasReferences}
use Rattle.xml_tokens.proofs.Decoding.{IsCompared}
use Rattle.xml_tokens.proofs.value.is_value.Given as goal

abbrev pub invariant-parts : goal.invariant-parts
invariant-parts l = record {
  utf8 : shadow (Utf8 l.rest);
  left_utf8 : shadow (Utf8 l.left);
  references : HasReferences l.rest;
  compared : IsCompared l.written l.rest l.text l.left;
}

abbrev pub decreases-parts : goal.decreases-parts
decreases-parts l = length l.rest
