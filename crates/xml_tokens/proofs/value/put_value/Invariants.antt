use Rattle.std.proofs.Common.{length, string_bytes}
use denote.Text.{Utf8}
use denote.Shadow.{shadow}
use Rattle.xml_tokens.specs.Decoded.{HasReferences}
use Rattle.xml_tokens.proofs.Decoding.{IsPut}
use Rattle.xml_tokens.proofs.value.put_value.Given as goal

abbrev pub invariant-parts : goal.invariant-parts
invariant-parts l = record {
  utf8 : shadow (Utf8 l.rest);
  references : HasReferences l.rest;
  put : IsPut l.written l.rest (string_bytes l.initial.out) (string_bytes l.out);
}

abbrev pub decreases-parts : goal.decreases-parts
decreases-parts l = length l.rest
