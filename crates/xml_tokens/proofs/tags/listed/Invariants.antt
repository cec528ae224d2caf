use Rattle.std.proofs.Common.{length}
use denote.Text.{Utf8}
use denote.Shadow.{shadow}
use Rattle.xml_tokens.specs.Views.{Grows, added}
use Rattle.xml_tokens.specs.Lexing.{AreSoFar}
use Rattle.xml_tokens.proofs.tags.listed.Given as goal

abbrev pub invariant-tag : goal.invariant-tag
invariant-tag l = record {
  utf8 : shadow (Utf8 l.rest);
  grows : Grows l.initial.attributes.items l.attributes.items;
  read : AreSoFar l.whole (added l.initial.attributes.items l.attributes.items) l.rest;
}

abbrev pub decreases-tag : goal.decreases-tag
decreases-tag l = length l.rest
