use Rattle.std.proofs.Common.{◌≡◌, List, length}
use denote.Text.{Utf8}
use denote.Shadow.{shadow}
use Rattle.xml_spec.specs.Syntax.{Token}
use Rattle.saml_tree.specs.Views.{outline_view, IsLinking, IsClear}
use Rattle.saml_tree.proofs.Reading.{after, Progress}
use Rattle.saml_tree.proofs.Following.{Follows}
use Rattle.saml_tree.proofs.read.read_rows.Given as goal

-- the tokens that were read, and what they made
abbrev pub invariant-tokens : goal.invariant-tokens
invariant-tokens l = record {
  utf8 : shadow (Utf8 l.left);
  linked : IsLinking l.builder;
  clear : IsClear l.builder;
  behind : l.builder.text.behind ≡ l.left;
  outline : l.outline.names.text ≡ l.fn.rest;
  read : (ts : List Token) × Progress l.fn.text l.fn.rest l.left ts (outline_view l.outline) × Follows l.builder (after l.fn.text l.fn.rest ts);
}

abbrev pub decreases-tokens : goal.decreases-tokens
decreases-tokens l = length l.left
