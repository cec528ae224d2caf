use Rattle.std.proofs.Common.{◌≡◌, length}
use denote.Text.{Utf8}
use denote.Shadow.{shadow}
use Rattle.saml_tree.specs.Views.{outline_view}
use Rattle.saml_tree.proofs.ReadingOn.{ReadOn}
use Rattle.saml_tree.proofs.beyond.outline_behind.Given as goal

-- the tokens that were read, and the outline behind them
abbrev pub invariant-tokens : goal.invariant-tokens
invariant-tokens l = record {
  utf8 : shadow (Utf8 l.left);
  text : l.outline.names.text ≡ l.fn.begun.names.text;
  read : ReadOn (outline_view l.fn.begun) l.fn.rest l.left (outline_view l.outline);
}

abbrev pub decreases-tokens : goal.decreases-tokens
decreases-tokens l = length l.left
