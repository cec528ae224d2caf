use Rattle.std.proofs.Common.{◌≡◌, length}
use denote.Text.{Utf8}
use denote.Shadow.{shadow}
use Rattle.saml_tree.specs.Views.{outline_view}
use Rattle.saml_tree.proofs.ReadingOn.{ReadOn}
use Rattle.saml_tree.proofs.beyond.open_all.Given as goal

-- the tags that were read, and the outline behind them
abbrev pub invariant-tags : goal.invariant-tags
invariant-tags l = record {
  utf8 : shadow (Utf8 l.left);
  text : l.outline.names.text ≡ l.fn.outline.names.text;
  read : ReadOn (outline_view l.fn.outline) l.fn.rest l.left (outline_view l.outline);
}

abbrev pub decreases-tags : goal.decreases-tags
decreases-tags l = length l.left
