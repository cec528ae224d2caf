use Rattle.std.proofs.Common.{◌≡◌, ◌+◌, ◌++◌, string_bytes}
use Rattle.xml_spec.specs.Numbering.{size, from_node, kids_of}
use Rattle.tree_read.specs.Texts.{text_of}
use Rattle.tree_read.proofs.TextBelow.{text_behind}
use Rattle.tree_read.proofs.texts.put_text.Given as goal

abbrev pub invariant-loop-before : goal.invariant-loop-before
invariant-loop-before l = record {
  last : l.before-end ≡ l.at.node.0 + size (kids_of (from_node l.at.doc.now.tree l.at.node.0));
  text :
      string_bytes l.out ++ text_behind l.at.doc.now.tree l.at.node.0 l.before
      ≡ string_bytes l.initial.out ++ text_of l.at.doc.now.tree l.at.node.0;
}
