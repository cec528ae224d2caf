use Rattle.std.proofs.Common.{◌+◌, ◌++◌, string_bytes, sym, ap, ◌∙◌, arith}
use Rattle.std.proofs.lemmas.List.{append-nil}
use Rattle.tree_read.proofs.Finding.{element_there}
use Rattle.saml_tree.proofs.Numbers.{kid_number_there}
use Rattle.tree_read.proofs.TextBelow.{none_on, all_on, text_put, one_more_put, no_text, not_text, none_put}
use Rattle.tree_read.specs.Texts.{text_of}
use Rattle.xml_spec.specs.Numbering.{from_node}
use Rattle.tree_read.proofs.texts.put_text.Goals as goal
use Rattle.tree_read.proofs.texts.put_text.Goals.{in-Text+in_ok-put_text-in-Text, in-Element}

pub last_below-last-requires : goal.last_below-last-requires
last_below-last-requires c = element_there c.args.at.doc.now.tree c.args.at.node.0 c.args.at.element

pub loop-before-init : goal.loop-before-init
loop-before-init c = record {
  last = c.last_below-last.ensures;
  text = ap (λ xs. string_bytes c.args.out.now ++ xs) (none_on c.args.at.doc.now.tree c.args.at.node.0);
}

pub kind-requires : goal.kind-requires
kind-requires c =
    kid_number_there c.args.at.doc.now.tree c.args.at.node.0 c.loop-before.before c.loop-before.auto.before (omega arith)

pub loop-before-preserved : goal.loop-before-preserved
loop-before-preserved c =
    let tree = c.args.at.doc.now.tree in
    let n = c.args.at.node.0 in
    let k = c.loop-before.before in
    let all = string_bytes c.args.out.now ++ text_of tree n in
    record {
      last = c.loop-before.invariant.last;
      text = elim c.match-kind.branch [
        | in-Text+in_ok-put_text-in-Text w ↦
            rw w.out-is
            (one_more_put tree n k (string_bytes c.loop-before.out) (string_bytes w.put_text.new.out) all c.loop-before.auto.before (omega arith)
            (text_put (from_node tree (k + 1)) (string_bytes c.loop-before.out) (string_bytes w.put_text.new.out) w.in-Text.ensures
            w.in_ok-put_text-in-Text.ensures.ok) c.loop-before.invariant.text)
        | in-Element w ↦
            one_more_put tree n k (string_bytes c.loop-before.out) (string_bytes c.match-kind.out) all c.loop-before.auto.before (omega arith)
            (none_put (from_node tree (k + 1)) (string_bytes c.loop-before.out) (string_bytes c.match-kind.out)
            (no_text (from_node tree (k + 1)) c.kind.result c.kind.ensures (not_text c.kind.result w.in-Element.is)) (ap string_bytes w.out-is))
            c.loop-before.invariant.text
      ];
    }

pub returns : goal.returns
returns c =
    let tree = c.args.at.doc.now.tree in
    let n = c.args.at.node.0 in
    sym (append-nil (string_bytes c.loop-before.out))
    ∙ ap (λ xs. string_bytes c.loop-before.out ++ xs) (sym (all_on tree n c.loop-before.before (omega arith)))
    ∙ c.loop-before.invariant.text
