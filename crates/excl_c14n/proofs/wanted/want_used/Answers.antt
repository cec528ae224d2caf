use Rattle.std.proofs.Common.{◌≡◌, false, not, ◌&&◌, sym, ap, ◌∙◌, subst, arith}
use Rattle.std.specs.Option.{is_some}
use Rattle.std.proofs.lemmas.Bool.{and_left, and_right}
use Rattle.xml_spec.specs.Bytes.{is_empty}
use Rattle.xml_spec.specs.Numbering.{from_node}
use Rattle.saml_tree.specs.Elements.{name_in}
use Rattle.saml_tree.specs.NodeNames.{attribute_at}
use Rattle.saml_tree.specs.declared.node.NameAt.TheVariants as places
use Rattle.excl_c14n.specs.Levels.{in_force}
use Rattle.excl_c14n.specs.NodeByNode.{scope_inside}
use Rattle.excl_c14n.specs.Pairs.{prefixes_in, space_at, ArePlaced}
use Rattle.excl_c14n.proofs.Named.{if_some_weaker}
use Rattle.excl_c14n.proofs.Needed.{attribute_wanted, attribute_passed}
use Rattle.excl_c14n.proofs.Ordered.{attribute_there}
use Rattle.excl_c14n.proofs.Speaking.{empty_by_length, attribute_speaks}
use Rattle.excl_c14n.proofs.wanted.want_used.Goals as goal
use Rattle.excl_c14n.proofs.wanted.want_used.Goals.{then-is_none+then-not-is_empty+in_ok-want-2, else-is_none, else-is_none-via-then-is_none+else-not-is_empty, else-is_none-via-else-is_none}

pub loop-i-preserved : goal.loop-i-preserved
loop-i-preserved c =
    let tree = c.args.doc.now.tree in
    let scope = scope_inside tree c.args.n.0 in
    let rendered = in_force c.args.rendered.now.levels in
    let name = name_in (from_node tree c.args.n.0) in
    let prefix = c.attribute_parts.result.0.now in
    let local = c.attribute_parts.result.1.now in
    let place = places.Attribute c.args.n c.loop-i.i in
    let there = attribute_there tree c.args.n.0 c.attr_count-i-end.result c.loop-i.i c.loop-i.invariant.counted (omega arith) in
    elim c.if-is_none.branch [
      | then-is_none+then-not-is_empty+in_ok-want-2 w ↦
          (let none = c.is_none.ensures ∙ ap not w.if-is_none.true in
          let some = sym (empty_by_length prefix) ∙ sym w.is_empty.ensures ∙ w.if-not-is_empty.true in
          let speaks = ap (λ t. space_at t place) c.requires.tree
          ∙ attribute_speaks tree c.args.n c.loop-i.i prefix c.declared.result there
          (if_some_weaker (attribute_at tree c.args.n.0 c.loop-i.i) (λ a parts. parts.0) c.attribute_parts.ensures) c.declared.ensures none some in
          rw w.wanted-is
          (record {
            counted = c.loop-i.invariant.counted;
            found =
                attribute_wanted scope rendered tree c.args.n.0 c.loop-i.i name prefix local c.declared.result (prefixes_in c.loop-i.wanted)
                (prefixes_in w.want-then-not-is_empty.new.wanted) there c.attribute_parts.ensures c.declared.ensures none some
                c.loop-i.invariant.found w.in_ok-want-2.ensures.ascending (w.in_ok-want-2.ensures.among scope speaks);
            placed =
                subst (λ t. ArePlaced t scope w.want-then-not-is_empty.new.wanted) c.requires.tree
                (w.in_ok-want-2.ensures.placed scope speaks (subst (λ t. ArePlaced t scope c.loop-i.wanted) (sym c.requires.tree) c.loop-i.invariant.placed));
          }))
      | else-is_none w ↦
          (let passes : (not (is_some c.declared.result) && not (is_empty prefix)) ≡ false = elim w.else-is_none.branch [
            | else-is_none-via-then-is_none+else-not-is_empty w' ↦
                and_right (not (is_some c.declared.result)) (not (is_empty prefix))
                (ap not (sym (empty_by_length prefix) ∙ sym w'.is_empty.ensures ∙ w'.if-not-is_empty.false))
            | else-is_none-via-else-is_none w' ↦
                and_left (not (is_some c.declared.result)) (not (is_empty prefix)) (ap not (c.is_none.ensures ∙ ap not w'.if-is_none.false))
          ] in
          rw w.wanted-is
          (record {
            counted = c.loop-i.invariant.counted;
            found =
                attribute_passed scope rendered tree c.args.n.0 c.loop-i.i name prefix local c.declared.result (prefixes_in c.loop-i.wanted)
                there c.attribute_parts.ensures c.declared.ensures passes c.loop-i.invariant.found;
            placed = c.loop-i.invariant.placed;
          }))
    ]
