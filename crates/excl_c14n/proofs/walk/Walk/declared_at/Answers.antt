use denote.Enum.Bare.{sameb}
use Rattle.saml_tree.specs.contracts.node.NodeKind.{the_type}
use Rattle.std.proofs.Common.{◌≡◌, ◌∙◌, ◌||◌, List, true, false, sym, ap, subst}
use Rattle.xml_spec.specs.Numbering.{from_node}
use Rattle.saml_tree.specs.Elements.{attributes_in}
use Rattle.saml_tree.specs.declared.node.NodeKind.TheVariants as kinds
use Rattle.excl_c14n.specs.Levels.{is_among}
use Rattle.excl_c14n.specs.NodeByNode.{scope_inside}
use Rattle.excl_c14n.specs.Pairs.{Pair, prefixes_in, ArePlaced, is_declared_in}
use Rattle.excl_c14n.proofs.Declaring.{declared_here, binds_here, none_here}
use Rattle.excl_c14n.proofs.walk.Walk.declared_at.Goals as goal
use Rattle.excl_c14n.proofs.walk.Walk.declared_at.Goals.{then-eq+in_ok-add_declared, else-eq}

pub returns : goal.returns
returns c = λ rendered kept.
    let listed = c.args.self.now.listed in
    let tree = c.args.self.now.doc.now.tree in
    let n = c.args.n.0 in
    let none : ArePlaced tree (scope_inside tree n) c.new-found.result = subst (ArePlaced tree (scope_inside tree n)) (sym c.new-found.ensures) tt in
    elim c.if-eq.branch [
      | then-eq+in_ok-add_declared w ↦
          rw w.found-is
          (declared_here listed tree n w.add_declared.new.found rendered
          (w.in_ok-add_declared.ensures.placed (scope_inside tree n) none (binds_here listed tree n (prefixes_in c.new-found.result)))
          (λ q. w.in_ok-add_declared.ensures.among q
          ∙ ap (λ (pairs : List Pair). is_among q (prefixes_in pairs) || is_declared_in listed (attributes_in (from_node tree n)) q) c.new-found.ensures)
          kept)
      | else-eq w ↦
          rw w.found-is
          (declared_here listed tree n c.new-found.result rendered none
          (λ q. ap (λ (pairs : List Pair). is_among q (prefixes_in pairs)) c.new-found.ensures
          ∙ ap (λ attributes. is_declared_in listed attributes q) (sym (none_here (from_node tree n) c.kind.result c.kind.ensures
          (λ e. (let same : c.eq.result ≡ true = c.eq.ensures ∙ (λ i. sameb the_type (e i) kinds.Element) in
          let clash : true ≡ false = sym same ∙ w.if-eq.false in cc)))))
          kept)
    ]
