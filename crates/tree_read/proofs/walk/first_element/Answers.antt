use Rattle.std.proofs.Common.{◌≡◌, ◌≢◌, true, false, Option, Some, IfSome, sym, ap, ◌∙◌, subst, rules}
use denote.Enum.Bare.{sameb}
use Rattle.xml_spec.specs.Numbering.{from_node}
use Rattle.saml_tree.specs.contracts.node.NodeKind.{the_type}
use Rattle.saml_tree.specs.declared.node.NodeNo.{NodeNo}
use Rattle.saml_tree.specs.declared.node.NodeKind.{NodeKind}
use Rattle.saml_tree.specs.declared.node.NodeKind.TheVariants as kinds
use Rattle.saml_tree.specs.Documents.{kind_of}
use Rattle.saml_tree.specs.Elements.{IsElement}
use Rattle.tree_read.specs.Walk.{IsFrom}
use Rattle.tree_read.proofs.Walking.{number_of, IsBehind, next_behind, behind_there, from_on, element_here, element_behind}
use Rattle.tree_read.specs.Walk.{children_from}
use Rattle.tree_read.proofs.walk.first_element.Goals as goal

pub returns-then-eq-clause-found : goal.returns-then-eq-clause-found
returns-then-eq-clause-found c =
    let tree = c.args.doc.now.tree in
    let element : IsElement tree c.in-Some.node.0 = search rules in
    c.loop-next.invariant.same ∙ ap (λ (o : Option NodeNo). children_from tree (number_of o)) c.in-Some.is
    ∙ element_here tree c.in-Some.node.0 element

pub loop-next-preserved : goal.loop-next-preserved
loop-next-preserved c =
    let tree = c.args.doc.now.tree in
    let node = c.in-Some.node.0 in
    let other : kind_of (from_node tree node) ≢ Some kinds.Element =
    λ e. let is : c.kind.result ≡ kinds.Element = cc in
    let clash : false ≡ true = sym c.if-eq.false ∙ c.eq.ensures ∙ ap (λ (k : NodeKind). sameb the_type k kinds.Element) is in cc in
    let behind : IsBehind tree node (number_of c.next-next.result) =
    subst (IsBehind tree node) (sym c.next-next.ensures.number) (next_behind tree node) in
    record {
      same =
          c.loop-next.invariant.same ∙ ap (λ (o : Option NodeNo). children_from tree (number_of o)) c.in-Some.is
          ∙ element_behind tree node other ∙ ap (children_from tree) (sym c.next-next.ensures.number);
      there = behind_there tree node (number_of c.next-next.result) behind;
      behind =
          from_on tree (number_of c.args.from) (number_of c.next-next.result) node
          (subst (λ (o : Option NodeNo). IfSome (number_of o) (λ k. IsFrom (number_of c.args.from) k)) c.in-Some.is c.loop-next.invariant.behind) behind;
    }
