use Rattle.std.proofs.Common.{length, reverse, sym, ◌∙◌, subst, arith}
use Rattle.saml_tree.specs.NodeNames.{IsNameAt}
use Rattle.saml_tree.proofs.Lists.{all_at}
use Rattle.excl_c14n.specs.Levels.{RenderedView}
use Rattle.excl_c14n.proofs.Tables.{are_below, found_below, anew_some, anew_none}
use Rattle.excl_c14n.proofs.rendered.Rendered.is_anew.Goals as goal

pub index-requires : goal.index-requires
index-requires c =
    omega (
      arith,
      c.self.inside.places.ok.0,
      found_below (length c.self.inside.places.items) c.self.inside.numbers c.args.prefix.now c.in-Some.number
          (are_below c.self.inside.doc.now.tree c.self.inside.places.items c.self.inside.numbers (reverse c.self.inside.starts.items) c.self.invariant)
          (sym c.lookup.ensures ∙ c.in-Some.is),
    )

pub same_namespace-requires-clause-one : goal.same_namespace-requires-clause-one
same_namespace-requires-clause-one c =
    let tree = c.self.inside.doc.now.tree in
    let low =
    found_below (length c.self.inside.places.items) c.self.inside.numbers c.args.prefix.now c.in-Some.number
    (are_below c.self.inside.doc.now.tree c.self.inside.places.items c.self.inside.numbers (reverse c.self.inside.starts.items) c.self.invariant)
    (sym c.lookup.ensures ∙ c.in-Some.is) in
    subst (IsNameAt tree) (sym c.index.ensures) (all_at (IsNameAt tree) c.self.inside.places.items c.in-Some.number c.index.result.now c.self.invariant.there low)

pub returns-in-Some : goal.returns-in-Some
returns-in-Some c = λ scope speaks.
    anew_some c.self.inside.doc.now.tree c.self.inside.places.items c.self.inside.numbers c.args.self.now c.args.prefix.now c.args.place c.self.view_is
    (are_below c.self.inside.doc.now.tree c.self.inside.places.items c.self.inside.numbers (reverse c.self.inside.starts.items) c.self.invariant)
    c.self.invariant.there (sym c.eq.ensures ∙ c.if-eq.false) scope speaks c.in-Some.number c.index.result.now c.same_namespace.result
    (sym c.in-Some.is ∙ c.lookup.ensures) c.index.ensures (subst (λ (v : RenderedView). IsNameAt v.tree c.args.place) (sym c.self.view_is) c.requires)
    c.same_namespace.ensures

pub returns-in-None : goal.returns-in-None
returns-in-None c = λ scope speaks.
    anew_none c.self.inside.doc.now.tree c.self.inside.places.items c.self.inside.numbers c.args.self.now c.args.prefix.now c.args.place c.self.view_is
    (are_below c.self.inside.doc.now.tree c.self.inside.places.items c.self.inside.numbers (reverse c.self.inside.starts.items) c.self.invariant)
    c.self.invariant.there (sym c.eq.ensures ∙ c.if-eq.false) scope speaks c.namespace_at.result.now c.is_empty.result
    (sym c.in-None.is ∙ c.lookup.ensures) c.namespace_at.ensures c.is_empty.ensures
