use Rattle.std.proofs.Common.{◌≡◌, Option, Some, None, MatchOption, ap, sym, ◌∙◌, subst, refl, inr, map, arith}
use Rattle.std.proofs.lemmas.List.{get_or-map, length-map}
use Rattle.xml_tokens.specs.Views.{attribute_view}
use Rattle.element_names.specs.Spaces.{scope_of}
use Rattle.element_names.specs.Named.{IsWellAttribute}
use Rattle.element_names.proofs.Lists.{all_at}
use Rattle.element_names.proofs.names.expand_all.Goals as goal

-- what is said where there is none
none_well : {X : Type 0} (o : Option X) (P : Type 0) (Q : X → Type 0) → o ≡ None → MatchOption o P Q → P
none_well None P Q e h = h
none_well (Some x) P Q e h = absurd (let clash : Some x ≡ None = e in cc)

pub returns-in_default-clause-err : goal.returns-in_default-clause-err
returns-in_default-clause-err c =
    let scope = scope_of c.args.spaces.now in
    let attributes = c.args.attributes.now in
    let x = c.attribute-item.result in
    inr (
      refl,
      λ h.
          none_well c.in_ok-expanded.expanded _ _ c.in_default.is c.in_ok-expanded.ensures
          (subst (IsWellAttribute scope)
          (get_or-map attribute_view attributes c.loop-attribute.attribute-index x (attribute_view x) c.loop-attribute-test.true
          ∙ ap attribute_view (sym c.attribute-item.is))
          (all_at (IsWellAttribute scope) (map attribute_view attributes) c.loop-attribute.attribute-index (attribute_view x) h
          (omega (arith, length-map attributes attribute_view)))),
    )
