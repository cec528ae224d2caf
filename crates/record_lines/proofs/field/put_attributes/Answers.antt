use Rattle.std.proofs.Common.{◌≡◌, ◌++◌, List, ℕ, [], ◌∷◌, length, refl, sym, ap, ◌∙◌, arith}
use Rattle.std.specs.List.{flat_map}
use Rattle.std.proofs.lemmas.List.{take_all}
use Rattle.std.proofs.lemmas.Grind.{flat_map-append}
use Rattle.owned_values.specs.declared.attributes.Attribute.{Attribute}
use Rattle.record_lines.specs.Lines.{Attributes, attribute_name, value_pieces, spaced, shown}
use Rattle.record_lines.proofs.field.put_attributes.Goals as goal

-- the values of each attribute, one behind the other
spaced-attributes : (attributes : List Attribute) → flat_map (λ a. spaced (value_pieces (attribute_name a) a.values)) attributes ≡ shown (Attributes attributes)
spaced-attributes [] = refl
spaced-attributes (a ∷ attributes) =
    ap (λ (xs : List ℕ). spaced (value_pieces (attribute_name a) a.values) ++ xs) (spaced-attributes attributes)
    ∙ sym (flat_map-append (λ piece. 32 ∷ piece) (value_pieces (attribute_name a) a.values) (flat_map (λ a. value_pieces (attribute_name a) a.values) attributes))

pub returns : goal.returns
returns c =
    let attributes = c.args.attributes.now in
    let put : Attribute → List ℕ = λ a. spaced (value_pieces (attribute_name a) a.values) in
    let all = take_all c.loop-attribute.attribute-index attributes (omega (arith, c.loop-attribute-test.false, ap length c.as_slice-attribute-items.ensures)) in
    c.loop-attribute.invariant ∙ ap (λ (items : List Attribute). c.args.line.now ++ flat_map put items) all
    ∙ ap (λ (xs : List ℕ). c.args.line.now ++ xs) (spaced-attributes attributes)
