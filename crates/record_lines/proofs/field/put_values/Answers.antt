use Rattle.std.proofs.Common.{◌≡◌, ◌≢◌, ◌++◌, ◌∷◌, [], List, ℕ, length, refl, sym, ap, ◌∙◌, arith, rules}
use Rattle.std.specs.List.{flat_map}
use Rattle.std.proofs.lemmas.List.{take_all}
use Rattle.std.proofs.lemmas.List.Folds.{flat_map-map}
use Rattle.record_lines.specs.Lines.{text_piece, value_pieces, spaced}
use Rattle.record_lines.proofs.field.put_values.Goals as goal

-- a piece for each value, where there is one
some_values : (name : List ℕ) (values : List (List ℕ)) → values ≢ [] → flat_map (λ text. 32 ∷ text_piece name text) values ≡ spaced (value_pieces name values)
some_values name [] some = absurd (some refl)
some_values name (value ∷ values) some = sym (flat_map-map (λ piece. 32 ∷ piece) (text_piece name) (value ∷ values))

pub returns : goal.returns
returns c =
    let values = c.args.values.now in
    let put : List ℕ → List ℕ = λ text. 32 ∷ text_piece c.args.name.now text in
    let all = take_all c.loop-value.value-index values (omega (arith, c.loop-value-test.false, ap length c.as_slice-value-items.ensures)) in
    let some : values ≢ [] = search rules in
    c.loop-value.invariant ∙ ap (λ (ts : List (List ℕ)). c.args.line.now ++ flat_map put ts) all
    ∙ ap (λ (xs : List ℕ). c.args.line.now ++ xs) (some_values c.args.name.now values some)
