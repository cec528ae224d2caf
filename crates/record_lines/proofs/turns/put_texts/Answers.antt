use Rattle.std.proofs.Common.{◌++◌, ◌∷◌, List, ℕ, length, sym, ap, ◌∙◌, arith}
use Rattle.std.specs.List.{flat_map}
use Rattle.std.proofs.lemmas.List.{take_all}
use Rattle.std.proofs.lemmas.List.Folds.{flat_map-map}
use Rattle.record_lines.specs.Lines.{text_piece}
use Rattle.record_lines.proofs.turns.put_texts.Goals as goal

pub returns : goal.returns
returns c =
    let texts = c.args.texts.now in
    let put : List ℕ → List ℕ = λ text. 32 ∷ text_piece c.args.name.now text in
    let all = take_all c.loop-text.text-index texts (omega (arith, c.loop-text-test.false, ap length c.as_slice-text-items.ensures)) in
    c.loop-text.invariant ∙ ap (λ (ts : List (List ℕ)). c.args.line.now ++ flat_map put ts) all
    ∙ ap (λ (xs : List ℕ). c.args.line.now ++ xs) (sym (flat_map-map (λ piece. 32 ∷ piece) (text_piece c.args.name.now) texts))
