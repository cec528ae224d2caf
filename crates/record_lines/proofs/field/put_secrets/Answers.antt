use Rattle.std.proofs.Common.{◌++◌, ◌∷◌, List, ℕ, length, sym, ap, ◌∙◌, arith}
use Rattle.std.specs.List.{flat_map}
use Rattle.std.proofs.lemmas.List.{take_all}
use Rattle.std.proofs.lemmas.List.Folds.{flat_map-map}
use Rattle.record_lines.specs.Lines.{secret_piece}
use Rattle.record_lines.proofs.field.put_secrets.Goals as goal

pub returns : goal.returns
returns c =
    let secrets = c.args.secrets.now in
    let put : List ℕ → List ℕ = λ text. 32 ∷ secret_piece c.args.name.now text in
    let all = take_all c.loop-secret.secret-index secrets (omega (arith, c.loop-secret-test.false, ap length c.as_slice-secret-items.ensures)) in
    c.loop-secret.invariant ∙ ap (λ (ts : List (List ℕ)). c.args.line.now ++ flat_map put ts) all
    ∙ ap (λ (xs : List ℕ). c.args.line.now ++ xs) (sym (flat_map-map (λ piece. 32 ∷ piece) (secret_piece c.args.name.now) secrets))
