use Rattle.std.specs.Prelude.{OnOk, codes}
use Rattle.std.proofs.Common.{◌≡◌, ◌++◌, ◌∷◌, ℕ, List, take, ap, ◌∙◌, subst, append_assoc}
use Rattle.std.proofs.lemmas.List.{take_min}
use Rattle.record_lines.specs.Escapes.{escaped}
use Rattle.record_lines.specs.Lines.{secret_piece}
use Rattle.record_lines.proofs.field.put_secret.Goals as goal

pub returns : goal.returns
returns c =
    let text = c.as_bytes-text.result.now in
    let before = c.args.line.now in
    let name = c.as_bytes.result.now in
    let number : take c.min.result text ≡ take 17 c.args.secret.now =
    ap (λ (n : ℕ). take n text) c.min.ensures ∙ take_min 17 text ∙ ap (take 17) (c.as_bytes-text.ensures.value ∙ c.as_str.ensures) in
    let put : c.put_name.new.line ++ escaped (take c.min.result text) ≡ before ++ 32 ∷ secret_piece c.args.name.now c.args.secret.now =
    ap (λ (xs : List ℕ). xs ++ escaped (take c.min.result text)) c.in_ok-put_name.ensures
    ∙ ap (λ (t : List ℕ). (before ++ 32 ∷ (name ++ codes "=")) ++ escaped t) number
    ∙ append_assoc before (32 ∷ (name ++ codes "=")) (escaped (take 17 c.args.secret.now))
    ∙ ap (λ (n : List ℕ). before ++ 32 ∷ secret_piece n c.args.secret.now) c.as_bytes.ensures.value in
    subst (λ (xs : List ℕ). OnOk c.put_escaped.result (c.put_escaped.new.out ≡ xs)) put c.put_escaped.ensures
