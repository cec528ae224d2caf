use Rattle.std.specs.Prelude.{codes}
use Rattle.std.proofs.Common.{◌≡◌, ◌∙◌, ◌++◌, ◌∷◌, [], List, ℕ, append_assoc, sym, ap}
use Rattle.std.proofs.lemmas.List.{append-nil}
use Rattle.record_lines.specs.Lines.{Asker, shown, spaced, text_piece}
use Rattle.record_lines.proofs.turns.put_asker.Goals as goal

-- two pieces, one behind the other
two : (old one other : List ℕ) → (old ++ 32 ∷ one) ++ 32 ∷ other ≡ old ++ spaced (one ∷ other ∷ [])
two old one other = append_assoc old (32 ∷ one) (32 ∷ other) ∙ ap (λ (xs : List ℕ). old ++ ((32 ∷ one) ++ xs)) (sym (append-nil (32 ∷ other)))

pub returns-in_ok-put_text-in-Some-2 : goal.returns-in_ok-put_text-in-Some-2
returns-in_ok-put_text-in-Some-2 c =
    let peer = c.as_bytes.ensures.value ∙ c.as_str.ensures in
    let request = c.as_bytes-in-Some.ensures.value ∙ c.as_str-in-Some.ensures in
    c.in_ok-put_text-in-Some-2.ensures
    ∙ ap (λ (xs : List ℕ). xs ++ 32 ∷ text_piece (codes "asker.request") c.as_bytes-in-Some.result.now) c.in_ok-put_text-in-Some.ensures
    ∙ ap (λ (t : List ℕ). (c.args.line.now ++ 32 ∷ text_piece (codes "asker.peer") t) ++ 32 ∷ text_piece (codes "asker.request") c.as_bytes-in-Some.result.now) peer
    ∙ ap (λ (t : List ℕ). (c.args.line.now ++ 32 ∷ text_piece (codes "asker.peer") c.in-Some.asker.peer) ++ 32 ∷ text_piece (codes "asker.request") t) request
    ∙ two c.args.line.now (text_piece (codes "asker.peer") c.in-Some.asker.peer) (text_piece (codes "asker.request") c.in-Some.asker.request)
    ∙ ap (λ a. c.args.line.now ++ shown (Asker a)) (sym c.in-Some.is)
