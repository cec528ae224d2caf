use Rattle.std.specs.Prelude.{codes}
use Rattle.std.proofs.Common.{◌≡◌, ◌∙◌, ◌++◌, ◌∷◌, List, ℕ, map, append_assoc, ap}
use Rattle.record_lines.specs.Lines.{spaced, text_piece, turn_pieces}
use Rattle.record_lines.proofs.turns.put_turn.Goals as goal

-- two pieces and others, one behind the other
more : (old one other : List ℕ) (pieces : List (List ℕ)) → ((old ++ 32 ∷ one) ++ 32 ∷ other) ++ spaced pieces ≡ old ++ spaced (one ∷ other ∷ pieces)
more old one other pieces =
    append_assoc (old ++ 32 ∷ one) (32 ∷ other) (spaced pieces) ∙ append_assoc old (32 ∷ one) ((32 ∷ other) ++ spaced pieces)

pub returns : goal.returns
unfolding turn_pieces
returns c =
    let peer = c.as_bytes.ensures.value ∙ c.as_str.ensures in
    let name = c.as_bytes-2.ensures.value ∙ c.as_str-2.ensures in
    let turn = c.args.turn.now in
    let indexes = map (text_piece (codes "turn.index")) turn.indexes in
    c.in_ok-put_texts.ensures
    ∙ ap (λ (xs : List ℕ). xs ++ spaced indexes) (c.in_ok-put_text-2.ensures
    ∙ ap (λ (xs : List ℕ). xs ++ 32 ∷ text_piece (codes "turn.name") c.as_bytes-2.result.now) c.in_ok-put_text.ensures
    ∙ ap (λ (t : List ℕ). (c.args.line.now ++ 32 ∷ text_piece (codes "turn") t) ++ 32 ∷ text_piece (codes "turn.name") c.as_bytes-2.result.now) peer
    ∙ ap (λ (t : List ℕ). (c.args.line.now ++ 32 ∷ text_piece (codes "turn") turn.peer) ++ 32 ∷ text_piece (codes "turn.name") t) name)
    ∙ more c.args.line.now (text_piece (codes "turn") turn.peer) (text_piece (codes "turn.name") turn.name) indexes
