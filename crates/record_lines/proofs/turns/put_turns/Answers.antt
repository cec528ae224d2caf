use Rattle.std.proofs.Common.{◌≡◌, ◌++◌, List, ℕ, [], ◌∷◌, length, refl, sym, ap, ◌∙◌, arith}
use Rattle.std.specs.List.{flat_map}
use Rattle.std.proofs.lemmas.List.{take_all}
use Rattle.std.proofs.lemmas.Grind.{flat_map-append}
use Rattle.logout_turns.specs.declared.turns.Turn.{Turn}
use Rattle.record_lines.specs.Lines.{Turns, turn_pieces, spaced, shown}
use Rattle.record_lines.proofs.turns.put_turns.Goals as goal

-- the pieces of each turn, one behind the other
spaced-turns : (turns : List Turn) → flat_map (λ t. spaced (turn_pieces t)) turns ≡ shown (Turns turns)
spaced-turns [] = refl
spaced-turns (t ∷ turns) =
    ap (λ (xs : List ℕ). spaced (turn_pieces t) ++ xs) (spaced-turns turns)
    ∙ sym (flat_map-append (λ piece. 32 ∷ piece) (turn_pieces t) (flat_map turn_pieces turns))

pub returns : goal.returns
returns c =
    let turns = c.args.turns.now in
    let put : Turn → List ℕ = λ t. spaced (turn_pieces t) in
    let all = take_all c.loop-turn.turn-index turns (omega (arith, c.loop-turn-test.false, ap length c.as_slice-turn-items.ensures)) in
    c.loop-turn.invariant ∙ ap (λ (items : List Turn). c.args.line.now ++ flat_map put items) all
    ∙ ap (λ (xs : List ℕ). c.args.line.now ++ xs) (spaced-turns turns)
