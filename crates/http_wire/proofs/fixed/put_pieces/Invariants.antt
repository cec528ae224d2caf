use Rattle.std.proofs.Common.{◌≡◌, ◌++◌, length, take, drop}
use Rattle.std.specs.List.{flat_map}
use Rattle.http_wire.proofs.fixed.put_pieces.Given as goal

-- the pieces so far, and what stood behind them
abbrev pub invariant-loop-piece : goal.invariant-loop-piece
invariant-loop-piece l =
    (l.out ≡ flat_map (λ piece. piece.now) (take l.piece-index l.pieces) ++ drop l.at l.initial.out)
    × (l.at ≡ length (flat_map (λ piece. piece.now) (take l.piece-index l.pieces)))
