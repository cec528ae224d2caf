use Rattle.std.proofs.Common.{◌≡◌, drop}
use Rattle.std.specs.List.{flat_map}
use Rattle.std.specs.Str.{bytes_eq}
use Rattle.post_agent.proofs.page.is_made_of.Given as goal

abbrev pub invariant-loop-piece : goal.invariant-loop-piece
invariant-loop-piece l =
    bytes_eq l.bytes (flat_map (λ piece. piece.now) l.pieces)
    ≡ bytes_eq l.rest (flat_map (λ piece. piece.now) (drop l.piece-index l.pieces))
