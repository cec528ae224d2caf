use Rattle.std.proofs.Common.{◌≡◌, ◌+◌, ◌≤◌, drop}
use Rattle.element_make.specs.Pieces.{first_length}
use Rattle.element_make.specs.Views.{piece_views}
use Rattle.element_make.proofs.piece.first_length.Given as goal

abbrev pub invariant-loop-i : goal.invariant-loop-i
invariant-loop-i l = record {
  few : l.open ≤ l.i;
  left : first_length 0 (piece_views l.content) ≡ l.i + first_length l.open (drop l.i (piece_views l.content));
}
