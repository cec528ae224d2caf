use Rattle.std.proofs.Common.{[], arith}
use Rattle.http_wire.proofs.Answering.{piece_within}
use Rattle.http_wire.proofs.fixed.put_pieces.Goals as goal

pub slice_bounds-copy_from_slice-end : goal.slice_bounds-copy_from_slice-end
slice_bounds-copy_from_slice-end c =
    omega (arith, piece_within c.args.pieces.now c.loop-piece.piece-index (record { ref_ptr = (0, 0); now = [] }) c.loop-piece-test.true, c.loop-piece.invariant.1)
