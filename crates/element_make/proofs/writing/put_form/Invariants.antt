use Rattle.std.proofs.Common.{drop, [], ◌∷◌, length}
use Rattle.canon_octets.proofs.Underway.{IsUnderway}
use Rattle.element_make.specs.Pieces.{StartPiece}
use Rattle.element_make.specs.Views.{piece_views, attribute_views, open_views}
use Rattle.element_make.specs.Writing.{written_pieces}
use Rattle.element_make.proofs.writing.put_form.Given as goal

abbrev pub invariant-loop-piece : goal.invariant-loop-piece
invariant-loop-piece g l =
    IsUnderway g.O.Octets.appends l.fn.out l.out
    (written_pieces (open_views l.writing.open_elements.items) (drop l.piece-index (piece_views l.content)))
    (written_pieces [] (StartPiece l.tag.ns l.tag.local.now (attribute_views l.tag.attributes.items) ∷ piece_views l.content))

abbrev pub invariant-loop-writing : goal.invariant-loop-writing
invariant-loop-writing g l =
    IsUnderway g.O.Octets.appends l.fn.out l.out (written_pieces (open_views l.writing.open_elements.items) [])
    (written_pieces [] (StartPiece l.fn.tag.ns l.fn.tag.local.now (attribute_views l.fn.tag.attributes.items) ∷ piece_views l.fn.content))

abbrev pub decreases-loop-writing : goal.decreases-loop-writing
decreases-loop-writing g l = length l.writing.open_elements.items
