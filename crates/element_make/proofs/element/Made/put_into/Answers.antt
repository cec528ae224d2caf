use Rattle.std.proofs.Common.{◌∷◌, [], ap, ◌∙◌}
use Rattle.canon_octets.proofs.Appending.{same_ok, same_err}
use Rattle.element_make.specs.Made.{written}
use Rattle.element_make.specs.Pieces.{StartPiece}
use Rattle.element_make.specs.Views.{attribute_views, piece_views, made_view}
use Rattle.element_make.specs.Writing.{written_pieces}
use Rattle.element_make.proofs.Forms.{pieces_written}
use Rattle.element_make.proofs.element.Made.put_into.Goals as goal

pub returns-clause-ok : goal.returns-clause-ok
returns-clause-ok g c =
    let tag = c.self.inside.tag in
    let content = c.self.inside.content.items in
    let start = StartPiece tag.ns tag.local.now (attribute_views tag.attributes.items) in
    same_ok g.O.Octets.appends c.put_form.result c.args.out.now c.put_form.new.out (written_pieces [] (start ∷ piece_views c.as_slice.result.now)) _
    (ap (λ ps. written_pieces [] (start ∷ ps)) (ap piece_views c.as_slice.ensures.value ∙ c.self.invariant.whole)
    ∙ pieces_written (made_view tag content) c.self.invariant.made
    ∙ ap written c.self.view_is) c.put_form.ensures.ok

pub returns-clause-err : goal.returns-clause-err
returns-clause-err g c =
    let tag = c.self.inside.tag in
    let content = c.self.inside.content.items in
    let start = StartPiece tag.ns tag.local.now (attribute_views tag.attributes.items) in
    same_err g.O.Octets.appends c.put_form.result c.args.out.now c.put_form.new.out (written_pieces [] (start ∷ piece_views c.as_slice.result.now)) _
    (ap (λ ps. written_pieces [] (start ∷ ps)) (ap piece_views c.as_slice.ensures.value ∙ c.self.invariant.whole)
    ∙ pieces_written (made_view tag content) c.self.invariant.made
    ∙ ap written c.self.view_is) c.put_form.ensures.err
