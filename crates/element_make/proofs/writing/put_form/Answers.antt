use Rattle.std.proofs.Common.{◌+◌, ◌++◌, [], List, drop, sym, ap, ◌∙◌, subst}
use Rattle.std.specs.List.{flat_map}
use Rattle.canon_octets.specs.Places.{AppendsPart}
use Rattle.canon_octets.proofs.Appending.{on_err, part_of_first}
use Rattle.canon_octets.proofs.Underway.{further, broken_off}
use Rattle.element_make.specs.Views.{piece_view, piece_views, open_views, attribute_views}
use Rattle.element_make.specs.Writing.{Open, written_pieces, piece_form, open_behind, start_tag, inside_of, innermost_end, end_tag}
use Rattle.element_make.proofs.Lists.{next_shown}
use Rattle.element_make.proofs.Opens.{ends_written}
use Rattle.element_make.proofs.writing.put_form.Goals as goal

pub returns-in_err-start-clause-err : goal.returns-in_err-start-clause-err
returns-in_err-start-clause-err g c =
    on_err c.from_residual.result
    (part_of_first g.met.O.Octets.composes c.args.out.now c.start.new.out (start_tag (inside_of []) c.args.tag.now.ns c.args.tag.now.local.now (attribute_views c.args.tag.now.attributes.items)) _
    (subst (λ (es : List Open). AppendsPart g.O.Octets.appends c.args.out.now c.start.new.out
    (start_tag (inside_of es) c.args.tag.now.ns c.args.tag.now.local.now (attribute_views c.args.tag.now.attributes.items)))
    (ap open_views c.new.ensures.items) c.in_err-start.ensures.err))

pub returns-in_err-put-clause-err : goal.returns-in_err-put-clause-err
returns-in_err-put-clause-err g c =
    let opens = open_views c.loop-piece.writing.open_elements.items in
    on_err c.from_residual-in_err-put.result
    (broken_off g.met.O.Octets.composes c.args.out.now c.loop-piece.out c.put.new.out (piece_form opens (piece_view c.piece-item.result))
    (written_pieces (open_behind opens (piece_view c.piece-item.result)) (drop (c.loop-piece.piece-index + 1) (piece_views c.args.content.now))) _ _
    (ap (written_pieces opens) (next_shown piece_view c.args.content.now c.loop-piece.piece-index c.piece-item.result c.loop-piece-test.true c.piece-item.is))
    c.loop-piece.invariant c.in_err-put.ensures.err)

pub loop-piece-preserved : goal.loop-piece-preserved
loop-piece-preserved g c =
    let opens = open_views c.loop-piece.writing.open_elements.items in
    let behind = drop (c.loop-piece.piece-index + 1) (piece_views c.args.content.now) in
    further g.met.O.Octets.composes c.args.out.now c.loop-piece.out c.put.new.out (piece_form opens (piece_view c.piece-item.result))
    (written_pieces (open_views c.put.new.self.open_elements.items) behind) _ _
    (ap (written_pieces opens) (next_shown piece_view c.args.content.now c.loop-piece.piece-index c.piece-item.result c.loop-piece-test.true c.piece-item.is)
    ∙ ap (λ es. piece_form opens (piece_view c.piece-item.result) ++ written_pieces es behind) (sym c.in_ok-put.ensures.inside))
    c.loop-piece.invariant c.in_ok-put.ensures.ok

pub loop-writing-preserved : goal.loop-writing-preserved
loop-writing-preserved g c =
    let opens = open_views c.loop-writing.writing.open_elements.items in
    further g.met.O.Octets.composes c.args.out.now c.loop-writing.out c.end.new.out (innermost_end opens)
    (written_pieces (open_views c.end.new.self.open_elements.items) []) _ _
    (ends_written opens ∙ ap (λ es. innermost_end opens ++ flat_map end_tag es) (sym c.in_ok-end.ensures.inside))
    c.loop-writing.invariant c.in_ok-end.ensures.ok

pub returns-in_err-end-clause-err : goal.returns-in_err-end-clause-err
returns-in_err-end-clause-err g c =
    let opens = open_views c.loop-writing.writing.open_elements.items in
    on_err c.from_residual-in_err-end.result
    (broken_off g.met.O.Octets.composes c.args.out.now c.loop-writing.out c.end.new.out (innermost_end opens) (flat_map end_tag (drop 1 opens)) _ _
    (ends_written opens) c.loop-writing.invariant c.in_err-end.ensures.err)
