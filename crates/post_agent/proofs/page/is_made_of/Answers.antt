use Rattle.std.proofs.Common.{[], ◌∙◌, ap}
use Rattle.post_agent.specs.Cuts.{behind}
use Rattle.post_agent.proofs.Joining.{piece_more, piece_fails}
use Rattle.post_agent.proofs.page.is_made_of.Goals as goal

pub returns-in-None : goal.returns-in-None
returns-in-None c =
    piece_fails c.args.bytes.now c.loop-piece.rest.now c.args.pieces.now c.loop-piece.piece-index
    (record { ref_ptr = (0, 0); now = [] })
    c.loop-piece-test.true c.loop-piece.invariant
    (c.in-None.ensures ∙ ap (λ front. behind front c.loop-piece.rest.now) c.as_bytes.ensures.value)

pub loop-piece-preserved : goal.loop-piece-preserved
loop-piece-preserved c =
    piece_more c.args.bytes.now c.loop-piece.rest.now c.in-Some.others.now c.args.pieces.now c.loop-piece.piece-index
    (record { ref_ptr = (0, 0); now = [] })
    c.loop-piece-test.true c.loop-piece.invariant
    (c.in-Some.ensures ∙ ap (λ front. behind front c.loop-piece.rest.now) c.as_bytes.ensures.value)
