use Rattle.std.proofs.Common.{◌≡◌, ap, ◌∙◌, sym, arith}
use Rattle.element_make.specs.Pieces.{depth_behind}
use Rattle.element_make.specs.Views.{piece_view}
use Rattle.element_make.proofs.Content.{piece_counted, last_counted, all_counted}
use Rattle.element_make.proofs.piece.first_length.Goals as goal
use Rattle.element_make.proofs.piece.first_length.Goals.{in-Start, in-Text, in-End}

pub loop-i-preserved : goal.loop-i-preserved
loop-i-preserved c =
    let behind : depth_behind c.loop-i.open (piece_view c.index-content-i.result) ≡ c.match-piece.open =
    elim c.match-piece.branch [
      | in-Start w ↦ ap (λ p. depth_behind c.loop-i.open (piece_view p)) w.in-Start.is ∙ omega arith
      | in-Text w ↦ ap (λ p. depth_behind c.loop-i.open (piece_view p)) w.in-Text.is ∙ sym w.open-is
      | in-End w ↦ ap (λ p. depth_behind c.loop-i.open (piece_view p)) w.in-End.is ∙ omega arith
    ] in
    record {
      few = elim c.match-piece.branch [ in-Start w ↦ omega arith | in-Text w ↦ omega arith | in-End w ↦ omega arith ];
      left =
          piece_counted c.args.content.now c.loop-i.i c.loop-i.open c.loop-i.invariant.left c.index-content-i.result c.match-piece.open
          c.loop-i-test.true c.index-content-i.is behind c.if-open-eq0.false;
    }

pub returns-then-open-eq0-clause-length : goal.returns-then-open-eq0-clause-length
returns-then-open-eq0-clause-length c =
    let behind : depth_behind c.loop-i.open (piece_view c.index-content-i.result) ≡ c.match-piece.open =
    elim c.match-piece.branch [
      | in-Start w ↦ ap (λ p. depth_behind c.loop-i.open (piece_view p)) w.in-Start.is ∙ omega arith
      | in-Text w ↦ ap (λ p. depth_behind c.loop-i.open (piece_view p)) w.in-Text.is ∙ sym w.open-is
      | in-End w ↦ ap (λ p. depth_behind c.loop-i.open (piece_view p)) w.in-End.is ∙ omega arith
    ] in
    last_counted c.args.content.now c.loop-i.i c.loop-i.open c.loop-i.invariant.left c.index-content-i.result c.match-piece.open
    c.loop-i-test.true c.index-content-i.is behind c.if-open-eq0.true

pub returns-clause-length : goal.returns-clause-length
returns-clause-length c =
    all_counted c.args.content.now c.loop-i.i c.loop-i.open c.loop-i.invariant.left (omega arith)
