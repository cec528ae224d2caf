use Rattle.std.proofs.Common.{◌∷◌, [], ap}
use Rattle.element_make.specs.Made.{NothingMade, MadeText, joined}
use Rattle.element_make.specs.Pieces.{TextPiece, content_of}
use Rattle.element_make.specs.Views.{piece_views}
use Rattle.element_make.specs.declared.piece.Piece.TheVariants as kinds
use Rattle.element_make.proofs.Content.{added, made_joined, still_kept, seen_so}
use Rattle.element_make.proofs.element.Made.text.Goals as goal

pub invariant_of-self-2 : goal.invariant_of-self-2
invariant_of-self-2 c =
    let content = c.self.inside.content.items in
    let nodes = content_of (piece_views content) in
    let more = MadeText c.args.s.now NothingMade in
    still_kept c.self.inside.tag content c.push.new.self.items (λ nodes. joined nodes more)
    (added content (kinds.Text c.in_ok-text.text ∷ []) c.push.new.self.items nodes more c.self.invariant.whole
    (ap (λ t. TextPiece t ∷ []) c.in_ok-text.ensures.ok) c.in_ok-push.ensures.items)
    c.self.invariant (made_joined nodes more c.self.invariant.made.3 (c.requires, tt))

pub returns-clause-ok : goal.returns-clause-ok
returns-clause-ok c =
    let content = c.self.inside.content.items in
    let nodes = content_of (piece_views content) in
    let more = MadeText c.args.s.now NothingMade in
    seen_so c.self.inside.tag content c.push.new.self.items (λ nodes. joined nodes more)
    (added content (kinds.Text c.in_ok-text.text ∷ []) c.push.new.self.items nodes more c.self.invariant.whole
    (ap (λ t. TextPiece t ∷ []) c.in_ok-text.ensures.ok) c.in_ok-push.ensures.items)
    c.args.self.now c.self.view_is
