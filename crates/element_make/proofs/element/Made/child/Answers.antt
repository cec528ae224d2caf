use Rattle.element_make.specs.Made.{alone, joined}
use Rattle.element_make.specs.Pieces.{content_of}
use Rattle.element_make.specs.Views.{piece_views}
use Rattle.element_make.proofs.Content.{added, made_joined, still_kept, seen_so}
use Rattle.element_make.proofs.element.Made.child.Goals as goal

pub invariant_of-self-2 : goal.invariant_of-self-2
invariant_of-self-2 c =
    let content = c.self.inside.content.items in
    let nodes = content_of (piece_views content) in
    still_kept c.self.inside.tag content c.append.new.self.items (λ nodes. joined nodes (alone c.args.kid))
    (added content c.in_ok-pieces.pieces.items c.append.new.self.items nodes (alone c.args.kid) c.self.invariant.whole
    c.in_ok-pieces.ensures.pieces c.in_ok-append.ensures.items)
    c.self.invariant (made_joined nodes (alone c.args.kid) c.self.invariant.made.3 c.in_ok-pieces.ensures.made)

pub returns-clause-ok : goal.returns-clause-ok
returns-clause-ok c =
    let content = c.self.inside.content.items in
    let nodes = content_of (piece_views content) in
    seen_so c.self.inside.tag content c.append.new.self.items (λ nodes. joined nodes (alone c.args.kid))
    (added content c.in_ok-pieces.pieces.items c.append.new.self.items nodes (alone c.args.kid) c.self.invariant.whole
    c.in_ok-pieces.ensures.pieces c.in_ok-append.ensures.items)
    c.args.self.now c.self.view_is
