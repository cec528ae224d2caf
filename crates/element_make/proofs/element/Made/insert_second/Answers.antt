use Rattle.std.proofs.Common.{sym, subst, ◌∙◌, ap}
use Rattle.element_make.specs.Made.{Made, alone, with_second, IsAny}
use Rattle.element_make.specs.Pieces.{content_of, first_length}
use Rattle.element_make.specs.Views.{piece_views}
use Rattle.element_make.proofs.Content.{put_second, made_with_second, still_kept, seen_so}
use Rattle.element_make.proofs.element.Made.insert_second.Goals as goal

pub invariant_of-self-2 : goal.invariant_of-self-2
invariant_of-self-2 c =
    let content = c.self.inside.content.items in
    let nodes = content_of (piece_views content) in
    still_kept c.self.inside.tag content c.put_at.new.content.items (λ nodes. with_second nodes (alone c.args.kid))
    (put_second content c.in_ok-pieces.pieces.items c.put_at.new.content.items nodes (alone c.args.kid) c.self.invariant.whole
    c.in_ok-pieces.ensures.pieces c.first_length-first.result (subst (λ (m : Made). IsAny m.kids) (sym c.self.view_is) c.requires)
    (c.first_length-first.ensures.length ∙ ap (λ xs. first_length 0 (piece_views xs)) c.as_slice.ensures.value) c.in_ok-put_at.ensures.ok)
    c.self.invariant (made_with_second nodes (alone c.args.kid) c.self.invariant.made.3 c.in_ok-pieces.ensures.made)

pub returns-clause-ok : goal.returns-clause-ok
returns-clause-ok c =
    let content = c.self.inside.content.items in
    let nodes = content_of (piece_views content) in
    seen_so c.self.inside.tag content c.put_at.new.content.items (λ nodes. with_second nodes (alone c.args.kid))
    (put_second content c.in_ok-pieces.pieces.items c.put_at.new.content.items nodes (alone c.args.kid) c.self.invariant.whole
    c.in_ok-pieces.ensures.pieces c.first_length-first.result (subst (λ (m : Made). IsAny m.kids) (sym c.self.view_is) c.requires)
    (c.first_length-first.ensures.length ∙ ap (λ xs. first_length 0 (piece_views xs)) c.as_slice.ensures.value) c.in_ok-put_at.ensures.ok)
    c.args.self.now c.self.view_is
