use Rattle.std.proofs.Common.{◌≤◌, ◌++◌, length, drop, sym, ap, subst, ◌∙◌, arith}
use Rattle.std.specs.Prelude.{None, decimal}
use Rattle.http_wire.specs.Answers.{page}
use Rattle.http_wire.proofs.Answering.{page_pieces, length_page, body_within}
use Rattle.http_wire.proofs.fixed.put_page.Goals as goal

pub overflow_add-size-3 : goal.overflow_add-size-3
overflow_add-size-3 c =
    let paragraph = c.args.label.now ++ decimal c.args.number ++ c.args.space.now ++ c.args.name.now in
    omega (arith, c.requires.fits, body_within c.args.status None None (page paragraph), length_page c.args.label.now (decimal c.args.number) c.args.space.now c.args.name.now, c.format-number.ensures.short)

pub overflow_add-size-4 : goal.overflow_add-size-4
overflow_add-size-4 c =
    let paragraph = c.args.label.now ++ decimal c.args.number ++ c.args.space.now ++ c.args.name.now in
    omega (arith, c.requires.fits, body_within c.args.status None None (page paragraph), length_page c.args.label.now (decimal c.args.number) c.args.space.now c.args.name.now, c.format-number.ensures.short)

pub overflow_add-size-5 : goal.overflow_add-size-5
overflow_add-size-5 c =
    let paragraph = c.args.label.now ++ decimal c.args.number ++ c.args.space.now ++ c.args.name.now in
    omega (arith, c.requires.fits, body_within c.args.status None None (page paragraph), length_page c.args.label.now (decimal c.args.number) c.args.space.now c.args.name.now, c.format-number.ensures.short)

pub put_pieces-requires : goal.put_pieces-requires
put_pieces-requires c =
    let same = page_pieces c.args.status c.args.number _ _ _ c.args.label.now _ c.args.space.now c.args.name.now c.format.ensures.text c.phrase.ensures c.format-number.ensures.text c.format-2.ensures.text in
    subst (λ xs. length xs ≤ length c.args.out.now) (sym same) c.requires.fits

pub returns-clause-text : goal.returns-clause-text
returns-clause-text c =
    let same = page_pieces c.args.status c.args.number _ _ _ c.args.label.now _ c.args.space.now c.args.name.now c.format.ensures.text c.phrase.ensures c.format-number.ensures.text c.format-2.ensures.text in
    c.put_pieces.ensures.text ∙ ap (λ xs. xs ++ drop c.put_pieces.result c.args.out.now) same

pub returns-clause-length : goal.returns-clause-length
returns-clause-length c =
    let same = page_pieces c.args.status c.args.number _ _ _ c.args.label.now _ c.args.space.now c.args.name.now c.format.ensures.text c.phrase.ensures c.format-number.ensures.text c.format-2.ensures.text in
    c.put_pieces.ensures.length ∙ ap length same
