use Rattle.std.proofs.Common.{[], refl}
use Rattle.std.proofs.lemmas.Result.{err_from_is_err_and}
use Rattle.saml_tree.specs.Views.{outline_view}
use Rattle.saml_tree.proofs.ReadingOn.{read_one, shorter, stuck, unwritten, no_token_on, not_taken_on}
use Rattle.saml_tree.proofs.beyond.take_next.Goals as goal

pub returns-in_err-markup-clause-err : goal.returns-in_err-markup-clause-err
returns-in_err-markup-clause-err c =
    let o = outline_view c.args.outline.now in
    let p = err_from_is_err_and c.from_residual.result c.from_residual.ensures.1 in
    rw (p.1, p.2) (no_token_on o c.args.left.now c.args.left.now _ c.in_err-markup.ensures.refused
    (unwritten o c.args.left.now c.args.left.now o ([], refl, refl)))

pub take-requires-clause-token : goal.take-requires-clause-token
take-requires-clause-token c =
    let found = c.in_ok-markup.ensures.read in
    (found.0, _, found.1, c.in_ok-markup.behind.now, found.2.printed)

pub returns-in_err-take-clause-err : goal.returns-in_err-take-clause-err
returns-in_err-take-clause-err c =
    let o = outline_view c.args.outline.now in
    let found = c.in_ok-markup.ensures.read in
    let p = err_from_is_err_and c.from_residual-in_err-take.result c.from_residual-in_err-take.ensures.1 in
    rw (p.1, p.2) (not_taken_on o c.args.left.now _ _ c.in_err-take.ensures.err
    (λ none. stuck o c.args.left.now c.args.left.now c.in_ok-markup.behind.now o found.0
    ([], refl, refl) found.2 (none found.0 _ found.1)))

pub returns-clause-shorter : goal.returns-clause-shorter
returns-clause-shorter c =
    let found = c.in_ok-markup.ensures.read in
    shorter c.args.left.now c.in_ok-markup.behind.now found.0 found.2

pub returns-clause-ok : goal.returns-clause-ok
returns-clause-ok c =
    let found = c.in_ok-markup.ensures.read in
    read_one (outline_view c.args.outline.now) c.args.left.now c.in_ok-markup.behind.now (outline_view c.take.new.self) found.0 found.2
    (c.in_ok-take.ensures.ok found.0 _ found.1)
