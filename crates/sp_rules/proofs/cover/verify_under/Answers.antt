use Rattle.std.proofs.lemmas.Result.{err_from_is_err_and}
use Rattle.sp_rules.proofs.Verifying.{verified_under, unvouched_is}
use Rattle.sp_rules.proofs.cover.verify_under.Goals as goal

pub returns-in_err-vouched-clause-err : goal.returns-in_err-vouched-clause-err
returns-in_err-vouched-clause-err c =
    let p = err_from_is_err_and c.from_residual.result c.from_residual.ensures.1 in
    rw (p.1, p.2) (unvouched_is (record { number = c.args.number; bytes = c.args.key.now }) c.args.at.doc.now.tree c.args.at.node.0 c.in_err-vouched.field-0.0 c.in_err-vouched.ensures.err)

pub returns-clause-ok : goal.returns-clause-ok
returns-clause-ok c =
    verified_under c.args.number c.args.key.now c.args.at.doc.now c.args.at.node.0 c.in_ok-vouched.vouched c.the_signature_left_out_vouches.ensures
    c.in_ok-vouched.ensures.vouched c.in_ok-vouched.ensures.place.0 c.in_ok-vouched.ensures.place.1
