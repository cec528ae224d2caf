use Rattle.std.proofs.Common.{sym, ◌∙◌}
use Rattle.std.proofs.lemmas.Result.{err_from_is_err_and}
use Rattle.sp_rules.specs.Views.{keys_of}
use Rattle.sp_rules.proofs.Covers.{response_fails, assertion_fails, stands_inside, stands_outside, cover_is, both_at, response_at}
use Rattle.sp_rules.proofs.cover.cover_of_response.Goals as goal
use Rattle.sp_rules.proofs.cover.cover_of_response.Goals.{then-is_signed+in_ok-verify_by, else-is_signed}

pub returns-in_err-response-clause-err : goal.returns-in_err-response-clause-err
returns-in_err-response-clause-err c =
    let p = err_from_is_err_and c.from_residual.result c.from_residual.ensures.1 in
    rw (p.1, p.2) (response_fails (keys_of c.args.keys.now) c.args.root.doc.now.tree c.args.assertion.node.0 c.args.root.node.0 c.in_err-response.field-0.0
    c.requires.top c.requires.signed c.in_err-response.ensures.err)

pub returns-in_err-verify_by-clause-err : goal.returns-in_err-verify_by-clause-err
returns-in_err-verify_by-clause-err c =
    let p = err_from_is_err_and c.from_residual-in_err-verify_by.result c.from_residual-in_err-verify_by.ensures.1 in
    rw (p.1, p.2) (assertion_fails (keys_of c.args.keys.now) c.args.root.doc.now c.args.assertion.doc.now c.args.assertion.node.0 c.args.root.node.0
    c.in_ok-response.response c.in_err-verify_by.field-0.0 c.requires.document c.requires.top c.requires.signed (sym c.is_signed.ensures ∙ c.if-is_signed.true)
    c.in_ok-response.ensures.ok c.in_err-verify_by.ensures.err)

pub within-requires-clause-inside : goal.within-requires-clause-inside
within-requires-clause-inside c =
    stands_inside (keys_of c.args.keys.now) c.args.root.doc.now c.args.assertion.node.0 c.args.root.node.0 c.in_ok-response.response c.requires.top
    c.in_ok-response.ensures.ok c.requires.child

pub within-requires-clause-outside : goal.within-requires-clause-outside
within-requires-clause-outside c =
    stands_outside (keys_of c.args.keys.now) c.args.root.doc.now c.args.assertion.node.0 c.args.root.node.0 c.in_ok-response.response c.requires.top
    c.in_ok-response.ensures.ok c.requires.child

pub returns-clause-ok : goal.returns-clause-ok
returns-clause-ok c =
    cover_is (keys_of c.args.keys.now) c.args.root.doc.now c.args.assertion.node.0 c.in_ok-response.response c.args.root.node c.signature.result c.within.result
    c.in_ok-response.ensures.ok
    (elim c.if-is_signed.branch [
      | then-is_signed+in_ok-verify_by w ↦
          both_at (keys_of c.args.keys.now) c.args.root.doc.now c.args.assertion.doc.now c.args.assertion.node.0 c.args.root.node.0 _ c.requires.document
          c.requires.top c.requires.signed (sym c.is_signed.ensures ∙ w.if-is_signed.true) w.in_ok-verify_by.ensures.ok
      | else-is_signed w ↦
          response_at (keys_of c.args.keys.now) c.args.root.doc.now c.args.assertion.doc.now c.args.assertion.node.0 c.args.root.node.0 c.requires.document
          c.requires.top c.requires.signed (sym c.is_signed.ensures ∙ w.if-is_signed.false)
    ])
    c.within.ensures c.signature.ensures.number c.args.root.element c.signature.ensures.element
