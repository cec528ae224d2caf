use Rattle.std.proofs.Common.{sym, ◌∙◌, subst}
use Rattle.std.proofs.lemmas.Result.{err_from_is_err_and}
use Rattle.saml_tree.specs.Documents.{DocumentView}
use Rattle.saml_tree.specs.Elements.{IsElement}
use Rattle.sp_rules.specs.Covering.{IsUncovered}
use Rattle.sp_rules.specs.Views.{keys_of, IsCoverOf}
use Rattle.sp_rules.proofs.Covers.{alone_fails, alone_covers, moved, vouched_is, cover_is}
use Rattle.sp_rules.proofs.cover.cover_of.Goals as goal

pub returns-in_err-verified-clause-err : goal.returns-in_err-verified-clause-err
returns-in_err-verified-clause-err c =
    let p = err_from_is_err_and c.from_residual.result c.from_residual.ensures.1 in
    let keys = keys_of c.usable_keys-keys.result in
    rw (p.1, p.2) (subst (λ k. IsUncovered k c.args.root.doc.now.tree c.args.assertion.node.0 c.in_err-verified.field-0.0) c.usable_keys-keys.ensures
    (alone_fails keys c.args.root.doc.now c.args.assertion.doc.now c.args.assertion.node.0 c.args.root.node.0 c.in_err-verified.field-0.0 c.requires.document
    c.requires.top (sym c.is_signed.ensures ∙ c.if-is_signed.false) (sym c.is_signed-2.ensures ∙ c.if-not-is_signed.false) c.in_err-verified.ensures.err))

pub returns-clause-ok : goal.returns-clause-ok
returns-clause-ok c =
    let keys = keys_of c.usable_keys-keys.result in
    let p = c.args.assertion.node.0 in
    let verified = c.in_ok-verified.verified in
    let v = moved keys c.args.root.doc.now c.args.assertion.doc.now p verified c.requires.document c.in_ok-verified.ensures.ok in
    subst (λ k. IsCoverOf k c.args.root.doc.now p (record { assertion = verified.vouched; first = c.args.assertion.node; signature = c.signature.result; key = verified.key }))
    c.usable_keys-keys.ensures
    (cover_is keys c.args.root.doc.now p verified c.args.assertion.node c.signature.result verified.vouched v
    (alone_covers keys c.args.root.doc.now c.args.assertion.doc.now p c.args.root.node.0 c.requires.document c.requires.top
    (sym c.is_signed.ensures ∙ c.if-is_signed.false) (sym c.is_signed-2.ensures ∙ c.if-not-is_signed.false))
    (vouched_is keys c.args.root.doc.now p verified v) c.signature.ensures.number
    (subst (λ (x : DocumentView). IsElement x.tree p) c.requires.document c.args.assertion.element) c.signature.ensures.element)
