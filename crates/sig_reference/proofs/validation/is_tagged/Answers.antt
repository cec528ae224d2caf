use Rattle.std.proofs.Common.{◌≡◌, true, false, [], sym, ◌∙◌}
use Rattle.std.proofs.lemmas.Result.{on_ok_weaker, on_err_weaker}
use Rattle.hmac_sha256.specs.Hmac.{hmac}
use Rattle.canon_octets.specs.Hashed.{HasTakenUnder}
use Rattle.sig_reference.specs.declared.limits.TheConstants.{MAX_CHECKED_FORM_LENGTH}
use Rattle.sig_reference.specs.Signature.{info_form}
use Rattle.sig_reference.specs.Views.{parts_of}
use Rattle.sig_reference.proofs.Checking.{too_long}
use Rattle.sig_reference.proofs.validation.is_tagged.Goals as goal

pub returns-in_default : goal.returns-in_default
returns-in_default c =
    let limit = MAX_CHECKED_FORM_LENGTH in
    let key = c.args.key.now in
    let put = c.canon_into-put in (
      λ t. absurd (let clash : false ≡ true = t in cc),
      λ is. absurd (too_long (HasTakenUnder put.new.out limit key) limit (hmac key) (info_form c.args.doc.now.tree (parts_of c.args.signature.now))
          put.result (on_ok_weaker put.result (λ whole. whole limit key [] c.within-code.ensures) put.ensures.ok)
          (on_err_weaker put.result (λ part. (part.0, part.1 limit key [] c.within-code.ensures)) put.ensures.err)
          c.finish.result (c.finish.ensures limit key) c.in_default.is is.checkable),
    )

pub returns : goal.returns
returns c =
    let limit = MAX_CHECKED_FORM_LENGTH in
    let key = c.args.key.now in
    let form = info_form c.args.doc.now.tree (parts_of c.args.signature.now) in
    let code = c.in-Some.ensures limit key form (c.in_ok-put.ensures.ok limit key [] c.within-code.ensures) in (
      λ same. record { checkable = code.0; tag = c.same_tag.ensures.0 same ∙ code.1 },
      λ is. c.same_tag.ensures.1 (is.tag ∙ sym code.1),
    )
