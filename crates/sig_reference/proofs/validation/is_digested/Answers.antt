use Rattle.std.proofs.Common.{◌≡◌, true, false, [], sym, ◌∙◌}
use Rattle.std.proofs.lemmas.Result.{on_ok_weaker, on_err_weaker}
use Rattle.sha2.specs.Sha256.{sha256}
use Rattle.canon_octets.specs.Hashed.{HasTaken}
use Rattle.sig_reference.specs.declared.limits.TheConstants.{MAX_CHECKED_FORM_LENGTH}
use Rattle.sig_reference.specs.Signature.{element_form}
use Rattle.sig_reference.specs.Views.{parts_of}
use Rattle.sig_reference.proofs.Checking.{too_long}
use Rattle.sig_reference.proofs.validation.is_digested.Goals as goal

pub returns-in_default : goal.returns-in_default
returns-in_default c =
    let limit = MAX_CHECKED_FORM_LENGTH in
    let put = c.canon_into-put in (
      λ t. absurd (let clash : false ≡ true = t in cc),
      λ is. absurd (too_long (HasTaken put.new.out limit) limit sha256 (element_form c.args.doc.now.tree c.args.node.0 (parts_of c.args.signature.now))
          put.result (on_ok_weaker put.result (λ whole. whole limit [] c.within-hash.ensures) put.ensures.ok)
          (on_err_weaker put.result (λ part. (part.0, part.1 limit [] c.within-hash.ensures)) put.ensures.err)
          c.finish.result (c.finish.ensures limit) c.in_default.is is.checkable),
    )

pub returns : goal.returns
returns c =
    let limit = MAX_CHECKED_FORM_LENGTH in
    let form = element_form c.args.doc.now.tree c.args.node.0 (parts_of c.args.signature.now) in
    let hash = c.in-Some.ensures limit form (c.in_ok-put.ensures.ok limit [] c.within-hash.ensures) in (
      λ same. record { checkable = hash.0; digest = c.same_tag.ensures.0 same ∙ hash.1 },
      λ is. c.same_tag.ensures.1 (is.digest ∙ sym hash.1),
    )
