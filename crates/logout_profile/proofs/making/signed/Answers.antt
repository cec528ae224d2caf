use Rattle.std.proofs.Common.{◌≡◌, ap, ◌∙◌, subst, ◌++◌}
use Rattle.std.proofs.lemmas.Result.{IfOk-weaker}
use Rattle.element_make.specs.Made.{IsMade, written}
use Rattle.sig_reference.specs.Signing.{signed}
use Rattle.sig_reference.proofs.SignatureMade.{unsigned_made}
use Rattle.logout_profile.proofs.making.signed.Goals as goal

pub returns : goal.returns
returns c =
    let made : c.in_ok-made.made ≡ signed c.args.peer.now.key_out c.args.message =
    c.in_ok-made.ensures ∙ ap (λ key. signed key c.args.message) c.as_slice.ensures in
    let well : IsMade c.args.message = unsigned_made c.args.peer.now.key_out c.args.message (subst IsMade made c.put.ensures.made) in
    let bytes : c.as_slice-2.result.now ≡ written (signed c.args.peer.now.key_out c.args.message) =
    c.as_slice-2.ensures.value ∙ c.in_ok-put.ensures.ok ∙ ap (λ items. items ++ written c.in_ok-made.made) c.new-out.ensures.items ∙ ap written made in
    IfOk-weaker c.of.result _ _ (λ blob e. record { well_made = well; is = e ∙ bytes }) c.of.ensures
