use Rattle.logout_profile.proofs.Signable.{response_signable}
use Rattle.logout_profile.proofs.making.logout_response.Goals as goal

pub signed-requires : goal.signed-requires
signed-requires c =
    let made = c.in_ok-message.ensures in
    response_signable c.in_ok-message.message c.args.id.now c.args.issuer.now c.address_of-address.result.now c.args.request.now c.args.partial
    made.instant c.requires.named made.is
