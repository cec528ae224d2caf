use Rattle.std.proofs.lemmas.Result.{IfOk-weaker}
use Rattle.logout_profile.proofs.Signable.{request_signable}
use Rattle.logout_profile.proofs.making.logout_request.Goals as goal

pub signed-requires : goal.signed-requires
signed-requires c =
    let made = c.in_ok-message.ensures in
    request_signable c.in_ok-message.message c.args.id.now c.args.issuer.now c.address_of-address.result.now c.args.name.now c.args.indexes.now
    made.instant made.until c.requires.named made.is

pub returns : goal.returns
returns c =
    IfOk-weaker c.signed.result _ _
    (λ bytes is. record {
      address = c.address_of-address.result.now;
      given = c.address_of-address.ensures.given;
      unsigned = c.in_ok-message.message;
      made = c.in_ok-message.ensures;
      signed = is;
    })
    c.signed.ensures
