use Rattle.element_make.specs.Made.{alone}
use Rattle.idp_server.specs.Signed.{signed_elements}
use Rattle.recorded_logins.proofs.Lists.{signed_made}
use Rattle.recorded_logins.proofs.Signing.{listed}
use Rattle.recorded_logins.proofs.what_an_answer_carries_is_of_its_record.Goals as goal

pub returns : goal.returns
returns c = λ setup held r sent made are. listed setup held r (signed_elements (alone sent)) are
    (signed_made (alone sent) made)
