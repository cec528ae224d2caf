use Rattle.saml_time.proofs.EveryMoment.{each_is_told}
use Rattle.saml_time.proofs.each_moment_is_told.Goals as goal

pub returns : goal.returns
returns c = each_is_told
