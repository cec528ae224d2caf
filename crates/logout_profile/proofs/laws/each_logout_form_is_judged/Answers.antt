use Rattle.logout_profile.proofs.Settled.{logout_settled}
use Rattle.logout_profile.proofs.laws.each_logout_form_is_judged.Goals as goal

pub returns : goal.returns
returns c peers second address skew now body unobeyed unrefused = logout_settled peers second address skew now body (record { unobeyed = unobeyed; unrefused = unrefused })
