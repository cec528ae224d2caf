use Rattle.assertion_model.proofs.MomentLemmas.{moment_is_told}
use Rattle.assertion_model.proofs.laws.a_computed_moment_is_told.Goals as goal

pub returns : goal.returns
returns c = moment_is_told
