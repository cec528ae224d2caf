use Rattle.assertion_model.proofs.ToldMoments.{told_is_computed}
use Rattle.assertion_model.proofs.laws.a_told_moment_is_computed.Goals as goal

pub returns : goal.returns
returns c = told_is_computed
