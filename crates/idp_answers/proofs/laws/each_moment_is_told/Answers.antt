use Rattle.idp_answers.proofs.MayStand.{assertion_told, moment_told}
use Rattle.idp_answers.proofs.laws.each_moment_is_told.Goals as goal

pub returns-clause-one : goal.returns-clause-one
returns-clause-one c = moment_told c.each_moment_is_told.ensures

pub returns-clause-assertion : goal.returns-clause-assertion
returns-clause-assertion c = assertion_told c.each_moment_is_told.ensures
