use Rattle.idp_server.proofs.Issues.{answers_have_askers, refusals_have_askers}
use Rattle.idp_server.proofs.laws.each_question_has_an_asker.Goals as goal

pub returns-clause-questions : goal.returns-clause-questions
returns-clause-questions c = answers_have_askers

pub returns-clause-refusals : goal.returns-clause-refusals
returns-clause-refusals c = refusals_have_askers
