use Rattle.idp_answers.proofs.Pages.{some_issued, some_refusal}
use Rattle.idp_answers.proofs.laws.each_login_has_an_answer.Goals as goal

pub returns-clause-issued : goal.returns-clause-issued
returns-clause-issued c = some_issued

pub returns-clause-refused : goal.returns-clause-refused
returns-clause-refused c = some_refusal
