use Rattle.idp_server.proofs.Issues.{answers_have_users, services_have_users}
use Rattle.idp_server.proofs.laws.each_issue_has_a_password_or_a_session.Goals as goal

pub returns-clause-answers : goal.returns-clause-answers
returns-clause-answers c = answers_have_users

pub returns-clause-services : goal.returns-clause-services
returns-clause-services c = services_have_users
