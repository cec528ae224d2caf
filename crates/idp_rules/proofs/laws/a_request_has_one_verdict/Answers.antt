use Rattle.idp_rules.proofs.Exclusive.{asked_one, asked_not_refused, refused_once}
use Rattle.idp_rules.proofs.laws.a_request_has_one_verdict.Goals as goal

pub returns-clause-asked : goal.returns-clause-asked
returns-clause-asked c = asked_one

pub returns-clause-accepted : goal.returns-clause-accepted
returns-clause-accepted c = asked_not_refused

pub returns-clause-refused : goal.returns-clause-refused
returns-clause-refused c = refused_once
