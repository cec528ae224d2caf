use Rattle.sp_rules.proofs.Alone.{opens_one, opens_for_one, opening_one}
use Rattle.sp_rules.proofs.Exclusive.{opened_not_refused, refused_once}
use Rattle.sp_rules.proofs.laws.a_form_has_one_verdict.Goals as goal

pub returns-clause-opened : goal.returns-clause-opened
returns-clause-opened c = opened_not_refused

pub returns-clause-refused : goal.returns-clause-refused
returns-clause-refused c = refused_once

pub returns-clause-one_login : goal.returns-clause-one_login
returns-clause-one_login c = opens_one

pub returns-clause-one_row : goal.returns-clause-one_row
returns-clause-one_row c = opens_for_one

pub returns-clause-one_session : goal.returns-clause-one_session
returns-clause-one_session c = opening_one
