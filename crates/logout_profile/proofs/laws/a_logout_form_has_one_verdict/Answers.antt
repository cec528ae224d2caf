use Rattle.logout_profile.proofs.Exclusive.{obeyed_not_refused, obeyed_once, refused_once}
use Rattle.logout_profile.proofs.laws.a_logout_form_has_one_verdict.Goals as goal

pub returns-clause-obeyed : goal.returns-clause-obeyed
returns-clause-obeyed c = obeyed_not_refused

pub returns-clause-once : goal.returns-clause-once
returns-clause-once c = obeyed_once

pub returns-clause-refused : goal.returns-clause-refused
returns-clause-refused c = refused_once
