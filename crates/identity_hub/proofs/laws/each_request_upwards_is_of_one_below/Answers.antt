use Rattle.identity_hub.proofs.Below.{asked_below, refused_below}
use Rattle.identity_hub.proofs.laws.each_request_upwards_is_of_one_below.Goals as goal

pub returns-clause-asked : goal.returns-clause-asked
returns-clause-asked c = asked_below

pub returns-clause-refused : goal.returns-clause-refused
returns-clause-refused c = refused_below
