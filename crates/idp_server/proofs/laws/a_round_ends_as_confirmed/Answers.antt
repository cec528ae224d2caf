use Rattle.idp_server.proofs.Outcomes.{rounds_begin_with_the_first, rounds_end_as_confirmed}
use Rattle.idp_server.proofs.laws.a_round_ends_as_confirmed.Goals as goal

pub returns-clause-begins : goal.returns-clause-begins
returns-clause-begins c = rounds_begin_with_the_first

pub returns-clause-ends : goal.returns-clause-ends
returns-clause-ends c = rounds_end_as_confirmed c.rounds_are_counted.ensures
