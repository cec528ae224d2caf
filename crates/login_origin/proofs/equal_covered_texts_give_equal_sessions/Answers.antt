use Rattle.login_origin.proofs.Signing.{targets_are_equal, sessions_are_equal}
use Rattle.login_origin.proofs.equal_covered_texts_give_equal_sessions.Goals as goal

pub returns-clause-target : goal.returns-clause-target
returns-clause-target c = targets_are_equal

pub returns-clause-session : goal.returns-clause-session
returns-clause-session c = sessions_are_equal
