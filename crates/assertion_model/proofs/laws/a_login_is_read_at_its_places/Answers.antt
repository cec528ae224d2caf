use Rattle.assertion_model.proofs.SaidLemmas.{name_said, values_said}
use Rattle.assertion_model.proofs.laws.a_login_is_read_at_its_places.Goals as goal

pub returns-clause-name : goal.returns-clause-name
returns-clause-name c = name_said

pub returns-clause-values : goal.returns-clause-values
returns-clause-values c = values_said
