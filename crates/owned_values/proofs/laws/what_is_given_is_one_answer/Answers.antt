use Rattle.owned_values.proofs.GivesLaws.{values, faults, refuses}
use Rattle.owned_values.proofs.laws.what_is_given_is_one_answer.Goals as goal

pub returns : goal.returns
returns g c = record { values = values; faults = faults; refuses = refuses }
