use Rattle.provider_config.proofs.Counts.{rows_are_few}
use Rattle.provider_config.proofs.laws.rows_are_fewer_than_bytes.Goals as goal

pub returns-clause-asked : goal.returns-clause-asked
returns-clause-asked c = λ purpose text config e. (rows_are_few purpose text config e).0

pub returns-clause-opened : goal.returns-clause-opened
returns-clause-opened c = λ purpose text config e. (rows_are_few purpose text config e).1
