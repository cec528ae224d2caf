use Rattle.recorded_logins.proofs.Reading.{read_back, read_whole}
use Rattle.recorded_logins.proofs.what_is_read_is_what_the_record_says.Goals as goal

pub returns-clause-login : goal.returns-clause-login
returns-clause-login c = λ issuer r made said is read. (read_back issuer r made said is read).0

pub returns-clause-ids : goal.returns-clause-ids
returns-clause-ids c = λ issuer r made said is read. let all = read_back issuer r made said is read in (all.1, all.2)

pub returns-clause-untrimmed : goal.returns-clause-untrimmed
returns-clause-untrimmed c = read_whole
