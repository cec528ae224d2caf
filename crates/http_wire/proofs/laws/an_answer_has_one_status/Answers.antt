use Rattle.http_wire.proofs.Statuses.{an_answer_has_one_status, each_answer_has_its_status}
use Rattle.http_wire.proofs.laws.an_answer_has_one_status.Goals as goal

pub returns : goal.returns
returns c = record { has = each_answer_has_its_status; one = an_answer_has_one_status }
