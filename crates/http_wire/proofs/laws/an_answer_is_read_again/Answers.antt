use Rattle.http_wire.proofs.Clients.{an_answer_is_read_again}
use Rattle.http_wire.proofs.laws.an_answer_is_read_again.Goals as goal

pub returns : goal.returns
returns c = an_answer_is_read_again
