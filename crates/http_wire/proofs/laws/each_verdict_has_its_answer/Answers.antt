use Rattle.http_wire.proofs.Table.{each_verdict_has_its_answer}
use Rattle.http_wire.proofs.laws.each_verdict_has_its_answer.Goals as goal

pub returns : goal.returns
returns c = each_verdict_has_its_answer
