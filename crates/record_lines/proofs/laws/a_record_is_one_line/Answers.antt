use Rattle.record_lines.proofs.OneLine.{sp_one_line, idp_one_line, hub_one_line}
use Rattle.record_lines.proofs.laws.a_record_is_one_line.Goals as goal

pub returns-clause-sp : goal.returns-clause-sp
returns-clause-sp c = sp_one_line

pub returns-clause-idp : goal.returns-clause-idp
returns-clause-idp c = idp_one_line

pub returns-clause-hub : goal.returns-clause-hub
returns-clause-hub c = hub_one_line
