use Rattle.record_lines.proofs.Secrets.{sp_same, idp_same, hub_same}
use Rattle.record_lines.proofs.laws.a_line_tells_no_secret.Goals as goal

pub returns-clause-sp : goal.returns-clause-sp
returns-clause-sp c = sp_same

pub returns-clause-idp : goal.returns-clause-idp
returns-clause-idp c = idp_same

pub returns-clause-hub : goal.returns-clause-hub
returns-clause-hub c = hub_same
