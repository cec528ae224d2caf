use Rattle.idp_server.proofs.Issues.{unrecorded}
use Rattle.idp_server.proofs.laws.no_other_page_is_unrecorded.Goals as goal

pub returns : goal.returns
returns c = unrecorded
