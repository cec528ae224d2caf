use Rattle.post_agent.proofs.Asking.{each_request_is_read}
use Rattle.post_agent.proofs.laws.each_request_is_read.Goals as goal

pub returns : goal.returns
returns c = each_request_is_read
