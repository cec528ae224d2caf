use Rattle.post_agent.proofs.Statuses.{no_status_in}
use Rattle.post_agent.proofs.answer.status_in.Goals as goal

pub returns-in-Err-clause-value : goal.returns-in-Err-clause-value
returns-in-Err-clause-value c = no_status_in c.args.bytes.now (λ is. let never = c.in-Err.ensures.succeeds.1 is in cc)
