use Rattle.event_link.proofs.LinkLaws.{two_sendings, no_sending}
use Rattle.event_link.proofs.laws.sendings_add_up.Goals as goal

pub returns : goal.returns
returns c = record { two = two_sendings; none = no_sending }
