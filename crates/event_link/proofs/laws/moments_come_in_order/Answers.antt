use Rattle.event_link.proofs.ClockLaws.{first-moment, later-moment}
use Rattle.event_link.proofs.laws.moments_come_in_order.Goals as goal

pub returns : goal.returns
returns c = record { first = first-moment; later = later-moment }
