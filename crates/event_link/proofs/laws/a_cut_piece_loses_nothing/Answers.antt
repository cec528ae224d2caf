use Rattle.event_link.proofs.LinkLaws.{cut_loses_nothing}
use Rattle.event_link.proofs.laws.a_cut_piece_loses_nothing.Goals as goal

pub returns : goal.returns
returns c = cut_loses_nothing
