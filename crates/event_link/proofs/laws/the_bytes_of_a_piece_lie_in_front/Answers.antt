use Rattle.event_link.proofs.LinkLaws.{length-next_of, take-in_front}
use Rattle.event_link.proofs.laws.the_bytes_of_a_piece_lie_in_front.Goals as goal

pub returns : goal.returns
returns c = record { count = length-next_of; front = take-in_front }
