use Rattle.http_wire.proofs.Table.{fixed_answers_have_room}
use Rattle.http_wire.proofs.laws.fixed_answers_have_room.Goals as goal

pub returns : goal.returns
returns c = fixed_answers_have_room
