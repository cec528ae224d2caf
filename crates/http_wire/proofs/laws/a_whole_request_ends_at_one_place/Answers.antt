use Rattle.http_wire.proofs.Lasting.{a_whole_request_ends_at_one_place}
use Rattle.http_wire.proofs.laws.a_whole_request_ends_at_one_place.Goals as goal

pub returns : goal.returns
returns c = a_whole_request_ends_at_one_place
