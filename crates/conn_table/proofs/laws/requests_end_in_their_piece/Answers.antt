use Rattle.conn_table.proofs.Ending.{requests_end_in_their_piece}
use Rattle.conn_table.proofs.laws.requests_end_in_their_piece.Goals as goal

pub returns : goal.returns
returns c = requests_end_in_their_piece c.bytes_have_one_reading.ensures c.a_whole_request_ends_at_one_place.ensures
