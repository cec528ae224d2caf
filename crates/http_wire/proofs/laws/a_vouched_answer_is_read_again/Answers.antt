use Rattle.http_wire.proofs.Vouching.{a_vouched_answer_is_read_again, each_line_is_printable, nothing_is_lost}
use Rattle.http_wire.proofs.laws.a_vouched_answer_is_read_again.Goals as goal

pub returns : goal.returns
returns c = record { read = a_vouched_answer_is_read_again; lines = each_line_is_printable; told = nothing_is_lost }
