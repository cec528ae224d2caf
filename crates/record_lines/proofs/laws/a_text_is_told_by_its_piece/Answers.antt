use Rattle.record_lines.proofs.Told.{piece_is}
use Rattle.record_lines.proofs.laws.a_text_is_told_by_its_piece.Goals as goal

pub returns : goal.returns
returns c = piece_is
