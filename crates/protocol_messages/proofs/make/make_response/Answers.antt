use Rattle.std.proofs.Common.{refl}
use Rattle.std.specs.Char.{encode_utf8}
use Rattle.std.specs.Str.{chars}
use Rattle.xml_spec.proofs.Valid.{name_shown, text_shown}
use Rattle.protocol_messages.proofs.make.make_response.Goals as goal

pub answer-requires-clause-name : goal.answer-requires-clause-name
unfolding chars encode_utf8
answer-requires-clause-name c = (name_shown _ refl, refl)

pub failed-requires : goal.failed-requires
unfolding chars encode_utf8
failed-requires c = text_shown _ refl
