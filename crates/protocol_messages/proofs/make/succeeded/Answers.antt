use Rattle.std.proofs.Common.{refl}
use Rattle.std.specs.Char.{encode_utf8}
use Rattle.std.specs.Str.{chars}
use Rattle.xml_spec.proofs.Valid.{name_shown, text_shown}
use Rattle.protocol_messages.proofs.make.succeeded.Goals as goal

pub new-made-requires : goal.new-made-requires
unfolding chars encode_utf8
new-made-requires c = (name_shown _ refl, refl)

pub status_code-requires : goal.status_code-requires
unfolding chars encode_utf8
status_code-requires c = text_shown _ refl
