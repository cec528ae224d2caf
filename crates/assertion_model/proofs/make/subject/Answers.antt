use Rattle.std.proofs.Common.{refl}
use Rattle.std.specs.Char.{encode_utf8}
use Rattle.std.specs.Str.{chars}
use Rattle.xml_spec.proofs.Valid.{name_shown}
use Rattle.assertion_model.proofs.make.subject.Goals as goal

pub new-made-requires : goal.new-made-requires
unfolding chars encode_utf8
new-made-requires c = (name_shown _ refl, refl)

pub holding-requires-clause-name : goal.holding-requires-clause-name
unfolding chars encode_utf8
holding-requires-clause-name c = (name_shown _ refl, refl)
