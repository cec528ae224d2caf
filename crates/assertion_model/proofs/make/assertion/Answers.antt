use Rattle.std.proofs.Common.{refl}
use Rattle.std.specs.Char.{encode_utf8}
use Rattle.std.specs.Str.{chars}
use Rattle.xml_spec.proofs.Valid.{name_shown}
use Rattle.assertion_model.proofs.Writable.{seen_text}
use Rattle.assertion_model.proofs.make.assertion.Goals as goal

pub new-made-requires : goal.new-made-requires
unfolding chars encode_utf8
new-made-requires c = (name_shown _ refl, refl)

pub attr-requires-clause-name : goal.attr-requires-clause-name
unfolding chars encode_utf8
attr-requires-clause-name c = (name_shown _ refl, refl)

pub attr-requires-2-clause-name : goal.attr-requires-2-clause-name
unfolding chars encode_utf8
attr-requires-2-clause-name c = (name_shown _ refl, refl)

pub attr-requires-3-clause-name : goal.attr-requires-3-clause-name
unfolding chars encode_utf8
attr-requires-3-clause-name c = (name_shown _ refl, refl)

pub holding-requires-clause-name : goal.holding-requires-clause-name
unfolding chars encode_utf8
holding-requires-clause-name c = (name_shown _ refl, refl)

pub attr-requires-3-clause-value : goal.attr-requires-3-clause-value
attr-requires-3-clause-value c = seen_text _ refl
