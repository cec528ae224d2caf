use Rattle.std.proofs.Common.{refl}
use Rattle.std.specs.Char.{encode_utf8}
use Rattle.std.specs.Str.{chars}
use Rattle.xml_spec.proofs.Valid.{name_shown, text_shown}
use Rattle.protocol_messages.proofs.make.make_authn.Goals as goal

pub new-made-requires : goal.new-made-requires
unfolding chars encode_utf8
new-made-requires c = (name_shown _ refl, refl)

pub attr-requires-clause-name : goal.attr-requires-clause-name
unfolding chars encode_utf8
attr-requires-clause-name c = (name_shown _ refl, refl)

pub attr-requires-2-clause-name : goal.attr-requires-2-clause-name
unfolding chars encode_utf8
attr-requires-2-clause-name c = (name_shown _ refl, refl)

pub attr-requires-3-clause-name : goal.attr-requires-3-clause-name
unfolding chars encode_utf8
attr-requires-3-clause-name c = (name_shown _ refl, refl)

pub attr-requires-4-clause-name : goal.attr-requires-4-clause-name
unfolding chars encode_utf8
attr-requires-4-clause-name c = (name_shown _ refl, refl)

pub attr-requires-5-clause-name : goal.attr-requires-5-clause-name
unfolding chars encode_utf8
attr-requires-5-clause-name c = (name_shown _ refl, refl)

pub attr-requires-6-clause-name : goal.attr-requires-6-clause-name
unfolding chars encode_utf8
attr-requires-6-clause-name c = (name_shown _ refl, refl)

pub with_text-requires-clause-name : goal.with_text-requires-clause-name
unfolding chars encode_utf8
with_text-requires-clause-name c = (name_shown _ refl, refl)

pub attr-requires-5-clause-value : goal.attr-requires-5-clause-value
unfolding chars encode_utf8
attr-requires-5-clause-value c = text_shown _ refl

pub attr-requires-6-clause-value : goal.attr-requires-6-clause-value
unfolding chars encode_utf8
attr-requires-6-clause-value c = text_shown _ refl
