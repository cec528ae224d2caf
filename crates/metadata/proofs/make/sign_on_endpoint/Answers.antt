use Rattle.std.proofs.Common.{refl}
use Rattle.std.specs.Char.{encode_utf8}
use Rattle.std.specs.Str.{chars}
use Rattle.xml_spec.proofs.Valid.{name_shown, text_shown}
use Rattle.metadata.proofs.make.sign_on_endpoint.Goals as goal

pub endpoint-requires-clause-name : goal.endpoint-requires-clause-name
unfolding chars encode_utf8
endpoint-requires-clause-name c = (name_shown _ refl, refl)

pub endpoint-requires-in-Sp-clause-name : goal.endpoint-requires-in-Sp-clause-name
unfolding chars encode_utf8
endpoint-requires-in-Sp-clause-name c = (name_shown _ refl, refl)

pub attr-requires-clause-name : goal.attr-requires-clause-name
unfolding chars encode_utf8
attr-requires-clause-name c = (name_shown _ refl, refl)

pub endpoint-requires-clause-path : goal.endpoint-requires-clause-path
unfolding chars encode_utf8
endpoint-requires-clause-path c = text_shown _ refl

pub endpoint-requires-in-Sp-clause-path : goal.endpoint-requires-in-Sp-clause-path
unfolding chars encode_utf8
endpoint-requires-in-Sp-clause-path c = text_shown _ refl

pub attr-requires-clause-value : goal.attr-requires-clause-value
unfolding chars encode_utf8
attr-requires-clause-value c = text_shown _ refl
