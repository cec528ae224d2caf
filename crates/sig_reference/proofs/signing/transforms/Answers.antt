use Rattle.std.proofs.Common.{refl}
use Rattle.std.specs.Char.{encode_utf8}
use Rattle.std.specs.Str.{chars}
use Rattle.xml_spec.proofs.Valid.{name_shown}
use Rattle.sig_reference.proofs.Writable.{printable_text}
use Rattle.sig_reference.proofs.signing.transforms.Goals as goal

pub new-made-requires : goal.new-made-requires
unfolding chars encode_utf8
new-made-requires c = (name_shown _ refl, refl)

pub method-requires-clause-name : goal.method-requires-clause-name
unfolding chars encode_utf8
method-requires-clause-name c = (name_shown _ refl, refl)

pub method-requires-clause-algorithm : goal.method-requires-clause-algorithm
method-requires-clause-algorithm c = printable_text _ refl

pub method-requires-2-clause-algorithm : goal.method-requires-2-clause-algorithm
method-requires-2-clause-algorithm c = printable_text _ refl
