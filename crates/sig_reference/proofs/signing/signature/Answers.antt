use Rattle.std.proofs.Common.{refl}
use Rattle.std.specs.Char.{encode_utf8}
use Rattle.std.specs.Str.{chars}
use Rattle.xml_spec.proofs.Valid.{name_shown}
use Rattle.sig_reference.proofs.signing.signature.Goals as goal

pub new-made-requires : goal.new-made-requires
unfolding chars encode_utf8
new-made-requires c = (name_shown _ refl, refl)

pub encoded-requires : goal.encoded-requires
unfolding chars encode_utf8
encoded-requires c = (name_shown _ refl, refl)
