use Rattle.std.proofs.Common.{refl, sym, subst}
use Rattle.std.specs.Char.{encode_utf8}
use Rattle.std.specs.Str.{chars}
use Rattle.xml_spec.proofs.Valid.{name_shown, text_shown}
use Rattle.xml_spec.specs.Characters.{IsNoColonName}
use Rattle.metadata.proofs.Texts.{descriptor_name}
use Rattle.metadata.proofs.make.plain_descriptor.Goals as goal

pub attr-requires-clause-name : goal.attr-requires-clause-name
unfolding chars encode_utf8
attr-requires-clause-name c = (name_shown _ refl, refl)

pub attr-requires-clause-value : goal.attr-requires-clause-value
unfolding chars encode_utf8
attr-requires-clause-value c = text_shown _ refl

pub new-made-requires : goal.new-made-requires
new-made-requires c = subst IsNoColonName (sym c.descriptor.ensures) (descriptor_name c.args.role)
