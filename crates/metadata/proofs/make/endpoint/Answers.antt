use Rattle.std.proofs.Common.{◌++◌, refl, sym, ap, ◌∙◌, subst}
use Rattle.std.specs.Char.{encode_utf8}
use Rattle.std.specs.Str.{chars}
use Rattle.xml_spec.proofs.Valid.{name_shown, text_shown}
use Rattle.xml_spec.specs.Characters.{IsText}
use Rattle.metadata.proofs.Texts.{text_append}
use Rattle.metadata.proofs.make.endpoint.Goals as goal

pub attr-requires-clause-name : goal.attr-requires-clause-name
unfolding chars encode_utf8
attr-requires-clause-name c = (name_shown _ refl, refl)

pub attr-requires-2-clause-name : goal.attr-requires-2-clause-name
unfolding chars encode_utf8
attr-requires-2-clause-name c = (name_shown _ refl, refl)

pub attr-requires-clause-value : goal.attr-requires-clause-value
unfolding chars encode_utf8
attr-requires-clause-value c = text_shown _ refl

pub attr-requires-2-clause-value : goal.attr-requires-2-clause-value
attr-requires-2-clause-value c =
    subst IsText (sym (c.as_str.ensures.value ∙ c.in_ok-push_str.ensures.bytes ∙ ap (λ bytes. bytes ++ c.args.path.now) c.in_ok-location.ensures.ok))
    (text_append c.args.base.now c.args.path.now c.requires.base c.requires.path)
