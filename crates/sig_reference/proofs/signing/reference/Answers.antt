use Rattle.std.proofs.Common.{◌++◌, refl, sym, ap, ◌∙◌, subst}
use Rattle.std.specs.Char.{encode_utf8}
use Rattle.std.specs.Str.{chars}
use Rattle.xml_spec.proofs.Valid.{name_shown}
use Rattle.xml_spec.specs.Characters.{IsText}
use Rattle.sig_reference.proofs.Writable.{printable_text, reference_text}
use Rattle.sig_reference.proofs.signing.reference.Goals as goal

pub new-made-requires : goal.new-made-requires
unfolding chars encode_utf8
new-made-requires c = (name_shown _ refl, refl)

pub attr-requires-clause-name : goal.attr-requires-clause-name
unfolding chars encode_utf8
attr-requires-clause-name c = (name_shown _ refl, refl)

pub attr-requires-clause-value : goal.attr-requires-clause-value
attr-requires-clause-value c =
    subst IsText (sym (c.as_str.ensures.value ∙ c.in_ok-push_str.ensures.bytes ∙ ap (λ bytes. bytes ++ c.args.id.now) c.in_ok-uri.ensures.ok)) (reference_text c.args.id.now c.requires)

pub method-requires-clause-name : goal.method-requires-clause-name
unfolding chars encode_utf8
method-requires-clause-name c = (name_shown _ refl, refl)

pub method-requires-clause-algorithm : goal.method-requires-clause-algorithm
method-requires-clause-algorithm c = printable_text _ refl

pub encoded-requires : goal.encoded-requires
unfolding chars encode_utf8
encoded-requires c = (name_shown _ refl, refl)
