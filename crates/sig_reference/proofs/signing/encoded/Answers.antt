use Rattle.std.proofs.Common.{sym, ◌∙◌, subst}
use Rattle.std.proofs.Math.Facts.{Fits-lt-pow}
use Rattle.xml_spec.specs.Characters.{IsText}
use Rattle.sig_reference.proofs.Writable.{base64_text}
use Rattle.sig_reference.proofs.signing.encoded.Goals as goal

pub text-requires : goal.text-requires
text-requires c =
    subst IsText (sym (c.as_str.ensures.value ∙ c.in_ok-text.ensures.text)) (base64_text c.args.bytes.now (λ i. Fits-lt-pow (c.type_inv.bytes i)))
