-- The test of a text agrees with the word of XML.
use Rattle.std.proofs.Common.{◌≡◌, ℕ, true, List, sym, ap, ◌∙◌}
use Rattle.std.specs.List.{list_all}
use Rattle.std.specs.Str.{chars, encode_utf8_all, bytes_eq}
use Rattle.std.proofs.lemmas.Str.{chars-encodes}
use Rattle.std.proofs.lemmas.Slice.Eq.{bytes_eq-Decides}
use Rattle.xml_spec.specs.Characters.{is_char, IsText}
use Rattle.xml_spec.proofs.Tests.{and_true, both_true}
use Rattle.xml_chars.proofs.Texts.{chars_scalar}
use Rattle.text_lines.specs.Lines.{is_text}

pub tested_text : (bytes : List ℕ) → is_text bytes ≡ true → IsText bytes
tested_text bytes h =
    let both = both_true (list_all is_char (chars bytes)) (bytes_eq (encode_utf8_all (chars bytes)) bytes) h in
    record { characters = chars bytes; allowed = both.0; spelled = sym ((bytes_eq-Decides (encode_utf8_all (chars bytes)) bytes).0 both.1) }

pub text_tested : (bytes : List ℕ) → IsText bytes → is_text bytes ≡ true
text_tested bytes t =
    let same : chars bytes ≡ t.characters = ap chars t.spelled ∙ chars-encodes t.characters (chars_scalar t.characters t.allowed) in
    let allowed : list_all is_char (chars bytes) ≡ true = ap (list_all is_char) same ∙ t.allowed in
    let spelled : encode_utf8_all (chars bytes) ≡ bytes = ap encode_utf8_all same ∙ sym t.spelled in
    and_true (list_all is_char (chars bytes)) (bytes_eq (encode_utf8_all (chars bytes)) bytes) allowed
    ((bytes_eq-Decides (encode_utf8_all (chars bytes)) bytes).1 spelled)
