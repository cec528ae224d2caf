-- What is written of a moment is a text.
use Rattle.std.proofs.Common.{◌≡◌, ℕ, true, List, [], ◌∷◌, ◌++◌, inl, inr, Result, Ok, Err, IsOk, MatchResult, refl, sym, ap, ◌∙◌, arith}
use Rattle.std.specs.Char.{IsAsciiGraphic}
use Rattle.std.specs.List.{list_all, All}
use Rattle.std.specs.Str.{IsAscii, encode_utf8_all}
use Rattle.std.proofs.lemmas.List.Elements.{All-head, All-tail}
use Rattle.std.proofs.lemmas.Str.Ascii.{IsAscii-nil, IsAscii-cons}
use Rattle.std.proofs.lemmas.Str.{encode_ascii}
use Rattle.xml_spec.specs.Characters.{IsText, is_char, char_ranges}
use Rattle.xml_spec.proofs.Classes.{true-in_ranges}
use Rattle.xml_spec.proofs.Tests.{and_true}

-- what is valid is given
pub ok_of_valid : {S E U : Type 0} (P : S → Type 0) (Q : E → Type 0) (r : Result S E) → MatchResult r P (λ e. (U → ⊥) × Q e) → U → IsOk r
ok_of_valid P Q (Ok s) cases valid = refl
ok_of_valid P Q (Err e) cases valid = absurd (cases.0 valid)

pub ascii_of : (bytes : List ℕ) → All IsAsciiGraphic bytes → IsAscii bytes
ascii_of [] h = IsAscii-nil
ascii_of (b ∷ bytes) h =
    let here : IsAsciiGraphic b = All-head IsAsciiGraphic b bytes h in
    IsAscii-cons b bytes (omega (arith, here.1)) (ascii_of bytes (All-tail IsAsciiGraphic b bytes h))

-- characters that show in ASCII are a text
pub text_of_graphic : (bytes : List ℕ) → All IsAsciiGraphic bytes → IsText bytes
text_of_graphic bytes h = record { characters = bytes; allowed = allowed bytes h; spelled = spelled bytes h }
  where
    allowed : (text : List ℕ) → All IsAsciiGraphic text → list_all is_char text ≡ true
    allowed [] h = refl
    allowed (b ∷ text) h =
        let here : IsAsciiGraphic b = All-head IsAsciiGraphic b text h in
        let first : is_char b ≡ true = true-in_ranges char_ranges b (inr (inr (inr (inl (omega (arith, here.0), omega (arith, here.1)))))) in
        and_true (is_char b) (list_all is_char text) first (allowed text (All-tail IsAsciiGraphic b text h))

    spelled : (text : List ℕ) → All IsAsciiGraphic text → text ≡ encode_utf8_all text
    spelled [] h = refl
    spelled (b ∷ text) h =
        let here : IsAsciiGraphic b = All-head IsAsciiGraphic b text h in
        ap (λ xs. b ∷ xs) (spelled text (All-tail IsAsciiGraphic b text h))
        ∙ ap (λ xs. xs ++ encode_utf8_all text) (sym (encode_ascii b (omega (arith, here.1))))
