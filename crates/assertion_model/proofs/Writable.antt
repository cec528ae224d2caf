-- Texts of ASCII characters that can be seen may stand in a document.
use Rattle.std.proofs.Common.{◌≡◌, ℕ, suc, Bool, true, false, ◌&&◌, ◌||◌, nat_le, List, [], ◌∷◌, ◌++◌, All, refl, sym, ap, ◌∙◌, arith}
use Rattle.std.specs.List.{list_all}
use Rattle.std.specs.Char.{IsAsciiGraphic}
use Rattle.std.specs.Str.{encode_utf8_all, IsUtf8}
use Rattle.std.proofs.lemmas.Bool.{leb-true, le-leb}
use Rattle.std.proofs.lemmas.Str.{encode_ascii, IsUtf8-from_ascii}
use Rattle.std.proofs.lemmas.Str.Ascii.{IsAscii-from_all}
use Rattle.xml_spec.specs.Characters.{IsText, is_char}
use Rattle.xml_spec.proofs.Tests.{both_true, and_true}

abbrev pub is_seen : ℕ → Bool
is_seen b = nat_le 33 b && nat_le b 126

or_later : (a b : Bool) → b ≡ true → (a || b) ≡ true
or_later true b h = refl
or_later false b h = h

or_first : (a b : Bool) → a ≡ true → (a || b) ≡ true
or_first true b h = refl
or_first false b h = absurd (let clash : false ≡ true = h in cc)

one_allowed : (b : ℕ) → is_seen b ≡ true → is_char b ≡ true
one_allowed b p =
    let range = both_true (nat_le 33 b) (nat_le b 126) p in
    let least = leb-true 33 b range.0 in
    let most = leb-true b 126 range.1 in
    or_later (nat_le 0x9 b && nat_le b 0x9) _ (or_later (nat_le 0xA b && nat_le b 0xA) _ (or_later (nat_le 0xD b && nat_le b 0xD) _
    (or_first (nat_le 0x20 b && nat_le b 0xD7FF) _ (and_true _ _ (le-leb 0x20 b (omega arith)) (le-leb b 0xD7FF (omega arith))))))

allowed : (text : List ℕ) → list_all is_seen text ≡ true → list_all is_char text ≡ true
allowed [] h = refl
allowed (b ∷ text) h =
    let parts = both_true (is_seen b) (list_all is_seen text) h in
    and_true (is_char b) (list_all is_char text) (one_allowed b parts.0) (allowed text parts.1)

spelled : (text : List ℕ) → list_all is_seen text ≡ true → text ≡ encode_utf8_all text
spelled [] h = refl
spelled (b ∷ text) h =
    let parts = both_true (is_seen b) (list_all is_seen text) h in
    let range = both_true (nat_le 33 b) (nat_le b 126) parts.0 in
    let most = leb-true b 126 range.1 in
    ap (λ xs. b ∷ xs) (spelled text parts.1) ∙ ap (λ xs. xs ++ encode_utf8_all text) (sym (encode_ascii b (omega arith)))

pub seen_text : (text : List ℕ) → list_all is_seen text ≡ true → IsText text
seen_text text h = record { characters = text; allowed = allowed text h; spelled = spelled text h }

all_seen : (text : List ℕ) → All IsAsciiGraphic text → list_all is_seen text ≡ true
all_seen [] all = refl
all_seen (b ∷ text) all =
    let here : IsAsciiGraphic b = all 0 0 (omega arith) in
    and_true (is_seen b) (list_all is_seen text) (and_true (nat_le 33 b) (nat_le b 126) (le-leb 33 b here.0) (le-leb b 126 here.1))
    (all_seen text (λ k d less. all (suc k) d (omega arith)))

pub graphic_text : (text : List ℕ) → All IsAsciiGraphic text → IsText text
graphic_text text all = seen_text text (all_seen text all)

pub graphic_utf8 : (text : List ℕ) → All IsAsciiGraphic text → IsUtf8 text
graphic_utf8 text all = IsUtf8-from_ascii text (IsAscii-from_all text (λ k d less. omega (arith, (all k d less).1)))
