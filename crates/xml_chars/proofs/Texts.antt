-- Texts of characters that XML allows.
use Rattle.std.proofs.Common.{◌≡◌, ℕ, ◌<◌, ◌≤◌, Bool, true, false, cond, ◌&&◌, List, [], ◌∷◌, ◌++◌, nat_lt, ltb, leb, IsTrue, ◌↔◌, inl, inr, refl, sym, ap, ◌∙◌, subst, arith}
use Rattle.std.specs.List.{list_all}
use Rattle.std.specs.Str.{IsUtf8, chars}
use Rattle.std.proofs.Math.Utf8.{encodes, scalar, scalars}
use Rattle.std.proofs.lemmas.Str.{encode_ascii}
use borrow.Author.Tests.{ltb-true}
use Rattle.xml_chars.specs.AsciiTexts.{is_ascii_char}
use lib.Utf8.{low_scalar}
use borrow.Author.Tests.{le-leb}
use Rattle.std.proofs.lemmas.Bool.{lt-ltb}
use Rattle.std.proofs.lemmas.Str.{encodes-chars, encodes_same}
use Rattle.xml_spec.specs.Characters.{InRanges, char_ranges, is_char, IsText}
use Rattle.xml_spec.proofs.Classes.{in_ranges-true}
use Rattle.xml_spec.proofs.Tests.{and_true, both_true}

high_scalar : (c : ℕ) → 57344 ≤ c → c < 1114112 → scalar c ≡ true
high_scalar c h k = by_test (ltb c 55296)
  where
    by_test : (b : Bool) → cond b true (leb 57344 c && ltb c 1114112) ≡ true
    by_test true = refl
    by_test false = and_true (leb 57344 c) (ltb c 1114112) (le-leb 57344 c h) (lt-ltb c 1114112 k)

in_range_scalar : (c : ℕ) → InRanges char_ranges c → scalar c ≡ true
in_range_scalar c (inl tab) = low_scalar c (let most = tab.1 in omega arith)
in_range_scalar c (inr (inl feed)) = low_scalar c (let most = feed.1 in omega arith)
in_range_scalar c (inr (inr (inl return))) = low_scalar c (let most = return.1 in omega arith)
in_range_scalar c (inr (inr (inr (inl low)))) = low_scalar c (let most = low.1 in omega arith)
in_range_scalar c (inr (inr (inr (inr (inl high))))) = high_scalar c (let least = high.0 in omega arith) (let most = high.1 in omega arith)
in_range_scalar c (inr (inr (inr (inr (inr (inl beyond)))))) = high_scalar c (let least = beyond.0 in omega arith) (let most = beyond.1 in omega arith)
in_range_scalar c (inr (inr (inr (inr (inr (inr none)))))) = absurd none

pub char_scalar : (c : ℕ) → is_char c ≡ true → scalar c ≡ true
char_scalar c h = in_range_scalar c (in_ranges-true char_ranges c h)

pub chars_scalar : (cs : List ℕ) → list_all is_char cs ≡ true → scalars cs ≡ true
chars_scalar [] h = refl
chars_scalar (c ∷ cs) h =
    let both = both_true (is_char c) (list_all is_char cs) h in
    and_true (scalar c) (scalars cs) (char_scalar c both.0) (chars_scalar cs both.1)

-- a text is UTF-8
pub text_utf8 : (bytes : List ℕ) → IsText bytes → IsUtf8 bytes
text_utf8 bytes t = (t.characters, (chars_scalar t.characters t.allowed, sym t.spelled))

-- a text passes the test of its characters
pub text_tested : (s : List ℕ) (r : Bool) → IsUtf8 s → r ≡ list_all is_char (chars s) → IsTrue r ↔ IsText s
text_tested s r u t =
    let spelled : encodes (chars s) ≡ s = encodes-chars s u in (
      λ h. record { characters = chars s; allowed = sym t ∙ h; spelled = sym spelled },
      λ text.
          let same : chars s ≡ text.characters = encodes_same (chars s) text.characters (spelled ∙ text.spelled) in
          t ∙ subst (λ cs. list_all is_char cs ≡ true) (sym same) text.allowed,
    )

ascii_encodes : (bytes : List ℕ) → list_all is_ascii_char bytes ≡ true → encodes bytes ≡ bytes
ascii_encodes [] h = refl
ascii_encodes (b ∷ bytes) h =
    let both = both_true (is_ascii_char b) (list_all is_ascii_char bytes) h in
    let small = ltb-true b 128 (both_true (nat_lt b 128) (is_char b) both.0).0 in
    ap (λ z. z ++ encodes bytes) (encode_ascii b small) ∙ ap (λ z. b ∷ z) (ascii_encodes bytes both.1)

ascii_allowed : (bytes : List ℕ) → list_all is_ascii_char bytes ≡ true → list_all is_char bytes ≡ true
ascii_allowed [] h = refl
ascii_allowed (b ∷ bytes) h =
    let both = both_true (is_ascii_char b) (list_all is_ascii_char bytes) h in
    and_true (is_char b) (list_all is_char bytes) (both_true (nat_lt b 128) (is_char b) both.0).1 (ascii_allowed bytes both.1)

-- allowed characters of ASCII are their own UTF-8
pub ascii_text : (bytes : List ℕ) → list_all is_ascii_char bytes ≡ true → IsText bytes
ascii_text bytes h = record { characters = bytes; allowed = ascii_allowed bytes h; spelled = sym (ascii_encodes bytes h) }
