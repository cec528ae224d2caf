-- Texts: what is put together of them, and of names.
use Rattle.std.proofs.Common.{◌≡◌, ℕ, ◌≤◌, Bool, true, ◌&&◌, nat_le, inl, inr, List, [], ◌∷◌, ◌++◌, refl, sym, ◌∙◌, ap, arith}
use Rattle.std.specs.List.{list_all, list_any}
use Rattle.std.proofs.Math.Utf8.{encode, encodes}
use Rattle.std.proofs.lemmas.List.Folds.{list_all-append}
use Rattle.std.proofs.lemmas.Str.{encodes-append}
use Rattle.std.proofs.lemmas.List.{append-nil}
use borrow.Author.Tests.{le-leb, leb-true}
use Rattle.xml_spec.specs.Characters.{Ranges, in_ranges, char_ranges, name_ranges, is_char, is_name_char, IsText, IsName}
use Rattle.xml_spec.proofs.NameBytes.{start_is_char}
use Rattle.xml_spec.proofs.Tests.{both_true, and_true, either_true, first_true, second_true}

pub empty_text : IsText []
empty_text = record { characters = []; allowed = refl; spelled = refl }

pub text_append : (x y : List ℕ) → IsText x → IsText y → IsText (x ++ y)
text_append x y s t = record {
  characters = s.characters ++ t.characters;
  allowed = list_all-append is_char s.characters t.characters ∙ and_true _ _ s.allowed t.allowed;
  spelled = ap (λ z. z ++ y) s.spelled ∙ ap (λ z. encodes s.characters ++ z) t.spelled ∙ sym (encodes-append s.characters t.characters);
}

-- the text of one character
pub character_text : (c : ℕ) → is_char c ≡ true → IsText (encode c)
character_text c h = record {
  characters = c ∷ [];
  allowed = and_true _ _ h refl;
  spelled = sym (append-nil (encode c));
}

-- each range stands within one of the others
abbrev all_within : Ranges → Ranges → Bool
all_within ranges others = list_all (λ range. list_any (λ other. nat_le other.0 range.0 && nat_le range.1 other.1) others) ranges

in_wider : (low high : ℕ) (others : Ranges) (c : ℕ) → list_any (λ other. nat_le other.0 low && nat_le high other.1) others ≡ true →
    low ≤ c → c ≤ high → in_ranges others c ≡ true
in_wider low high [] c h l m = h
in_wider low high (other ∷ others) c h l m = elim (either_true (nat_le other.0 low && nat_le high other.1) _ h) [
  | inl here ↦ (let both = both_true (nat_le other.0 low) (nat_le high other.1) here in
      let first = leb-true other.0 low both.0 in let last = leb-true high other.1 both.1 in
      first_true _ _ (and_true _ _ (le-leb other.0 c (omega arith)) (le-leb c other.1 (omega arith))))
  | inr later ↦ second_true (nat_le other.0 c && nat_le c other.1) (in_ranges others c) (in_wider low high others c later l m)
]

in_all_wider : (ranges others : Ranges) (c : ℕ) → all_within ranges others ≡ true → in_ranges ranges c ≡ true → in_ranges others c ≡ true
in_all_wider [] others c h k = absurd (cc)
in_all_wider (range ∷ ranges) others c h k =
    let both = both_true (list_any (λ other. nat_le other.0 range.0 && nat_le range.1 other.1) others) _ h in
    elim (either_true (nat_le range.0 c && nat_le c range.1) (in_ranges ranges c) k) [
      | inl here ↦ (let sides = both_true (nat_le range.0 c) (nat_le c range.1) here in
          in_wider range.0 range.1 others c both.0 (leb-true range.0 c sides.0) (leb-true c range.1 sides.1))
      | inr later ↦ in_all_wider ranges others c both.1 later
    ]

name_char_is_char : (c : ℕ) → is_name_char c ≡ true → is_char c ≡ true
name_char_is_char c h = in_all_wider name_ranges char_ranges c refl h

name_chars_are_chars : (cs : List ℕ) → list_all is_name_char cs ≡ true → list_all is_char cs ≡ true
name_chars_are_chars [] h = refl
name_chars_are_chars (c ∷ cs) h =
    and_true _ _ (name_char_is_char c (both_true (is_name_char c) _ h).0) (name_chars_are_chars cs (both_true (is_name_char c) _ h).1)

pub name_text : (name : List ℕ) → IsName name → IsText name
name_text name n = record {
  characters = n.first ∷ n.others;
  allowed = and_true _ _ (name_char_is_char n.first (start_is_char n.first n.starts)) (name_chars_are_chars n.others n.goes_on);
  spelled = n.spelled;
}
