-- The words of a text are texts.
use Rattle.std.proofs.Common.{◌≡◌, ◌≢◌, ℕ, ◌+◌, ◌≤◌, ◌/◌, Bool, true, false, cond, not, ◌==◌, List, [], ◌∷◌, ◌++◌, None, Some, IfSome, encode_utf8, encode_utf8_all, nat_lt, refl, sym, ap, subst, arith}
use lib.Utf8.{encode, next}
use Rattle.std.specs.List.{list_all, list_any, onto_first}
use Rattle.std.proofs.lemmas.Bool.{cond_both}
use Rattle.std.proofs.lemmas.Bool.Decides.{nat_tests}
use Rattle.xml_spec.specs.Ascii.{space_character}
use Rattle.xml_spec.specs.Bytes.{is_empty}
use Rattle.xml_spec.specs.Characters.{is_char, IsText}
use Rattle.xml_spec.proofs.Tests.{and_true, both_true}
use Rattle.std.specs.Option.{option_map_or}
use Rattle.text_lines.specs.Words.{parts_of, between_spaces, words_of}
use Rattle.text_lines.proofs.Lining.{first_word}
use Rattle.provider_config.specs.Shared.{AreTexts}

other_byte : (b c : ℕ) → b ≢ c → (b == c) ≡ false
other_byte b c h = grind (arith, nat_tests)

-- no byte is a space
abbrev has_no_space : List ℕ → Bool
has_no_space bytes = list_all (λ b. not (b == space_character)) bytes

-- the bytes in front of the first word
abbrev in_front : List ℕ → List (List ℕ) → List (List ℕ)
in_front [] words = words
in_front (b ∷ bytes) words = onto_first b (in_front bytes words)

in_front-word : (bytes word : List ℕ) (words : List (List ℕ)) → in_front bytes (word ∷ words) ≡ (bytes ++ word) ∷ words
in_front-word [] word words = refl
in_front-word (b ∷ bytes) word words = ap (onto_first b) (in_front-word bytes word words)

spaces_behind : (bytes rest : List ℕ) → has_no_space bytes ≡ true → between_spaces (bytes ++ rest) ≡ in_front bytes (between_spaces rest)
spaces_behind [] rest none = refl
spaces_behind (b ∷ bytes) rest none =
    let parts = both_true (not (b == space_character)) (has_no_space bytes) none in
    by_test (b == space_character) parts.0 (spaces_behind bytes rest parts.1)
  where
    by_test : (t : Bool) → not t ≡ true → between_spaces (bytes ++ rest) ≡ in_front bytes (between_spaces rest) →
        cond t ([] ∷ between_spaces (bytes ++ rest)) (onto_first b (between_spaces (bytes ++ rest))) ≡ onto_first b (in_front bytes (between_spaces rest))
    by_test true h same = absurd (cc)
    by_test false h same = ap (onto_first b) same

high_byte : (b : ℕ) (bytes : List ℕ) → 128 ≤ b → has_no_space bytes ≡ true → has_no_space (b ∷ bytes) ≡ true
high_byte b bytes high none = and_true (not (b == space_character)) (has_no_space bytes) (ap not (other_byte b 32 (omega arith))) none

-- the bytes of a character that is no space
no_space_in : (c : ℕ) → c ≢ 32 → has_no_space (encode_utf8 c) ≡ true
unfolding encode
no_space_in c other =
    cond_both (nat_lt c 128) (c ∷ []) _ (λ bytes. has_no_space bytes ≡ true) (λ _. and_true (not (c == space_character)) true (ap not (other_byte c 32 other)) refl)
    (λ _. cond_both (nat_lt c 2048) ((192 + c / 64) ∷ next c ∷ []) _ (λ bytes. has_no_space bytes ≡ true)
    (λ _. high_byte (192 + c / 64) (next c ∷ []) (omega arith) (high_byte (next c) [] (omega arith) refl))
    (λ _. cond_both (nat_lt c 65536) ((224 + c / 4096) ∷ next (c / 64) ∷ next c ∷ []) _ (λ bytes. has_no_space bytes ≡ true)
    (λ _.
    high_byte (224 + c / 4096) (next (c / 64) ∷ next c ∷ []) (omega arith)
    (high_byte (next (c / 64)) (next c ∷ []) (omega arith) (high_byte (next c) [] (omega arith) refl)))
    (λ _.
    high_byte (240 + c / 262144) (next (c / 4096) ∷ next (c / 64) ∷ next c ∷ []) (omega arith)
    (high_byte (next (c / 4096)) (next (c / 64) ∷ next c ∷ []) (omega arith)
    (high_byte (next (c / 64)) (next c ∷ []) (omega arith) (high_byte (next c) [] (omega arith) refl))))))

no_bytes : IsText []
no_bytes = record { characters = []; allowed = refl; spelled = refl }

-- a character in front of the first of these words
texts_with : (c : ℕ) → is_char c ≡ true → (word : List ℕ) (words : List (List ℕ)) → AreTexts (word ∷ words) → AreTexts ((encode_utf8 c ++ word) ∷ words)
texts_with c allowed word words texts = (
  record {
    characters = c ∷ texts.0.characters;
    allowed = and_true (is_char c) (list_all is_char texts.0.characters) allowed texts.0.allowed;
    spelled = ap (λ bytes. encode_utf8 c ++ bytes) texts.0.spelled;
  },
  texts.1,
)

texts_in_front : (c : ℕ) → is_char c ≡ true → (rest : List ℕ) → AreTexts (between_spaces rest) → AreTexts (in_front (encode_utf8 c) (between_spaces rest))
texts_in_front c allowed rest texts =
    let first = (parts_of rest).first in
    let others = option_map_or between_spaces (parts_of rest).rest [] in
    subst (λ (words : List (List ℕ)). AreTexts (in_front (encode_utf8 c) words)) (sym (first_word rest))
    (subst AreTexts (sym (in_front-word (encode_utf8 c) first others)) (texts_with c allowed first others (subst AreTexts (first_word rest) texts)))

texts_between : (cs : List ℕ) → list_all is_char cs ≡ true → AreTexts (between_spaces (encode_utf8_all cs))
unfolding encode
texts_between [] allowed = (no_bytes, tt)
texts_between (c ∷ cs) allowed =
    let parts = both_true (is_char c) (list_all is_char cs) allowed in
    by_space (c == 32) refl (texts_between cs parts.1) parts.0
  where
    same : (c == 32) ≡ true → c ≡ 32
    same h = grind (arith, nat_tests)

    differ : (c == 32) ≡ false → c ≢ 32
    differ h = grind (arith, nat_tests)

    by_space : (t : Bool) → (c == 32) ≡ t → AreTexts (between_spaces (encode_utf8_all cs)) → is_char c ≡ true → AreTexts (between_spaces (encode_utf8 c ++ encode_utf8_all cs))
    by_space true is texts one =
        subst (λ (k : ℕ). AreTexts (between_spaces (encode_utf8 k ++ encode_utf8_all cs))) (sym (same is)) (no_bytes, texts)
    by_space false is texts one =
        subst AreTexts (sym (spaces_behind (encode_utf8 c) (encode_utf8_all cs) (no_space_in c (differ is)))) (texts_in_front c one (encode_utf8_all cs) texts)

some_texts : (t : Bool) (words : List (List ℕ)) → AreTexts words → IfSome (cond t None (Some words)) AreTexts
some_texts true words texts = tt
some_texts false words texts = texts

pub words_are_texts : (line : List ℕ) → IsText line → IfSome (words_of line) AreTexts
words_are_texts line is =
    some_texts (list_any is_empty (between_spaces line)) (between_spaces line)
    (subst (λ (bytes : List ℕ). AreTexts (between_spaces bytes)) (sym is.spelled) (texts_between is.characters is.allowed))
