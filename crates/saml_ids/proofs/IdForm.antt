-- The form of an ID, and what it tells.
use Rattle.std.proofs.Common.{◌≡◌, ◌+◌, ◌^◌, ◌<◌, ◌++◌, ◌*◌, ℕ, List, [], ◌∷◌, length, take, drop, Bool, true, cond, Some, None, refl, subst, lit<, sym, ap, ◌∙◌, arith}
use Rattle.std.proofs.lemmas.List.Elements.{All-head, All-tail, All-append}
use Rattle.std.proofs.lemmas.List.{take_at, length-append}
use Rattle.std.proofs.lemmas.Nat.{from_be_bytes-to_be_bytes_8}
use Rattle.std.proofs.lemmas.Str.Ascii.{IsAscii-nil, IsAscii-cons}
use Rattle.std.proofs.lemmas.Str.{IsUtf8-from_ascii, encode_ascii}
use Rattle.std.specs.Int.{w64, to_be_bytes, from_be_bytes}
use Rattle.std.specs.List.{AllPass, list_all}
use Rattle.std.specs.Option.{option_map}
use Rattle.std.specs.Str.{encode_utf8_all}
use Rattle.xml_spec.specs.Characters.{is_char, is_name_char, at_colon}
use Rattle.xml_spec.proofs.Tests.{and_true}
use Rattle.std.specs.Str.{IsAscii, IsUtf8}
use Rattle.hex.specs.Hex.{encode_lower, lower_digits}
use Rattle.hex.proofs.HexLemmas.{length-encode_with}
use Rattle.rand_chacha.specs.ChaCha.{word_at, key_of}
use Rattle.saml_ids.specs.Names.{is_lower_hex, IsIdForm}
use Rattle.saml_ids.specs.IdText.{number_of, word_bytes, random_bytes, id_text}
use Rattle.saml_ids.specs.Laws.{IsUsableId, EveryIdIsUsable, NumbersGiveTheirIds, KeyGivesAnIdOnce}
use Rattle.saml_ids.specs.declared.Kind.{Kind}
use Rattle.saml_ids.proofs.Digits.{AllBytes, AllBytes-to_le_bytes, AllBytes-to_be_bytes, AllPass-encode_lower, encode_lower-injective, lower_hex_ascii, lower_hex_in_name, lower_hex_in_text, lower_hex_no_colon}

pub length-random_bytes : (key : List ℕ) (kind : Kind) (number : ℕ) → length (random_bytes key kind number) ≡ 20
unfolding random_bytes
length-random_bytes key kind number = refl

AllBytes-append : (xs ys : List ℕ) → AllBytes xs → AllBytes ys → AllBytes (xs ++ ys)
AllBytes-append xs ys = All-append (λ b. b < 256) xs ys

AllBytes-random_bytes : (key : List ℕ) (kind : Kind) (number : ℕ) → AllBytes (random_bytes key kind number)
unfolding random_bytes
AllBytes-random_bytes key kind number =
    let word : ℕ → List ℕ = word_bytes key kind number in
    let each : (k : ℕ) → AllBytes (word k) = λ k. AllBytes-to_le_bytes (word_at 10 (key_of key) (number_of kind) (16 * number + k)) in
    AllBytes-append (word 0 ++ word 1 ++ word 2 ++ word 3) (word 4)
    (AllBytes-append (word 0 ++ word 1 ++ word 2) (word 3)
    (AllBytes-append (word 0 ++ word 1) (word 2) (AllBytes-append (word 0) (word 1) (each 0) (each 1)) (each 2)) (each 3)) (each 4)

-- an ID is of its form
pub IsIdForm-id_text : (key : List ℕ) (kind : Kind) (number : ℕ) → IsIdForm (id_text key kind number)
unfolding id_text
IsIdForm-id_text key kind number =
    let digits = encode_lower (to_be_bytes w64 number) in
    let random = encode_lower (random_bytes key kind number) in
    let first : length digits ≡ 16 = length-encode_with lower_digits (to_be_bytes w64 number) in
    let second : length random ≡ 40 = length-encode_with lower_digits (random_bytes key kind number) ∙ ap (λ n. 2 * n) (length-random_bytes key kind number) in (
      refl,
      omega (arith, length-append digits random, first, second),
      All-append (λ c. is_lower_hex c ≡ true) digits random
          (AllPass-encode_lower (to_be_bytes w64 number) (AllBytes-to_be_bytes number))
          (AllPass-encode_lower (random_bytes key kind number) (AllBytes-random_bytes key kind number)),
    )

-- digits are written as they are
digits_spelled : (digits : List ℕ) → AllPass is_lower_hex digits → digits ≡ encode_utf8_all digits
digits_spelled [] all = refl
digits_spelled (c ∷ digits) all =
    let small : c < 128 = lower_hex_ascii c (All-head (λ d. is_lower_hex d ≡ true) c digits all) in
    ap (λ xs. c ∷ xs) (digits_spelled digits (All-tail (λ d. is_lower_hex d ≡ true) c digits all))
    ∙ ap (λ xs. xs ++ encode_utf8_all digits) (sym (encode_ascii c small))

digits_pass : (test : ℕ → Bool) → ((c : ℕ) → is_lower_hex c ≡ true → test c ≡ true) →
    (digits : List ℕ) → AllPass is_lower_hex digits → list_all test digits ≡ true
digits_pass test each [] all = refl
digits_pass test each (c ∷ digits) all =
    and_true (test c) (list_all test digits) (each c (All-head (λ d. is_lower_hex d ≡ true) c digits all))
    (digits_pass test each digits (All-tail (λ d. is_lower_hex d ≡ true) c digits all))

digits_no_colon : (digits : List ℕ) → AllPass is_lower_hex digits → at_colon digits ≡ None
digits_no_colon [] all = refl
digits_no_colon (c ∷ digits) all =
    ap (λ b. cond b (Some ([], digits)) (option_map (λ parts. (c ∷ parts.0, parts.1)) (at_colon digits)))
    (lower_hex_no_colon c (All-head (λ d. is_lower_hex d ≡ true) c digits all))
    ∙ ap (option_map (λ parts. (c ∷ parts.0, parts.1))) (digits_no_colon digits (All-tail (λ d. is_lower_hex d ≡ true) c digits all))

underscore_spelled : (digits : List ℕ) → AllPass is_lower_hex digits → 95 ∷ digits ≡ encode_utf8_all (95 ∷ digits)
underscore_spelled digits all =
    ap (λ xs. 95 ∷ xs) (digits_spelled digits all) ∙ ap (λ xs. xs ++ encode_utf8_all digits) (sym (encode_ascii 95 (lit< tt)))

usable_digits : (digits : List ℕ) → IsIdForm (95 ∷ digits) → IsUsableId (95 ∷ digits)
usable_digits digits form = record {
  form = form;
  name = (
    record {
      first = 95;
      others = digits;
      starts = refl;
      goes_on = digits_pass is_name_char lower_hex_in_name digits form.2;
      spelled = underscore_spelled digits form.2;
    },
    ap (option_map (λ parts. (95 ∷ parts.0, parts.1))) (digits_no_colon digits form.2),
  );
  text = record {
    characters = 95 ∷ digits;
    allowed = digits_pass is_char lower_hex_in_text digits form.2;
    spelled = underscore_spelled digits form.2;
  };
}

-- a text of the form is usable
pub IsUsableId-form : (text : List ℕ) → IsIdForm text → IsUsableId text
IsUsableId-form [] form = absurd form
IsUsableId-form (first ∷ digits) form =
    subst (λ b. IsUsableId (b ∷ digits)) (sym form.0) (usable_digits digits (refl, form.1, form.2))

IsAscii-digits : (digits : List ℕ) → AllPass is_lower_hex digits → IsAscii digits
IsAscii-digits [] all = IsAscii-nil
IsAscii-digits (c ∷ digits) all =
    IsAscii-cons c digits (lower_hex_ascii c (All-head (λ d. is_lower_hex d ≡ true) c digits all))
    (IsAscii-digits digits (All-tail (λ d. is_lower_hex d ≡ true) c digits all))

-- and UTF-8
pub IsUtf8-form : (text : List ℕ) → IsIdForm text → IsUtf8 text
IsUtf8-form [] form = absurd form
IsUtf8-form (first ∷ digits) form =
    IsUtf8-from_ascii (first ∷ digits) (IsAscii-cons first digits (omega (arith, form.0)) (IsAscii-digits digits form.2))

pub every_id_is_a_name : EveryIdIsUsable
every_id_is_a_name key kind number = IsUsableId-form (id_text key kind number) (IsIdForm-id_text key kind number)

-- an ID begins with its number
starts : (key : List ℕ) (kind : Kind) (number : ℕ) → take 16 (drop 1 (id_text key kind number)) ≡ encode_lower (to_be_bytes w64 number)
unfolding id_text
starts key kind number =
    take_at (encode_lower (to_be_bytes w64 number)) (encode_lower (random_bytes key kind number)) 16 (length-encode_with lower_digits (to_be_bytes w64 number))

-- equal IDs have equal numbers
same_number : (key other_key : List ℕ) (kind other_kind : Kind) (number other_number : ℕ) → number < 2 ^ 64 → other_number < 2 ^ 64
    → id_text key kind number ≡ id_text other_key other_kind other_number → number ≡ other_number
same_number key other_key kind other_kind number other_number low other_low same =
    let digits : encode_lower (to_be_bytes w64 number) ≡ encode_lower (to_be_bytes w64 other_number) =
    sym (starts key kind number) ∙ ap (λ text. take 16 (drop 1 text)) same ∙ starts other_key other_kind other_number in
    let bytes = encode_lower-injective (to_be_bytes w64 number) (to_be_bytes w64 other_number) (AllBytes-to_be_bytes number) (AllBytes-to_be_bytes other_number) digits in
    sym (from_be_bytes-to_be_bytes_8 number low) ∙ ap (from_be_bytes w64) bytes ∙ from_be_bytes-to_be_bytes_8 other_number other_low

pub numbers_give_their_ids : NumbersGiveTheirIds
numbers_give_their_ids key other_key kind other_kind number other_number low other_low apart same =
    apart (same_number key other_key kind other_kind number other_number low other_low same)

pub key_gives_an_id_once : KeyGivesAnIdOnce
key_gives_an_id_once key kind other_kind number other_number low other_low same =
    same_number key key kind other_kind number other_number low other_low same
