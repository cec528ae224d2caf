-- How an ID is made.
use Rattle.std.proofs.Common.{◌≡◌, ◌+◌, ◌*◌, ◌%◌, ◌^◌, ◌<◌, ◌++◌, ℕ, List, [], ◌∷◌, length, drop, Result, Ok, Err, refl, sym, ap, ◌∙◌, arith, IsOk, MatchResult}
use Rattle.std.proofs.Math.Nat.{mod-eq_of_lt}
use Rattle.std.proofs.Math.Seq.{drop-length}
use Rattle.std.proofs.lemmas.List.{take_at, drop_at, append-nil}
use Rattle.std.specs.Int.{w32, w64, to_le_bytes, to_be_bytes}
use Rattle.hex.specs.Hex.{encode_lower, lower_digits}
use Rattle.hex.proofs.HexLemmas.{length-encode_with}
use Rattle.rand_core.specs.Steps.{stream_of, steps_u32, word_bytes}
use Rattle.rand_core.specs.Stream.{fill_bytes}
use Rattle.rand_chacha.specs.ChaCha.{word_at, key_of, next_word}
use Rattle.saml_ids.specs.IdText.{number_of, random_bytes, id_text}
use Rattle.saml_ids.specs.declared.Kind.{Kind}
use borrow.Rule.Slice.PartMut.{put_mid}

-- the array after the writes to its two parts
parts_written : (first second rest : List ℕ) → length first ≡ 16 → length rest ≡ 40
    → put_mid 17 40 (95 ∷ (first ++ rest)) second ≡ 95 ∷ (first ++ second)
parts_written first second rest sixteen forty =
    let gone : drop 40 rest ≡ [] = sym (ap (λ n. drop n rest) forty) ∙ drop-length rest in
    ap (λ xs. 95 ∷ xs) (
    ap (λ xs. xs ++ (second ++ drop 40 (drop 16 (first ++ rest)))) (take_at first rest 16 sixteen)
    ∙ ap (λ xs. first ++ (second ++ drop 40 xs)) (drop_at first rest 16 sixteen)
    ∙ ap (λ xs. first ++ (second ++ xs)) gone
    ∙ ap (λ xs. first ++ xs) (append-nil second)
    )

pub id_text-written : (key : List ℕ) (kind : Kind) (number : ℕ) (first second rest : List ℕ)
    → first ≡ encode_lower (to_be_bytes w64 number) → second ≡ encode_lower (random_bytes key kind number) → length rest ≡ 40
    → put_mid 17 40 (95 ∷ (first ++ rest)) second ≡ id_text key kind number
unfolding id_text
id_text-written key kind number first second rest first_is second_is forty =
    let sixteen : length first ≡ 16 = ap length first_is ∙ length-encode_with lower_digits (to_be_bytes w64 number) in
    parts_written first second rest sixteen forty ∙ ap (λ xs. 95 ∷ (xs ++ second)) first_is
    ∙ ap (λ xs. 95 ∷ (encode_lower (to_be_bytes w64 number) ++ xs)) second_is

-- the place after one of the first four does not begin again
next_place : (place p k : ℕ) → place + 4 < 2 ^ 68 → k < 4 → p ≡ place + k → (p + 1) % 2 ^ 68 ≡ place + (k + 1)
next_place place p k room low is =
    let small : p + 1 < 2 ^ 68 = omega arith in
    mod-eq_of_lt small ∙ omega arith

same_five : (word : ℕ → List ℕ) (a a' b b' c c' d d' e e' : ℕ) → a ≡ a' → b ≡ b' → c ≡ c' → d ≡ d' → e ≡ e'
    → word a ++ word b ++ word c ++ word d ++ word e ≡ word a' ++ word b' ++ word c' ++ word d' ++ word e'
same_five word a a' b b' c c' d d' e e' p q r s t = cc

-- five words from a place on, none of them past the last
five_words : (key : List ℕ) (stream place : ℕ) → place + 4 < 2 ^ 68
    → (fill_bytes 20 (stream_of (steps_u32 (next_word 10)) (record { key = key; stream = stream; word_pos = place }))).0
    ≡ to_le_bytes w32 (word_at 10 key stream (place + 0)) ++ to_le_bytes w32 (word_at 10 key stream (place + 1))
    ++ to_le_bytes w32 (word_at 10 key stream (place + 2)) ++ to_le_bytes w32 (word_at 10 key stream (place + 3))
    ++ to_le_bytes w32 (word_at 10 key stream (place + 4))
unfolding fill_bytes stream_of word_bytes
five_words key stream place room =
    let word : ℕ → List ℕ = λ p. to_le_bytes w32 (word_at 10 key stream p) in
    let at_1 = next_place place place 0 room (omega arith) (omega arith) in
    let at_2 = next_place place _ 1 room (omega arith) at_1 in
    let at_3 = next_place place _ 2 room (omega arith) at_2 in
    let at_4 = next_place place _ 3 room (omega arith) at_3 in
    same_five word place (place + 0) _ _ _ _ _ _ _ _ (omega arith) at_1 at_2 at_3 at_4

-- what the generator fills in at its block
pub random_bytes-filled : (key : List ℕ) (kind : Kind) (number : ℕ) → number < 2 ^ 64
    → (fill_bytes 20 (stream_of (steps_u32 (next_word 10)) (record { key = key_of key; stream = number_of kind; word_pos = 16 * number % 2 ^ 68 }))).0
    ≡ random_bytes key kind number
unfolding random_bytes
random_bytes-filled key kind number low =
    let small : 16 * number % 2 ^ 68 ≡ 16 * number = mod-eq_of_lt (omega arith) in
    ap (λ place. (fill_bytes 20 (stream_of (steps_u32 (next_word 10)) (record { key = key_of key; stream = number_of kind; word_pos = place }))).0) small
    ∙ five_words (key_of key) (number_of kind) (16 * number) (omega arith)

-- bytes that are text are read as such
pub IsOk-from_cases : {S E U : Type 0} (P : S → Type 0) (Q : E → Type 0) (r : Result S E) → MatchResult r P (λ e. (U → ⊥) × Q e) → U → IsOk r
IsOk-from_cases P Q (Ok s) cases valid = refl
IsOk-from_cases P Q (Err e) cases valid = absurd (cases.0 valid)
