-- The base64 of a digest has no white space: it is the base64 of 32 bytes that a signature is asked for.
use Rattle.std.proofs.Common.{◌≡◌, ℕ, zero, suc, ◌+◌, ◌*◌, ◌/◌, ◌%◌, ◌^◌, ◌<◌, Bool, true, not, cond, nat_lt, List, [], ◌∷◌, length, filter, replicate, slice_index, refl, ap, ◌∙◌, arith}
use Rattle.std.specs.Int.{w32, to_be_bytes}
use Rattle.std.specs.List.{list_all}
use Rattle.std.proofs.lemmas.Bool.{ltb-true, lt-ltb}
use Rattle.std.proofs.lemmas.List.Folds.{list_all-append}
use Rattle.base64.specs.Engines.{standard}
use Rattle.base64.specs.GeneralPurpose.{encode_of, IsBytes}
use Rattle.base64.specs.Rfc4648.{encode_symbols, padding_len}
use Rattle.base64.specs.Tables.{all_below}
use Rattle.base64.proofs.Tables.{all_below_at}
use Rattle.sha2.specs.Sha256.{sha256, digest_bytes, final_hash, initial_hash_256}
use Rattle.sha2.proofs.Facts256.{length-sha256}
use Rattle.hmac_sha256.specs.Hmac.{hmac}
use Rattle.xml_spec.specs.Syntax.{is_white}
use Rattle.xml_spec.proofs.Tests.{both_true, and_true}
use Rattle.sig_reference.specs.Form.{IsBase64}

-- ---- digests are bytes

all_bytes : (xs : List ℕ) → list_all (λ b. nat_lt b 256) xs ≡ true → IsBytes xs
all_bytes [] h i = omega arith
all_bytes (b ∷ xs) h zero = ltb-true b 256 (both_true (nat_lt b 256) _ h).0
all_bytes (b ∷ xs) h (suc i) = all_bytes xs (both_true (nat_lt b 256) _ h).1 i

word_bytes : (n : ℕ) → list_all (λ b. nat_lt b 256) (to_be_bytes w32 n) ≡ true
word_bytes n =
    and_true _ _ (lt-ltb (n / 256 ^ 3 % 256) 256 (omega arith))
    (and_true _ _ (lt-ltb (n / 256 ^ 2 % 256) 256 (omega arith))
    (and_true _ _ (lt-ltb (n / 256 ^ 1 % 256) 256 (omega arith))
    (and_true _ _ (lt-ltb (n % 256) 256 (omega arith)) refl)))

words_bytes : (h : List ℕ) (n : ℕ) → list_all (λ b. nat_lt b 256) (digest_bytes h n) ≡ true
unfolding digest_bytes
words_bytes h zero = refl
words_bytes h (suc n) =
    list_all-append (λ b. nat_lt b 256) (digest_bytes h n) (to_be_bytes w32 (slice_index h n))
    ∙ and_true _ _ (words_bytes h n) (word_bytes (slice_index h n))

digest_is_bytes : (m : List ℕ) → IsBytes (sha256 m)
unfolding sha256
digest_is_bytes m = all_bytes (digest_bytes (final_hash initial_hash_256 m) 8)
    (words_bytes (final_hash initial_hash_256 m) 8)

tag_is_bytes : (key text : List ℕ) → IsBytes (hmac key text)
unfolding hmac
tag_is_bytes key text = digest_is_bytes _

tag_length : (key text : List ℕ) → length (hmac key text) ≡ 32
unfolding hmac
tag_length key text = length-sha256 _

-- ---- no symbol of base64 is white space

no_white : all_below (λ i. not (is_white (slice_index standard.encode_table i))) 64 ≡ true
no_white = refl

seen : (i : ℕ) → i < 64 → not (is_white (slice_index standard.encode_table i)) ≡ true
seen i below = all_below_at (λ i. not (is_white (slice_index standard.encode_table i))) 64 i no_white below

symbols : (m : List ℕ) → IsBytes m → list_all (λ b. not (is_white b)) (encode_symbols standard.encode_table m) ≡ true
unfolding encode_symbols
symbols [] is = refl
symbols (a ∷ []) is =
    let one : a < 256 = is 0 in
    and_true _ _ (seen (a / 4) (omega arith)) (and_true _ _ (seen (a % 4 * 16) (omega arith)) refl)
symbols (a ∷ b ∷ []) is =
    let one : a < 256 = is 0 in
    let two : b < 256 = is 1 in
    and_true _ _ (seen (a / 4) (omega arith)) (and_true _ _ (seen (a % 4 * 16 + b / 16) (omega arith))
    (and_true _ _ (seen (b % 16 * 4) (omega arith)) refl))
symbols (a ∷ b ∷ c ∷ rest) is =
    let one : a < 256 = is 0 in
    let two : b < 256 = is 1 in
    let three : c < 256 = is 2 in
    and_true _ _ (seen (a / 4) (omega arith)) (and_true _ _ (seen (a % 4 * 16 + b / 16) (omega arith))
    (and_true _ _ (seen (b % 16 * 4 + c / 64) (omega arith)) (and_true _ _ (seen (c % 64) (omega arith))
    (symbols rest (λ i. is (suc (suc (suc i))))))))

padded : (n : ℕ) → list_all (λ b. not (is_white b)) (replicate n 61) ≡ true
padded zero = refl
padded (suc n) = padded n

all_kept : {X : Type 0} (p : X → Bool) (xs : List X) → list_all p xs ≡ true → filter p xs ≡ xs
all_kept p [] h = refl
all_kept p (x ∷ xs) h =
    let parts = both_true (p x) (list_all p xs) h in
    ap (λ b. cond b (x ∷ filter p xs) (filter p xs)) parts.0 ∙ ap (λ ys. x ∷ ys) (all_kept p xs parts.1)

is_base64 : (bytes : List ℕ) → IsBytes bytes → length bytes ≡ 32 → IsBase64 (encode_of standard bytes) bytes
is_base64 bytes is long = record {
  valid = is;
  length = long;
  encoded =
      all_kept (λ b. not (is_white b)) (encode_of standard bytes)
      (list_all-append (λ b. not (is_white b)) (encode_symbols standard.encode_table bytes) _
      ∙ and_true _ _ (symbols bytes is) (padded (padding_len (length bytes))));
}

-- ---- the base64 of a digest, and of a tag

pub digest_base64 : (m : List ℕ) → IsBase64 (encode_of standard (sha256 m)) (sha256 m)
digest_base64 m = is_base64 (sha256 m) (digest_is_bytes m) (length-sha256 m)

pub tag_base64 : (key text : List ℕ) → IsBase64 (encode_of standard (hmac key text)) (hmac key text)
tag_base64 key text = is_base64 (hmac key text) (tag_is_bytes key text) (tag_length key text)
