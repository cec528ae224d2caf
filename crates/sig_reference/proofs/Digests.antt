-- Digests: their bytes, and their base64, which has no white space.
use Rattle.std.proofs.Common.{◌≡◌, ℕ, zero, suc, ◌/◌, ◌%◌, ◌^◌, ◌<◌, Bool, true, not, cond, nat_lt, List, [], ◌∷◌, length, filter, slice_index, refl, ap, ◌∙◌, arith}
use Rattle.std.specs.Int.{w32, to_be_bytes}
use Rattle.std.specs.List.{list_all}
use Rattle.std.proofs.lemmas.Bool.{ltb-true, lt-ltb}
use Rattle.std.proofs.lemmas.List.Folds.{list_all-append}
use Rattle.base64.specs.Engines.{standard}
use Rattle.base64.specs.GeneralPurpose.{encode_of, IsBytes}
use Rattle.base64.specs.Rfc4648.{encode_symbols, padding_len}
use Rattle.base64.specs.Tables.{all_below}
use Rattle.base64.proofs.Tables.{all_below_at}
use Rattle.sha2.specs.Sha256.{sha256, digest_bytes, final_hash, initial_hash_256}
use Rattle.sha2.proofs.Facts256.{length-sha256}
use Rattle.hmac_sha256.specs.Hmac.{hmac}
use Rattle.xml_spec.specs.Syntax.{is_white}
use Rattle.xml_spec.proofs.Tests.{both_true, and_true}
use Rattle.sig_reference.specs.Form.{IsBase64}
use Rattle.sig_reference.proofs.Writable.{symbols, padded}

all_bytes : (xs : List ℕ) → list_all (λ b. nat_lt b 256) xs ≡ true → IsBytes xs
all_bytes [] h i = omega arith
all_bytes (b ∷ xs) h zero = ltb-true b 256 (both_true (nat_lt b 256) _ h).0
all_bytes (b ∷ xs) h (suc i) = all_bytes xs (both_true (nat_lt b 256) _ h).1 i

word_bytes : (n : ℕ) → list_all (λ b. nat_lt b 256) (to_be_bytes w32 n) ≡ true
word_bytes n =
    and_true _ _ (lt-ltb (n / 256 ^ 3 % 256) 256 (omega arith)) (and_true _ _ (lt-ltb (n / 256 ^ 2 % 256) 256 (omega arith))
    (and_true _ _ (lt-ltb (n / 256 ^ 1 % 256) 256 (omega arith)) (and_true _ _ (lt-ltb (n % 256) 256 (omega arith)) refl)))

words_bytes : (h : List ℕ) (n : ℕ) → list_all (λ b. nat_lt b 256) (digest_bytes h n) ≡ true
unfolding digest_bytes
words_bytes h zero = refl
words_bytes h (suc n) =
    list_all-append (λ b. nat_lt b 256) (digest_bytes h n) (to_be_bytes w32 (slice_index h n))
    ∙ and_true _ _ (words_bytes h n) (word_bytes (slice_index h n))

pub digest_is_bytes : (m : List ℕ) → IsBytes (sha256 m)
unfolding sha256
digest_is_bytes m = all_bytes (digest_bytes (final_hash initial_hash_256 m) 8) (words_bytes (final_hash initial_hash_256 m) 8)

pub tag_is_bytes : (key text : List ℕ) → IsBytes (hmac key text)
unfolding hmac
tag_is_bytes key text = digest_is_bytes _

pub tag_length : (key text : List ℕ) → length (hmac key text) ≡ 32
unfolding hmac
tag_length key text = length-sha256 _

-- what passes is kept
all_kept : {X : Type 0} (p : X → Bool) (xs : List X) → list_all p xs ≡ true → filter p xs ≡ xs
all_kept p [] h = refl
all_kept p (x ∷ xs) h =
    let parts = both_true (p x) (list_all p xs) h in
    ap (λ b. cond b (x ∷ filter p xs) (filter p xs)) parts.0 ∙ ap (λ ys. x ∷ ys) (all_kept p xs parts.1)

no_white : all_below (λ i. not (is_white (slice_index standard.encode_table i))) 64 ≡ true
no_white = refl

-- the base64 of a digest is that of 32 bytes
pub is_base64 : (bytes : List ℕ) → IsBytes bytes → length bytes ≡ 32 → IsBase64 (encode_of standard bytes) bytes
is_base64 bytes is long =
    let each : (i : ℕ) → i < 64 → not (is_white (slice_index standard.encode_table i)) ≡ true =
    λ i below. all_below_at (λ i. not (is_white (slice_index standard.encode_table i))) 64 i no_white below in
    record {
      valid = is;
      length = long;
      encoded =
          all_kept (λ b. not (is_white b)) (encode_of standard bytes)
          (list_all-append (λ b. not (is_white b)) (encode_symbols standard.encode_table bytes) _
          ∙ and_true _ _ (symbols (λ b. not (is_white b)) standard.encode_table each bytes is)
          (padded (λ b. not (is_white b)) standard.encode_table each 61 (padding_len (length bytes)) refl));
    }
