-- Base64: what is decoded is what was encoded, and its text has no white space and no byte above ASCII.
use Rattle.std.proofs.Common.{◌≡◌, ℕ, zero, suc, ◌/◌, ◌*◌, ◌+◌, ◌%◌, ◌<◌, Bool, true, false, not, cond, nat_lt, List, [], ◌∷◌, length, slice_index, replicate, refl, ap, ◌∙◌, arith, Ok, ◌&&◌, IsUtf8}
use Rattle.std.specs.List.{list_all}
use Rattle.std.proofs.lemmas.Str.{IsUtf8-from_ascii}
use Rattle.std.proofs.lemmas.Bool.{ltb-true, ne_eqb}
use Rattle.std.proofs.lemmas.List.Folds.{list_all-append}
use Rattle.base64.specs.Engines.{standard}
use Rattle.base64.specs.GeneralPurpose.{encode_of, decode_of, IsBytes}
use Rattle.base64.specs.Rfc4648.{encode_symbols, padding_len}
use Rattle.base64.specs.Tables.{all_below}
use Rattle.base64.proofs.EngineFacts.{IsAscii-encode_of, decode_of_iff, decode_of-encode_of}
use Rattle.base64.proofs.Tables.{all_below_at}
use Rattle.xml_spec.specs.Syntax.{is_white}
use Rattle.xml_spec.proofs.Tests.{both_true, and_true}
use Rattle.post_binding.specs.Form.{without_white, has_replacement}
use Rattle.post_binding.specs.Laws.{Base64IsCanonical}

pub base64_is_canonical : Base64IsCanonical
base64_is_canonical text message text_bytes message_bytes = decode_of_iff standard text message (refl, refl) text_bytes message_bytes

-- what holds of each symbol of an alphabet holds of all that are written of bytes
module _ (p : ℕ → Bool) (table : List ℕ) (each : (i : ℕ) → i < 64 → p (slice_index table i) ≡ true) where
  symbols : (m : List ℕ) → IsBytes m → list_all p (encode_symbols table m) ≡ true
  unfolding encode_symbols
  symbols [] is = refl
  symbols (a ∷ []) is =
      let one : a < 256 = is 0 in
      and_true _ _ (each (a / 4) (omega arith)) (and_true _ _ (each (a % 4 * 16) (omega arith)) refl)
  symbols (a ∷ b ∷ []) is =
      let one : a < 256 = is 0 in
      let two : b < 256 = is 1 in
      and_true _ _ (each (a / 4) (omega arith)) (and_true _ _ (each (a % 4 * 16 + b / 16) (omega arith))
      (and_true _ _ (each (b % 16 * 4) (omega arith)) refl))
  symbols (a ∷ b ∷ c ∷ rest) is =
      let one : a < 256 = is 0 in
      let two : b < 256 = is 1 in
      let three : c < 256 = is 2 in
      and_true _ _ (each (a / 4) (omega arith)) (and_true _ _ (each (a % 4 * 16 + b / 16) (omega arith))
      (and_true _ _ (each (b % 16 * 4 + c / 64) (omega arith)) (and_true _ _ (each (c % 64) (omega arith))
      (symbols rest (λ i. is (suc (suc (suc i))))))))

  padding : (pad n : ℕ) → p pad ≡ true → list_all p (replicate n pad) ≡ true
  padding pad zero h = refl
  padding pad (suc n) h = and_true (p pad) (list_all p (replicate n pad)) h (padding pad n h)

-- neither white space nor above ASCII
abbrev is_plain : ℕ → Bool
is_plain b = not (is_white b) && nat_lt b 128

plain_alphabet : all_below (λ i. is_plain (slice_index standard.encode_table i)) 64 ≡ true
plain_alphabet = refl

plain_base64 : (message : List ℕ) → IsBytes message → list_all is_plain (encode_of standard message) ≡ true
plain_base64 message is =
    let each : (i : ℕ) → i < 64 → is_plain (slice_index standard.encode_table i) ≡ true =
    λ i below. all_below_at (λ i. is_plain (slice_index standard.encode_table i)) 64 i plain_alphabet below in
    list_all-append is_plain (encode_symbols standard.encode_table message) _
    ∙ and_true _ _ (symbols is_plain standard.encode_table each message is)
    (padding is_plain standard.encode_table each 61 (padding_len (length message)) refl)

-- nothing is passed over
all_kept : (text : List ℕ) → list_all is_plain text ≡ true → without_white text ≡ text
all_kept [] h = refl
all_kept (b ∷ text) h =
    let parts = both_true (is_plain b) (list_all is_plain text) h in
    ap (λ keep. cond keep (b ∷ without_white text) (without_white text)) (both_true (not (is_white b)) _ parts.0).0
    ∙ ap (λ ys. b ∷ ys) (all_kept text parts.1)

base64_without_white : (message : List ℕ) → IsBytes message → without_white (encode_of standard message) ≡ encode_of standard message
base64_without_white message is = all_kept (encode_of standard message) (plain_base64 message is)

-- no U+FFFD
no_replacement : (text : List ℕ) → list_all is_plain text ≡ true → has_replacement text ≡ false
no_replacement [] h = refl
no_replacement (b ∷ text) h =
    let parts = both_true (is_plain b) (list_all is_plain text) h in
    let low : b < 128 = ltb-true b 128 (both_true (not (is_white b)) _ parts.0).1 in
    rw (ne_eqb 239 b (λ e. omega arith)) (no_replacement text parts.1)

pub base64_has_no_replacement : (message : List ℕ) → IsBytes message → has_replacement (encode_of standard message) ≡ false
base64_has_no_replacement message is = no_replacement (encode_of standard message) (plain_base64 message is)

pub base64_is_text : (message : List ℕ) → IsUtf8 (encode_of standard message)
base64_is_text message = IsUtf8-from_ascii (encode_of standard message) (IsAscii-encode_of standard message)

pub base64_is_read : (message : List ℕ) → IsBytes message → decode_of standard (without_white (encode_of standard message)) ≡ Ok message
base64_is_read message is = ap (decode_of standard) (base64_without_white message is) ∙ decode_of-encode_of standard message refl is
