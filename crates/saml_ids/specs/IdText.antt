-- The text of an ID.
use Rattle.std.specs.Prelude.{ℕ, ◌+◌, ◌*◌, List, ◌∷◌, ◌++◌}
use Rattle.std.specs.Int.{w32, w64, to_le_bytes, to_be_bytes}
use Rattle.hex.specs.Hex.{encode_lower}
use Rattle.rand_chacha.specs.ChaCha.{word_at, key_of}
use Rattle.saml_ids.specs.declared.Kind.{Kind}
use Rattle.saml_ids.specs.declared.Kind.TheVariants.{Request, Relay, Cookie, Index, Assertion, Message, Pending}

-- the number of a kind
abbrev pub number_of : Kind → ℕ
number_of Request = 0
number_of Relay = 1
number_of Cookie = 2
number_of Index = 3
number_of Assertion = 4
number_of Message = 5
number_of Pending = 6

-- the bytes of word k of the block that has the number, low byte first, as in a key stream: ChaCha20, that is, with 10 double
-- rounds (RFC 8439, 2.3), with Bernstein's block counter of 64 bits, which is the number, and nonce of 64 bits, which is that
-- of the kind. A block has 16 words
abbrev pub word_bytes : List ℕ → Kind → ℕ → ℕ → List ℕ
word_bytes key kind number k = to_le_bytes w32 (word_at 10 (key_of key) (number_of kind) (16 * number + k))

-- the bytes of its first five words
unfoldable pub random_bytes : List ℕ → Kind → ℕ → List ℕ
random_bytes key kind number =
    word_bytes key kind number 0 ++ word_bytes key kind number 1 ++ word_bytes key kind number 2
    ++ word_bytes key kind number 3 ++ word_bytes key kind number 4

-- `_`, the number's 16 digits, the high ones first, and the 40 digits of the generator's bytes
unfoldable pub id_text : List ℕ → Kind → ℕ → List ℕ
id_text key kind number = 95 ∷ (encode_lower (to_be_bytes w64 number) ++ encode_lower (random_bytes key kind number))
