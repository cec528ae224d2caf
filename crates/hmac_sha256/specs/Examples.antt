-- HMAC and PBKDF2 on examples that compute with the function below them left as it is.
use Rattle.std.specs.Prelude.{◌≡◌, ℕ, ◌-◌, List, [], ◌∷◌, ◌++◌, length, replicate, refl}
use Rattle.sha2.specs.Sha256.{sha256}
use Rattle.hmac_sha256.specs.Hmac.{block_key, hmac}
use Rattle.hmac_sha256.specs.Pbkdf2.{nth_hmac, xor_bytes, pbkdf2}

-- zeros come after a short key, here `Jefe`
pub block_key-short : block_key (0x4a ∷ 0x65 ∷ 0x66 ∷ 0x65 ∷ []) ≡ 0x4a ∷ 0x65 ∷ 0x66 ∷ 0x65 ∷ replicate 60 0
unfolding block_key
block_key-short = refl

-- a key of one block is its own block
pub block_key-whole_block : block_key (replicate 64 0xaa) ≡ replicate 64 0xaa
unfolding block_key
block_key-whole_block = refl

-- a key of one byte more is hashed
pub block_key-long : block_key (replicate 65 0xaa)
    ≡ sha256 (replicate 65 0xaa) ++ replicate (64 - length (sha256 (replicate 65 0xaa))) 0
unfolding block_key
block_key-long = refl

-- under the empty key the two blocks are the pads
pub hmac-empty_key : (text : List ℕ)
    → hmac [] text ≡ sha256 (replicate 64 0x5c ++ sha256 (replicate 64 0x36 ++ text))
unfolding block_key hmac
hmac-empty_key text = refl

-- under a key of 64 bytes 0xff they are the pads with each bit turned
pub hmac-key_of_ones : (text : List ℕ)
    → hmac (replicate 64 0xff) text ≡ sha256 (replicate 64 0xa3 ++ sha256 (replicate 64 0xc9 ++ text))
unfolding block_key hmac
hmac-key_of_ones text = refl

pub xor_bytes-three : xor_bytes (0x0f ∷ 0xff ∷ 0x36 ∷ []) (0xf1 ∷ 0xff ∷ 0x5c ∷ []) ≡ 0xfe ∷ 0 ∷ 0x6a ∷ []
xor_bytes-three = refl

-- one round is the HMAC of the salt and the bytes 00 00 00 01
pub pbkdf2-one_round : (p s : List ℕ) → pbkdf2 p s 1 ≡ hmac p (s ++ 0 ∷ 0 ∷ 0 ∷ 1 ∷ [])
unfolding pbkdf2 nth_hmac
pbkdf2-one_round p s = refl

-- two rounds are that value and its own HMAC
pub pbkdf2-two_rounds : (p s : List ℕ) → pbkdf2 p s 2
    ≡ xor_bytes (hmac p (s ++ 0 ∷ 0 ∷ 0 ∷ 1 ∷ [])) (hmac p (hmac p (s ++ 0 ∷ 0 ∷ 0 ∷ 1 ∷ [])))
unfolding pbkdf2 nth_hmac
pbkdf2-two_rounds p s = refl

-- the third round adds the HMAC of the second round's value
pub pbkdf2-three_rounds : (p s : List ℕ) → pbkdf2 p s 3 ≡ xor_bytes (pbkdf2 p s 2) (hmac p (nth_hmac p s 2))
unfolding pbkdf2 nth_hmac
pbkdf2-three_rounds p s = refl
