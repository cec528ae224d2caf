-- PBKDF2 (RFC 8018, 5.2) with HMAC-SHA256 as its pseudorandom function, for a key of one block: the
-- function F of the password P, the salt S, the iteration count c and the block index 1.
use Rattle.std.specs.Prelude.{ℕ, zero, suc, List, [], ◌∷◌, ◌++◌, bit_xor}
use Rattle.std.specs.Simd.Lanes.{zip2}
use Rattle.hmac_sha256.specs.Hmac.{hmac}

-- "INT (i) is a four-octet encoding of the integer i, most significant octet first", at i = 1
abbrev pub first_block_index : List ℕ
first_block_index = 0 ∷ 0 ∷ 0 ∷ 1 ∷ []

-- what is put under the password's HMAC j times: "U_1 = PRF (P, S || INT (i))", so U 0 stands for
-- the salt and the index, and "U_c = PRF (P, U_{c-1})"
unfoldable pub nth_hmac : List ℕ → List ℕ → ℕ → List ℕ
nth_hmac password salt zero = salt ++ first_block_index
nth_hmac password salt (suc j) = hmac password (nth_hmac password salt j)

-- the exclusive or of two texts of one length, byte by byte
abbrev pub xor_bytes : List ℕ → List ℕ → List ℕ
xor_bytes xs ys = zip2 bit_xor xs ys

-- "F (P, S, c, i) = U_1 \xor U_2 \xor ... \xor U_c". The standard has no count of zero, and callers
-- may not give it.
unfoldable pub pbkdf2 : List ℕ → List ℕ → ℕ → List ℕ
pbkdf2 password salt zero = []
pbkdf2 password salt (suc zero) = nth_hmac password salt 1
pbkdf2 password salt (suc (suc c)) = xor_bytes (pbkdf2 password salt (suc c)) (nth_hmac password salt (suc (suc c)))
