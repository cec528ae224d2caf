-- HMAC (RFC 2104) with SHA-256 as its hash function, on lists of bytes. A block of SHA-256 has 64
-- bytes, and its digest 32.
use Rattle.std.specs.Prelude.{ℕ, ◌-◌, List, ◌++◌, length, map, replicate, bit_xor, nat_lt, if◌then◌else◌}
use Rattle.sha2.specs.Sha256.{sha256}

-- the bytes, with zeros after them up to one block
abbrev pub filled : List ℕ → List ℕ
filled bytes = bytes ++ replicate (64 - length bytes) 0

-- K, the key as one block (2): "Applications that use keys longer than B bytes will first hash the
-- key using H and then use the resultant L byte string as the actual key", and "append zeros to the
-- end of K to create a B byte string"
unfoldable pub block_key : List ℕ → List ℕ
block_key key = filled (if nat_lt 64 (length key) then sha256 key else key)

-- K XOR ipad, with "ipad = the byte 0x36 repeated B times" (2)
abbrev pub inner_key : List ℕ → List ℕ
inner_key key = map (λ b. bit_xor b 0x36) (block_key key)

-- K XOR opad, with "opad = the byte 0x5C repeated B times" (2)
abbrev pub outer_key : List ℕ → List ℕ
outer_key key = map (λ b. bit_xor b 0x5c) (block_key key)

-- "H(K XOR opad, H(K XOR ipad, text))" (2)
unfoldable pub hmac : List ℕ → List ℕ → List ℕ
hmac key text = sha256 (outer_key key ++ sha256 (inner_key key ++ text))
