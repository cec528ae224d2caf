-- What a contract sees of a running HMAC: the key and the bytes put so far.
use Rattle.std.specs.Prelude.{ℕ, List, ◌++◌}
use Rattle.sha2.specs.Hashers.{Holds256}
use Rattle.hmac_sha256.specs.Hmac.{inner_key, outer_key}
use Rattle.hmac_sha256.specs.declared.Mac.{Mac}

-- the running state of this key over these bytes: the inner hash has taken the key's inner block
-- and the bytes, and the outer hash the key's outer block (RFC 2104, 4)
unfoldable pub IsMac : Mac → List ℕ → List ℕ → Type 0
IsMac mac key text = Holds256 mac.inner (inner_key key ++ text) × Holds256 mac.outer (outer_key key)
