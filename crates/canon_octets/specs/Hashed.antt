-- What contracts see of a running hash: how many bytes the place takes, and the bytes that were put into it.
use Rattle.std.specs.Prelude.{ℕ, ◌≤◌, List, length}
use Rattle.sha2.specs.Hashers.{Holds256}
use Rattle.hmac_sha256.specs.Running.{IsMac}
use Rattle.canon_octets.specs.declared.hash.HashOctets.{HashOctets}
use Rattle.canon_octets.specs.declared.hash.MacOctets.{MacOctets}
use Rattle.canon_octets.specs.Room.{HasCome}

-- These bytes were put into a place that takes so many. Where they are no more, the hash has taken them: FIPS 180-4.
pub record HasTaken (octets : HashOctets) (limit : ℕ) (bytes : List ℕ) : Type 0 where
  pub room : HasCome octets.room limit (length bytes)
  pub hashed : length bytes ≤ limit → Holds256 octets.hash bytes

-- The same of a code with this key: RFC 2104.
pub record HasTakenUnder (octets : MacOctets) (limit : ℕ) (key bytes : List ℕ) : Type 0 where
  pub room : HasCome octets.room limit (length bytes)
  pub coded : length bytes ≤ limit → IsMac octets.mac key bytes
