-- The definitions at worked examples.
use Rattle.std.specs.Prelude.{◌≡◌, ℕ, List, [], ◌∷◌, ◌++◌, None, Some, Ok, Err, codes, replicate, refl}
use Rattle.std.specs.Str.{chars}
use lib.Utf8.{encode}
use Rattle.hex.specs.Hex.{decode_pairs}
use Rattle.user_store.specs.declared.line.UserLine.TheVariants.{Attribute}
use Rattle.user_store.specs.Line.{rounds_of, bytes_of, line_of}
use Rattle.user_store.specs.Store.{users}

counts : (rounds_of (codes "1") ≡ Some 1) × (rounds_of (codes "100000") ≡ Some 100000) × (rounds_of (codes "0") ≡ None) × (rounds_of (codes "100001") ≡ None)
counts = (refl, refl, refl, refl)

-- digits of either case, and an even number of them
salts : (bytes_of (codes "73aAFf") ≡ Some (115 ∷ 170 ∷ 255 ∷ [])) × (bytes_of (codes "73a") ≡ None) × (bytes_of (codes "7g") ≡ None)
unfolding decode_pairs
salts = (refl, refl, refl)

-- a value is all that stands behind the name and a space
attributes : (line_of (codes "attr mail a  b ") ≡ Some (Attribute (codes "mail") (codes "a  b "))) × (line_of (codes "attr mail ") ≡ Some (Attribute (codes "mail") [])) × (line_of (codes "attr mail") ≡ None)
    × (line_of (codes "attr  x") ≡ None) × (line_of (codes "attr") ≡ None)
attributes = (refl, refl, refl, refl, refl)

-- a value of 32 bytes of zero
zeros : List ℕ
zeros = replicate 64 48

one_user : users (codes "user a 1 73 " ++ zeros ++ codes "\nattr b c\nattr b d") ≡ Ok (record {
  name = codes "a";
  attributes = record { name = codes "b"; values = codes "c" ∷ [] } ∷ record { name = codes "b"; values = codes "d" ∷ [] } ∷ [];
  salt = 115 ∷ [];
  rounds = 1;
  value = replicate 32 0;
} ∷ [])
unfolding chars encode decode_pairs zeros
one_user = refl

-- an attribute before any user; a name that is there; a salt that is empty
bad : (users (codes "# c\nattr b c\n") ≡ Err 2) × (users (codes "user a 1 73 " ++ zeros ++ codes "\nuser a 2 74 " ++ zeros) ≡ Err 2)
    × (users (codes "user a 1  " ++ zeros) ≡ Err 1)
unfolding chars encode decode_pairs zeros
bad = (refl, refl, refl)
