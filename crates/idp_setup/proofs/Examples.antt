-- The definitions at worked examples.
use Rattle.std.proofs.Common.{List, [], ◌∷◌, Option, Some, codes, inl, inr, refl, arith}
use Rattle.std.specs.Str.{chars}
use lib.Utf8.{encode}
use Rattle.saml_outside.specs.Files.{File}
use Rattle.provider_config.specs.declared.idp_config.IdpFile.TheVariants.{IdKey, Users}
use Rattle.sp_setup.specs.Files.{in_order}
use Rattle.idp_setup.specs.Setup.{nothing, load}

-- a file of 32 bytes, one of 16, and one of which the second line is bad
abbrev files : Option (List File)
files =
    Some (record { name = codes "k"; bytes = codes "thirty-two bytes are in this one" } ∷ record { name = codes "a"; bytes = codes "sixteen bytes it" }
    ∷ record { name = codes "u"; bytes = codes "# c\nattr b c\n" } ∷ [])

-- 32 bytes make the key of IDs, and 16 none
keys : (load (IdKey (codes "k")) nothing).gives files (record nothing { id_key = Some (codes "thirty-two bytes are in this one") })
    × (load (IdKey (codes "a")) nothing).fails files (codes "a") 0
keys = (
  (codes "thirty-two bytes are in this one", (codes "thirty-two bytes are in this one", (omega arith, refl), (refl, refl)), refl),
  inl (inr (codes "sixteen bytes it", (omega arith, refl), (refl, (refl, λ e. omega (arith, e))))),
)

-- an attribute of no user, in the second line
users : (load (Users (codes "u")) nothing).fails files (codes "u") 2
unfolding chars encode
users = inl (inr (codes "# c\nattr b c\n", (omega arith, refl), (refl, refl)))

-- the first file that can't be used, as a whole, comes before those behind it
first : (in_order load (IdKey (codes "absent") ∷ Users (codes "u") ∷ []) nothing).fails files (codes "absent") 0
first = inl (inl (inl (refl, refl, inl (refl, refl))))
