-- The definitions at worked examples.
use Rattle.std.specs.Prelude.{◌≡◌, [], ◌∷◌, refl}
use Rattle.verdict_codes.specs.Codes.{number_of, name_of}
use Rattle.verdict_codes.specs.declared.codes.Verdict.TheVariants.{RelayDiffers, NotLogout, NoSuchPending, Foreign}

-- the numbers leave gaps: from 23 to 30, and from 43 to 45
numbers : (number_of RelayDiffers ≡ 23) × (number_of NotLogout ≡ 30) × (number_of NoSuchPending ≡ 45) × (number_of Foreign ≡ 53)
numbers = (refl, refl, refl, refl)

-- a name is its letters
name : name_of Foreign ≡ 70 ∷ 111 ∷ 114 ∷ 101 ∷ 105 ∷ 103 ∷ 110 ∷ []
name = refl
