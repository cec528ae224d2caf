-- What tells references to numbers from entities.
use Rattle.std.specs.Prelude.{ℕ, ◌==◌, Bool, false, List, [], ◌∷◌}

-- the second byte is a number sign
abbrev pub has_number_sign : List ℕ → Bool
has_number_sign [] = false
has_number_sign (first ∷ []) = false
has_number_sign (first ∷ second ∷ rest) = second == 0x23
