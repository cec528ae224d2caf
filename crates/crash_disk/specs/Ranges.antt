-- Ranges of places.
use Rattle.std.specs.Prelude.{◌⊎◌, ℕ, ◌<◌, ◌≤◌, nat_le, nat_lt, Bool, false, ◌&&◌, ◌||◌, List, [], ◌∷◌}
use Rattle.crash_disk.specs.declared.range.Range.{Range}

-- a place that lies in none of these ranges
abbrev pub IsOutside : ℕ → List Range → Type 0
IsOutside i [] = Unit {0}
IsOutside i (range ∷ ranges) = ((i < range.start) ⊎ (range.end ≤ i)) × IsOutside i ranges

-- whether a place lies in one of these ranges
abbrev pub is_in : ℕ → List Range → Bool
is_in i [] = false
is_in i (range ∷ ranges) = (nat_le range.start i && nat_lt i range.end) || is_in i ranges
