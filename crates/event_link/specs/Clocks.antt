-- What a clock gives. It gives the moments to come one after the other, and then the last one for ever.
use Rattle.std.specs.Prelude.{ℕ, ◌-◌, min, List, [], ◌∷◌, length, slice_index}

-- The moment now: the first of those to come, 0 where there is none.
abbrev pub now_of : List ℕ → ℕ
now_of [] = 0
now_of (now ∷ later) = now

-- The moments after that one. The last one repeats.
abbrev pub later_of : List ℕ → List ℕ
later_of [] = []
later_of (now ∷ []) = now ∷ []
later_of (now ∷ next ∷ later) = next ∷ later

-- The moment of this number, counted from 0; the last one where there are not so many.
abbrev pub moment_at : List ℕ → ℕ → ℕ
moment_at moments k = slice_index moments (min k (length moments - 1))
