-- Words on lists of bytes that the definitions of XML share.
use Rattle.std.specs.Prelude.{ℕ, Bool, true, false, ◌&&◌, ◌||◌, not, List, [], ◌∷◌, nat_eq, IsTrue}
use Rattle.std.specs.List.{list_all, starts_with}

-- each byte passes the test
abbrev pub AllPass : (ℕ → Bool) → List ℕ → Type 0
AllPass test bytes = IsTrue (list_all test bytes)

-- the pattern stands somewhere in the bytes
abbrev pub has : List ℕ → List ℕ → Bool
has pattern [] = false
has pattern (b ∷ bytes) = starts_with nat_eq (b ∷ bytes) pattern || has pattern bytes

-- the first element passes the test
abbrev pub begins_with : {X : Type 0} → (X → Bool) → List X → Bool
begins_with test [] = false
begins_with test (x ∷ xs) = test x

-- no two neighbours both pass the test
abbrev pub no_two : {X : Type 0} → (X → Bool) → List X → Bool
no_two test [] = true
no_two test (x ∷ xs) = not (test x && begins_with test xs) && no_two test xs

-- there is no byte
abbrev pub is_empty : List ℕ → Bool
is_empty [] = true
is_empty (b ∷ bytes) = false
