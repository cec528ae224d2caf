-- What the definitions say of a few levels.
use Rattle.std.specs.Prelude.{◌≡◌, [], ◌∷◌, Some, None, refl, codes}
use Rattle.namespace_scope.specs.Levels.{Level, lookup_of, declared_in}

-- `p` and `q` are declared outside, `p` twice, and `q` again inside
outside : Level
outside = (codes "p", 3) ∷ (codes "q", 2) ∷ (codes "p", 1) ∷ []

inside : Level
inside = (codes "q", 4) ∷ []

-- the latest pair of a level counts
latest_counts : lookup_of (codes "p") (outside ∷ []) ≡ Some 3
unfolding outside
latest_counts = refl

-- an inner level hides an outer one
inner_counts : lookup_of (codes "q") (inside ∷ outside ∷ []) ≡ Some 4
unfolding inside
inner_counts = refl

-- and what it does not declare is still that of the outer one
outer_is_seen : lookup_of (codes "p") (inside ∷ outside ∷ []) ≡ Some 3
unfolding inside outside
outer_is_seen = refl

-- a prefix that only begins as another one has no number
longer_is_none : lookup_of (codes "pq") (inside ∷ outside ∷ []) ≡ None
unfolding inside outside
longer_is_none = refl

-- a declaration goes into the innermost level
goes_inside : declared_in (codes "p") 5 (inside ∷ outside ∷ []) ≡ ((codes "p", 5) ∷ inside) ∷ outside ∷ []
goes_inside = refl
