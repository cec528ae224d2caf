-- What is kept where records are left out.
use Rattle.std.specs.Prelude.{◌≡◌, ◌⊎◌, ℕ, zero, suc, ◌<◌, ◌↔◌, ◌==◌, Bool, true, false, List, [], ◌∷◌, length, slice_index_or, Option, None, Some, unwrap_or, if◌then◌else◌}

-- A record is known by its place in the list. `seen` says of a record whether a row of it is visible, and `names` of two
-- whether the first names the second.
--
-- The smallest set is kept that has every record with a visible row and, with a record, each record that it names and
-- each record that names it: those from which such steps lead to one with a visible row.
module _ (seen : ℕ → Bool) (names : ℕ → ℕ → Bool) where
  -- in so many steps or fewer
  abbrev pub IsKeptIn : ℕ → ℕ → Type 0
  IsKeptIn zero k = seen k ≡ true
  IsKeptIn (suc steps) k = IsKeptIn steps k ⊎ ((j : ℕ) × ((names j k ≡ true) ⊎ (names k j ≡ true)) × IsKeptIn steps j)

  abbrev pub IsKept : ℕ → Type 0
  IsKept k = (steps : ℕ) × IsKeptIn steps k

-- the items of a list whose flags are set
abbrev pub selected : {X : Type 0} → List Bool → List X → List X
selected [] items = []
selected (flag ∷ flags) [] = []
selected (flag ∷ flags) (item ∷ items) = if flag then item ∷ selected flags items else selected flags items

-- Links: of each record at most one other, so that two records are linked where one names the other.
abbrev pub link_at : List (Option ℕ) → ℕ → Option ℕ
link_at links k = slice_index_or links k None

-- whether the first is the link of the second
unfoldable pub is_link : List (Option ℕ) → ℕ → ℕ → Bool
is_link links j k = is_that j (link_at links k)
  where
    is_that : ℕ → Option ℕ → Bool
    is_that j None = false
    is_that j (Some l) = l == j

-- the record to which a record is linked, itself where it is linked to none
abbrev pub next_of : List (Option ℕ) → ℕ → ℕ
next_of links k = unwrap_or (link_at links k) k

-- the record to which so many links lead, the last one where there are fewer
abbrev pub along : List (Option ℕ) → (steps : ℕ) → ℕ → ℕ
along links zero k = k
along links (suc steps) k = along links steps (next_of links k)

-- A link leads to another record. One that leads to an earlier record starts at a record to which nothing is linked, and
-- leads to one whose own link, if it has one, leads to a later record.
pub record AreOrdered (links : List (Option ℕ)) : Type 0 where
  pub other : (k l : ℕ) → link_at links k ≡ Some l → ¬ (l ≡ k)
  pub start : (k l j : ℕ) → link_at links k ≡ Some l → l < k → ¬ (link_at links j ≡ Some k)
  pub later : (k l m : ℕ) → link_at links k ≡ Some l → l < k → link_at links l ≡ Some m → l < m

-- each link leads to a record
abbrev pub AreWithin : List (Option ℕ) → Type 0
AreWithin links = (k l : ℕ) → link_at links k ≡ Some l → l < length links

-- Of each record one to which links lead from it, the same for two records of which one is linked to the other.
pub record AreEnds (links : List (Option ℕ)) (ends : List ℕ) : Type 0 where
  pub long : length ends ≡ length links
  pub within : (k : ℕ) → k < length links → slice_index_or ends k 0 < length links
  pub led : (k : ℕ) → k < length links → (steps : ℕ) × (slice_index_or ends k 0 ≡ along links steps k)
  pub same : (k l : ℕ) → link_at links k ≡ Some l → slice_index_or ends k 0 ≡ slice_index_or ends l 0

-- The flags say which of the records are kept, where two are linked where one names the other.
pub record AreFlagsOf (links : List (Option ℕ)) (seen flags : List Bool) : Type 0 where
  pub long : length flags ≡ length links
  pub each : (k : ℕ) → k < length links →
      (slice_index_or flags k false ≡ true) ↔ IsKept (λ j. slice_index_or seen j false) (is_link links) k
