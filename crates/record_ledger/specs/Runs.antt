-- What happens to a ledger over a whole run, with crashes between: records that are added, compactions, and openings, which
-- make a journal of version 1 anew.
use Rattle.std.specs.Prelude.{◌≡◌, ◌⊎◌, ℕ, ◌<◌, ◌≤◌, true, List, [], ◌∷◌, ◌++◌, filter, All, Contains}
use Rattle.ledger_rules.specs.Numbers.{Drawn}
use Rattle.record_ledger.specs.Rules.{RecordRules}
use Rattle.record_ledger.specs.Ledger.{Held, next_number, held_with, migrated}
use Rattle.record_ledger.specs.Compacting.{Compacts as IsMade}

pub data Event (R : Type 0) : Type 0 where
  Adds : R → Event R
  Compacts : ℕ → Event R
  Opens : Event R

module _ {R : Type 0} (rules : RecordRules R) where
  -- the events that led from one ledger to another, the latest first
  abbrev pub Leads : Held R → List (Event R) → Held R → Type 0
  Leads start [] held = held ≡ start
  Leads start (Adds r ∷ past) held =
      (before : Held R) × Leads start past before × (rules.is_record before.records r ≡ true)
      × All (λ (d : Drawn). next_number rules before ≤ d.number) (rules.drawn r) × (held ≡ held_with r before)
  Leads start (Compacts now ∷ past) held = (before : Held R) × Leads start past before × IsMade rules now before held
  Leads start (Opens ∷ past) held = (before : Held R) × Leads start past before × (held ≡ migrated before)

-- WHAT STAYS

-- the records that were added, the first of them first
abbrev pub added : {R : Type 0} → List (Event R) → List R
added [] = []
added (Adds r ∷ past) = added past ++ r ∷ []
added (Compacts now ∷ past) = added past
added (Opens ∷ past) = added past

-- each compaction took place at one of these moments
abbrev pub CompactsAt : {R : Type 0} → (moments : List ℕ) → List (Event R) → Type 0
CompactsAt moments [] = Unit {0}
CompactsAt moments (Adds r ∷ past) = CompactsAt moments past
CompactsAt moments (Compacts now ∷ past) = Contains moments now × CompactsAt moments past
CompactsAt moments (Opens ∷ past) = CompactsAt moments past

-- what holds until then is visible at each of these moments, and with the horizon at the start
pub record EndsBehind (horizon : ℕ) (moments : List ℕ) (until : ℕ) : Type 0 where
  pub start : horizon < until
  pub each : All (λ now. now < until) moments

module _ {R : Type 0} (rules : RecordRules R) where
  -- A row of a record is visible at each of these moments, with the horizon at the start or with one that a compaction at one of
  -- them sets.
  abbrev pub IsVisibleThroughout : (horizon : ℕ) → (moments : List ℕ) → R → Type 0
  IsVisibleThroughout start moments r =
      (now horizon : ℕ) → Contains moments now → (horizon ≡ start) ⊎ Contains moments horizon → rules.has_visible now horizon r ≡ true

  -- those of these records that name it
  abbrev pub naming : R → List R → List R
  naming r records = filter (λ other. rules.names other r) records

  -- A record is still there, in front of others. Those of them that name it are those that did, and then those that were added.
  pub record Stays (r : R) (behind : List R) (events : List (Event R)) (held : Held R) : Type 0 where
    pub before_it : List R
    pub behind_it : List R
    pub stands : held.records ≡ before_it ++ r ∷ behind_it
    pub naming_it : naming r behind_it ≡ naming r behind ++ naming r (added events)
