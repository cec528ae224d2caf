-- What became of a ledger over a service: the histories of what its disk may hold, and what was acknowledged on the
-- way.
use Rattle.std.specs.Prelude.{◌≡◌, ℕ, false, List, [], ◌∷◌, ◌++◌, map, Contains, Option, None, Some, IfSome, Ok}
use Rattle.crash_disk.specs.Disk.{Image, MayLeave, image_of}
use Rattle.crash_disk.specs.Moments.{Leaves}
use Rattle.http_wire.specs.declared.answer.Answer.TheVariants.{Fixed}
use Rattle.serve_loop.specs.Worlds.{World, NodeStep, IsAnswered}
use Rattle.serve_loop.specs.Turns.{Asked, Turn, asked_by}
use Rattle.record_ledger.specs.Rules.{RecordRules, AreRecords}
use Rattle.record_ledger.specs.Ledger.{Held, ledger_in}
use Rattle.record_ledger.specs.Runs.{Event, Adds, Compacts, Leads}
use Rattle.provider_node.specs.declared.codes.TheConstants.{DISK_FAULT, FOREIGN, FULL, NO_MEMORY}
use Rattle.provider_node.specs.Causes.{IsAnsweredOver}
use Rattle.provider_node.specs.Node.{provider_rules}
use Rattle.provider_node.specs.Step.{AnswersBy, Provider, OwnsDisk}
use Rattle.std.specs.Option.{option_to_list}

module _ {Setup R : Type 0} (rules : RecordRules R) (Answers : AnswersBy Setup R) where
  -- what an answer of a provider does, with the calls on its disk, and what a crash may leave
  abbrev pub IsProviders : NodeStep (Provider Setup R)
  IsProviders = IsAnswered (provider_rules rules Answers)

-- WHAT IS ACKNOWLEDGED

module _ {Setup R : Type 0} (rules : RecordRules R) (Answers : AnswersBy Setup R) where
  module _ (asked : Asked (Provider Setup R)) where
    -- The answer to a request stands for a record that is added with it, or for none, over the ledger that its step
    -- found, or over what the one compaction made of this; or it is a code that a provider answers for itself.
    pub data Stands : Option R → Type 0 where
      ForAnswer : (adds : Option R)
          → IsAnsweredOver rules Answers asked.node asked.disk asked.request asked.now asked.answer adds → Stands adds
      ForCode : (code : ℕ) → Contains (DISK_FAULT ∷ FULL ∷ NO_MEMORY ∷ FOREIGN ∷ []) code
          → asked.answer ≡ Fixed code → Stands None

  -- the records for which the answers of some turns stand, the latest first
  abbrev pub AreBehind : List (Asked (Provider Setup R)) → (earlier records : List R) → Type 0
  AreBehind [] earlier records = records ≡ earlier
  AreBehind (asked ∷ others) earlier records = (r : Option R) × Stands asked r × (records ≡ option_to_list r ++ earlier)

  abbrev pub AreAcknowledged : List (Turn (Provider Setup R)) → List R → Type 0
  AreAcknowledged [] records = records ≡ []
  AreAcknowledged (turn ∷ past) records =
      (earlier : List R) × AreAcknowledged past earlier × AreBehind (asked_by turn) earlier records

-- HISTORIES

-- each of these records was added by one of these events, in order
pub data Includes {R : Type 0} : List (Event R) → List R → Type 0 where
  Nothing : Includes [] []
  This : {r : R} {past : List (Event R)} {records : List R}
      → Includes past records → Includes (Adds r ∷ past) (r ∷ records)
  Another : {event : Event R} {past : List (Event R)} {records : List R}
      → Includes past records → Includes (event ∷ past) records

-- each compaction took place at a moment of which this is said
abbrev pub CompactsWhere : {R : Type 0} → (IsMoment : ℕ → Type 0) → List (Event R) → Type 0
CompactsWhere IsMoment [] = Unit {0}
CompactsWhere IsMoment (Compacts now ∷ past) = IsMoment now × CompactsWhere IsMoment past
CompactsWhere IsMoment (event ∷ past) = CompactsWhere IsMoment past

-- of any moment
abbrev pub AnyMoment : ℕ → Type 0
AnyMoment now = Unit {0}

-- the moments of the requests of some turns, the latest first
abbrev pub moments_of : {N : Type 0} → List (Turn N) → List ℕ
moments_of [] = []
moments_of (turn ∷ past) = map (λ asked. asked.now) (asked_by turn) ++ moments_of past

module _ {R : Type 0} (rules : RecordRules R) (IsMoment : ℕ → Type 0) (start : Held R) (records : List R) where
  -- a ledger that came from another one by events, in which these records were added, and each compaction was at such a
  -- moment
  pub record CameFrom (held : Held R) : Type 0 where
    pub events : List (Event R)
    pub leads : Leads rules start events held
    pub includes : Includes events records
    pub at : CompactsWhere IsMoment events

  -- the image stands for such a ledger
  abbrev pub HoldsWhatCame : Image → Type 0
  HoldsWhatCame image = (held : Held R) × (ledger_in rules image ≡ Ok (Some held)) × CameFrom held

module _ {R : Type 0} (rules : RecordRules R) (IsSo : Held R → List (Event R) → Type 0)
    (IsMoment : ℕ → Type 0) (start : Held R) (records : List R) (image : Image) where
  -- and this is said of its history
  pub record HoldsWhatCameSo : Type 0 where
    pub held : Held R
    pub is : ledger_in rules image ≡ Ok (Some held)
    pub came : CameFrom rules IsMoment start records held
    pub so : IsSo start came.events

-- a provider whose ledger is whole, on its own disk
pub record IsAtStart {Setup R : Type 0} (rules : RecordRules R) (first : World (Provider Setup R)) : Type 0 where
  pub whole : first.node.ledger.broken ≡ false
  pub records : AreRecords rules first.node.ledger.held.records
  pub own : OwnsDisk rules first.node first.disk
  pub reads : IfSome first.disk (λ d. MayLeave d (image_of d))

-- WHAT IS KEPT

module _ {Setup R : Type 0} (rules : RecordRules R) (Answers : AnswersBy Setup R)
    (Holds : List R → Image → Type 0) (last : World (Provider Setup R)) (turns : List (Turn (Provider Setup R))) where
  -- Of the records for which the answers of a service stand this holds, and of every image that a crash may leave
  -- behind it.
  pub record AreKeptSo : Type 0 where
    pub records : List R
    pub are : AreAcknowledged rules Answers turns records
    pub kept : (image : Image) → Leaves last.disk image → Holds records image

module _ {Setup R : Type 0} (rules : RecordRules R) (Answers : AnswersBy Setup R) where
  -- The records for which the answers of a service stand are in the history of every ledger that a crash may leave
  -- behind it; in this each compaction was at the moment of one of its requests.
  abbrev pub AreKept : (first last : World (Provider Setup R)) → List (Turn (Provider Setup R)) → Type 0
  AreKept first last turns =
      AreKeptSo rules Answers (HoldsWhatCame rules (Contains (moments_of turns)) first.node.ledger.held) last turns
