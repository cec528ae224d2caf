-- What stays over from point to point of a service: a session that is closed in the ledger at one point is over at each
-- later one.
use Rattle.std.specs.Prelude.{◌≡◌, ℕ, false, List, [], ◌∷◌, ◌++◌, map, Option, Some, Ok}
use Rattle.std.specs.List.{AllByRecursion}
use Rattle.crash_disk.specs.Disk.{Image, DiskState}
use Rattle.crash_disk.specs.Moments.{Leaves}
use Rattle.serve_loop.specs.Turns.{Asked, Turn, asked_by}
use Rattle.serve_loop.specs.Worlds.{World}
use Rattle.record_ledger.specs.Rules.{RecordRules, AreRecords}
use Rattle.record_ledger.specs.Ledger.{Held, ledger_in}
use Rattle.record_ledger.specs.Runs.{Event, Leads}
use Rattle.provider_node.specs.Step.{Provider}

-- a node and its disk at a point of a service: when it begins, when a request comes, or behind all requests
pub record Point (N : Type 0) : Type 0 where
  pub node : N
  pub disk : Option DiskState

abbrev pub point_of : {N : Type 0} → Asked N → Point N
point_of asked = record { node = asked.node; disk = asked.disk }

abbrev pub point_in : {N : Type 0} → World N → Point N
point_in world = record { node = world.node; disk = world.disk }

abbrev pub point : {N : Type 0} → N → Option DiskState → Point N
point node disk = record { node = node; disk = disk }

-- the points up to the latest request, and all of them, the latest first
abbrev pub points_asked : {N : Type 0} → World N → List (Turn N) → List (Point N)
points_asked first [] = point_in first ∷ []
points_asked first (turn ∷ past) = map point_of (asked_by turn) ++ points_asked first past

abbrev pub points : {N : Type 0} → World N → List (Turn N) → World N → List (Point N)
points first turns last = point_in last ∷ points_asked first turns

module _
    {Setup R : Type 0} (IsClosed : Held R → List ℕ → Type 0) (token : List ℕ) (point : Point (Provider Setup R)) where
  -- at a point the provider's ledger is whole, and the session of this token is closed in it
  pub record IsClosedAt : Type 0 where
    pub whole : point.node.ledger.broken ≡ false
    pub closed : IsClosed point.node.ledger.held token

module _ {Setup R : Type 0} (rules : RecordRules R)
    (IsOver : Held R → List ℕ → Type 0) (token : List ℕ) (point : Point (Provider Setup R)) where
  -- at a point no session of this token lives in the provider's ledger, nor in one that a crash may leave there
  pub record IsOverAt : Type 0 where
    pub in_ledger : point.node.ledger.broken ≡ false → IsOver point.node.ledger.held token
    pub on_disk : (image : Image) (held : Held R)
        → Leaves point.disk image → ledger_in rules image ≡ Ok (Some held) → IsOver held token

-- `IsClosed` says that the session of a token is closed in a ledger, `IsOver` that none of it lives there at any
-- moment.
module _ {Setup R : Type 0} (rules : RecordRules R) (IsClosed IsOver : Held R → List ℕ → Type 0) where
  -- a session that is closed at one point is over at each later one; the latest comes first
  abbrev pub StayClosed : List (Point (Provider Setup R)) → Type 0
  StayClosed [] = Unit {0}
  StayClosed (point ∷ earlier) =
      AllByRecursion (λ before. (token : List ℕ) → IsClosedAt IsClosed token before → IsOverAt rules IsOver token point)
      earlier × StayClosed earlier

-- A session that is closed is over since, whatever is recorded, compacted and opened.
abbrev pub AClosedSessionStaysClosed : {R : Type 0}
    → RecordRules R → (IsClosed IsOver : Held R → List ℕ → Type 0) → Type 0
AClosedSessionStaysClosed {R} rules IsClosed IsOver = (start held : Held R) (events : List (Event R)) (token : List ℕ)
    → AreRecords rules start.records → IsClosed start token → Leads rules start events held → IsOver held token
