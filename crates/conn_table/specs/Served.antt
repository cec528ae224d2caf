-- The calls for a list of events, one event after the other, and what was answered.
use Rattle.std.specs.Prelude.{◌≡◌, ◌≢◌, ℕ, List, [], ◌∷◌, ◌++◌, length, None, Some, IfSome, if◌then◌else◌}
use Rattle.std.specs.FinMap as map
use Rattle.http_wire.specs.Requests.{Request, Reading, Whole, Reads}
use Rattle.http_wire.specs.Requests.{Refused as RefusedReading}
use Rattle.conn_table.specs.declared.progress.Progress.{Progress}
use Rattle.conn_table.specs.declared.progress.Progress.TheVariants.{Waiting, Ready, Refused, Unknown, NoMemory}
use Rattle.conn_table.specs.declared.progress.Start.{Start}
use Rattle.conn_table.specs.declared.progress.Start.TheVariants as start
use Rattle.conn_table.specs.Calls.{IsStarted, TakesPiece}
use Rattle.conn_table.specs.Events.{Started, Piece, Ended, History, Completion, bytes_since, contains, kept}
use Rattle.conn_table.specs.Table.{Table}

-- after the answer to a piece these are completed: a request that is ready is taken, or a refusal is sent, and the connection
-- is let go
abbrev pub Completes : Table → ℕ → Progress → List Completion → Table → Type 0
Completes old conn Waiting done new = (done ≡ []) × (new ≡ old)
Completes old conn Ready done new =
    (request : Request) × IfSome (map.get old conn) (λ bytes. Reads bytes (Whole request))
    × (done ≡ record { conn = conn; reading = Whole request } ∷ []) × (new ≡ map.remove old conn)
Completes old conn (Refused status) done new =
    (done ≡ record { conn = conn; reading = RefusedReading status } ∷ []) × (new ≡ map.remove old conn)
Completes old conn Unknown done new = (done ≡ []) × (new ≡ old)
Completes old conn NoMemory done new = ⊥

-- a connection is let go, or there was no memory at its start or for a piece of it, and it is let go
pub data Ends (old : Table) (conn : ℕ) (new : Table) : Type 0 where
  Gone : new ≡ map.remove old conn → Ends old conn new
  NotTaken : map.get old conn ≡ None → IsStarted old conn start.NoMemory new → Ends old conn new
  Dropped : (piece : List ℕ) (between : Table) → TakesPiece old conn piece NoMemory between → new ≡ map.remove between conn → Ends old conn new

-- the calls that the events ask for, from a new table on, completed this and left this table
abbrev pub Served : History → List Completion → Table → Type 0
Served [] done table = (done ≡ []) × (table ≡ map.empty)
Served (Started conn ∷ past) done table =
    (old : Table) × (answer : Start) × Served past done old
    × (map.get old conn ≡ None) × IsStarted old conn answer table × (answer ≢ start.NoMemory)
Served (Piece conn piece ∷ past) done table =
    (old : Table) × (between : Table) × (answer : Progress) × (earlier : List Completion) × (added : List Completion) × Served past earlier old
    × TakesPiece old conn piece answer between × Completes between conn answer added table × (done ≡ earlier ++ added)
Served (Ended conn ∷ past) done table = (old : Table) × Served past done old × Ends old conn table

-- the table has the connections that are kept, each with its bytes
pub record Shows (read : List ℕ → Reading) (events : History) (table : Table) : Type 0 where
  pub bytes : (conn : ℕ) → map.get table conn ≡ (if contains conn (kept read events) then Some (bytes_since conn events) else None)
  pub count : map.len table ≡ length (kept read events)
