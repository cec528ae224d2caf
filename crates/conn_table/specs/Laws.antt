-- The laws of connections.
use Rattle.std.specs.Prelude.{◌≡◌, ℕ, ◌+◌, ◌*◌, ◌<◌, ◌≤◌, true, List, ◌∷◌, ◌++◌, length, IfSome}
use Rattle.std.specs.FinMap as map
use Rattle.std.specs.List.{sum_by}
use Rattle.http_wire.specs.declared.limits.TheConstants.{HEAD_LIMIT, BODY_LIMIT}
use Rattle.http_wire.specs.Requests.{Request, Reading, Whole, More, Reads}
use Rattle.http_wire.specs.Laws.{EndsAt}
use Rattle.conn_table.specs.declared.limits.TheConstants.{CONNECTION_LIMIT}
use Rattle.conn_table.specs.declared.progress.Progress.{Progress}
use Rattle.conn_table.specs.Answers.{progress_of, IsAnswer}
use Rattle.conn_table.specs.Events.{Piece, History, Completion, bytes_since, contains, read_with, kept, completions, IsRight, IsOrderly, own, completions_of, AreCompletions}
use Rattle.conn_table.specs.Served.{Served, Shows}
use Rattle.conn_table.specs.Table.{Table}

-- the answer to a piece is that of whatever the bytes are
abbrev pub AnswersAreExact : Type 0
AnswersAreExact = (bytes : List ℕ) (answer : Progress) (reading : Reading) → IsAnswer bytes answer → Reads bytes reading → answer ≡ progress_of reading

-- no more than CONNECTION_LIMIT are kept
abbrev pub FewAreKept : Type 0
FewAreKept = (read : List ℕ → Reading) (events : History) → length (kept read events) ≤ CONNECTION_LIMIT

-- whoever reads their bytes: events keep the same connections, and complete the same
abbrev pub EventsCompleteOneThing : Type 0
EventsCompleteOneThing =
    (events : History) (read other : List ℕ → Reading) → IsRight read events → IsRight other events
    → (kept read events ≡ kept other events) × (completions read events ≡ completions other events)

-- what the calls complete event by event is what the events complete, and the table shows what they keep
abbrev pub CallsGiveCompletions : Type 0
CallsGiveCompletions =
    (events : History) (done : List Completion) (table : Table) → Served events done table
    → (read : List ℕ → Reading) × IsRight read events × IsOrderly read events × (done ≡ completions read events) × Shows read events table

-- the bytes of a connection that is kept are the beginning of a request
abbrev pub KeptBytesAreMore : Type 0
KeptBytesAreMore =
    (read : List ℕ → Reading) (events : History) (conn : ℕ) → IsRight read events → contains conn (kept read events) ≡ true
    → Reads (bytes_since conn events) More

-- as many bytes as the longest request has: the longest head, and the longest body behind it
abbrev pub longest_request : ℕ
longest_request = HEAD_LIMIT + BODY_LIMIT

-- a connection that is kept has brought fewer bytes
abbrev pub KeptBytesAreFew : Type 0
KeptBytesAreFew =
    (read : List ℕ → Reading) (events : History) (conn : ℕ)
    → IsRight read events → contains conn (kept read events) ≡ true → length (bytes_since conn events) < longest_request

-- so all that are kept have brought together fewer than CONNECTION_LIMIT times as many
abbrev pub AllKeptBytesAreFew : Type 0
AllKeptBytesAreFew =
    (read : List ℕ → Reading) (events : History) → IsRight read events
    → sum_by (λ conn. length (bytes_since conn events)) (kept read events) < CONNECTION_LIMIT * longest_request

-- a table has at most CONNECTION_LIMIT connections, each with fewer bytes than the longest request has
pub record IsSmall (table : Table) : Type 0 where
  pub count : map.len table ≤ CONNECTION_LIMIT
  pub bytes : (conn : ℕ) → IfSome (map.get table conn) (λ bytes. length bytes < longest_request)

-- so is the table that the calls leave behind each event
abbrev pub TablesAreSmall : Type 0
TablesAreSmall = (events : History) (done : List Completion) (table : Table) → Served events done table → IsSmall table

-- a request is completed by the piece that brings the place where it ends
abbrev pub RequestsEndInTheirPiece : Type 0
RequestsEndInTheirPiece =
    (read : List ℕ → Reading) (past : History) (conn : ℕ) (piece : List ℕ) (request : Request)
    → IsRight read (Piece conn piece ∷ past) → contains conn (kept read past) ≡ true → read_with read conn piece past ≡ Whole request
    → (n : ℕ) × EndsAt (bytes_since conn past ++ piece) request n × (length (bytes_since conn past) < n)

-- a piece may as well come as two
abbrev pub CutsChangeNothing : Type 0
CutsChangeNothing =
    (past later : History) (conn : ℕ) (front back : List ℕ) (done other : List Completion)
    → AreCompletions (later ++ Piece conn back ∷ Piece conn front ∷ past) done → AreCompletions (later ++ Piece conn (front ++ back) ∷ past) other
    → done ≡ other

-- a connection is completed as if it were alone, but for whether it was taken at each start
abbrev pub EachIsAsAlone : Type 0
EachIsAsAlone =
    (conn : ℕ) (read : List ℕ → Reading) (events : History) → IsRight read events → IsOrderly read events
    → IsRight read (own read conn events) × (completions_of conn (completions read events) ≡ completions read (own read conn events))

-- so what a connection brings depends on its own events alone, and on whether it was taken at each start
abbrev pub OthersChangeNothing : Type 0
OthersChangeNothing =
    (conn : ℕ) (events elsewhere : History) (read other : List ℕ → Reading)
    → IsRight read events → IsRight other elsewhere → IsOrderly read events → IsOrderly other elsewhere
    → own read conn events ≡ own other conn elsewhere
    → completions_of conn (completions read events) ≡ completions_of conn (completions other elsewhere)
