-- Many connections over a list of events: which are kept, and what they bring.
--
-- A connection is taken at a Started where fewer than CONNECTION_LIMIT are kept, and it is kept until it is completed or Ended.
-- A Piece of a connection that is kept completes it where all its bytes since then are a whole request or are refused.
use Rattle.std.specs.Prelude.{◌≡◌, ℕ, ◌==◌, Bool, true, false, ◌&&◌, not, List, [], ◌∷◌, ◌++◌, length, filter, nat_lt, IsTrue, if◌then◌else◌}
use Rattle.std.specs.List.{list_any}
use Rattle.http_wire.specs.Requests.{Reading, Whole, More, Refused, Reads}
use Rattle.conn_table.specs.declared.limits.TheConstants.{CONNECTION_LIMIT}

-- an event of the connection with this number; one that had no memory for its Started or a Piece counts as Ended
pub data Event : Type 0 where
  Started : ℕ → Event
  Piece : ℕ → List ℕ → Event
  Ended : ℕ → Event

-- the events so far, the latest first
abbrev pub History : Type 0
History = List Event

-- a connection that was completed, and what its bytes are
pub record Completion : Type 0 where
  pub conn : ℕ
  pub reading : Reading

-- all bytes that a connection has brought since it started or ended
abbrev pub bytes_since : ℕ → History → List ℕ
bytes_since conn [] = []
bytes_since conn (Started other ∷ past) = if other == conn then [] else bytes_since conn past
bytes_since conn (Piece other bytes ∷ past) = bytes_since conn past ++ (if other == conn then bytes else [])
bytes_since conn (Ended other ∷ past) = if other == conn then [] else bytes_since conn past

-- the beginning of a request
abbrev pub is_more : Reading → Bool
is_more More = true
is_more (Whole request) = false
is_more (Refused status) = false

-- whether a connection is among these
abbrev pub contains : ℕ → List ℕ → Bool
contains conn conns = list_any (λ other. other == conn) conns

-- the others of these
abbrev pub without : ℕ → List ℕ → List ℕ
without conn conns = filter (λ other. not (other == conn)) conns

-- a connection is taken where fewer than CONNECTION_LIMIT are kept
abbrev pub taken : ℕ → List ℕ → List ℕ
taken conn conns = if nat_lt (length conns) CONNECTION_LIMIT then conn ∷ conns else conns

-- its start, for the connection alone: an end where it was not taken
abbrev pub start_of : ℕ → List ℕ → Event
start_of conn conns = if nat_lt (length conns) CONNECTION_LIMIT then Started conn else Ended conn

-- a piece: the connection is kept on where its bytes are the beginning of a request
abbrev pub kept_on : ℕ → Reading → List ℕ → List ℕ
kept_on conn reading conns = if is_more reading then conns else without conn conns

-- and else it is completed, if it was kept
abbrev pub completed : ℕ → Reading → List ℕ → List Completion
completed conn reading conns =
    if contains conn conns && not (is_more reading) then record { conn = conn; reading = reading } ∷ [] else []

-- `read` says of bytes what they are
module _ (read : List ℕ → Reading) where
  -- what all bytes of a connection are with a piece
  abbrev pub read_with : ℕ → List ℕ → History → Reading
  read_with conn piece past = read (bytes_since conn past ++ piece)

  -- the connections that are kept
  abbrev pub kept : History → List ℕ
  kept [] = []
  kept (Started conn ∷ past) = taken conn (kept past)
  kept (Piece conn piece ∷ past) = kept_on conn (read_with conn piece past) (kept past)
  kept (Ended conn ∷ past) = without conn (kept past)

  -- what was completed, in order
  abbrev pub completions : History → List Completion
  completions [] = []
  completions (Started conn ∷ past) = completions past
  completions (Piece conn piece ∷ past) = completions past ++ completed conn (read_with conn piece past) (kept past)
  completions (Ended conn ∷ past) = completions past

  -- where a connection that is kept brings a piece, `read` says what its bytes are
  abbrev pub IsRight : History → Type 0
  IsRight [] = Unit {0}
  IsRight (Started conn ∷ past) = IsRight past
  IsRight (Piece conn piece ∷ past) =
      IsRight past × (IsTrue (contains conn (kept past)) → Reads (bytes_since conn past ++ piece) (read_with conn piece past))
  IsRight (Ended conn ∷ past) = IsRight past

  -- no connection is started that is kept
  abbrev pub IsOrderly : History → Type 0
  IsOrderly [] = Unit {0}
  IsOrderly (Started conn ∷ past) = IsOrderly past × (contains conn (kept past) ≡ false)
  IsOrderly (Piece conn piece ∷ past) = IsOrderly past
  IsOrderly (Ended conn ∷ past) = IsOrderly past

  -- the events of one connection, where a start that was not taken counts as an end
  abbrev pub own : ℕ → History → History
  own conn [] = []
  own conn (Started other ∷ past) = (if other == conn then start_of conn (kept past) ∷ [] else []) ++ own conn past
  own conn (Piece other piece ∷ past) = (if other == conn then Piece conn piece ∷ [] else []) ++ own conn past
  own conn (Ended other ∷ past) = (if other == conn then Ended conn ∷ [] else []) ++ own conn past

-- the completions of one connection
abbrev pub completions_of : ℕ → List Completion → List Completion
completions_of conn list = filter (λ completion. completion.conn == conn) list

-- these were completed by the events
abbrev pub AreCompletions : History → List Completion → Type 0
AreCompletions events list = (read : List ℕ → Reading) × IsRight read events × (list ≡ completions read events)
