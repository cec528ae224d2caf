-- The laws of a ledger.
use Rattle.std.specs.Prelude.{◌≡◌, ℕ, ◌≤◌, false, List, ◌∷◌, ◌++◌, length, Option, None, Some, IsSome, slice_get, Contains}
use Rattle.ledger_records.specs.declared.idp_record.Issued.{Issued}
use Rattle.ledger_records.specs.declared.idp_round.Round.{Round}
use Rattle.ledger_records.specs.declared.idp_record.IdpRecord.{IdpRecord}
use Rattle.ledger_records.specs.declared.idp_record.IdpRecord.TheVariants as kinds
use Rattle.round_rows.specs.declared.row.RoundRow.{RoundRow}
use Rattle.idp_rows.specs.declared.row.PendingRow.{PendingRow}
use Rattle.idp_rows.specs.declared.row.SessionRow.{SessionRow}
use Rattle.record_ledger.specs.Laws as any
use Rattle.idp_ledger.specs.Drafts.{AreLive}
use Rattle.idp_rows.specs.Finding.{pending_found, session_found, ending, is_partial, last_peer, is_waiting_now, parts_of, round_found, turn_found}
use Rattle.idp_rows.specs.RoundsOf.{round_row, round_behind, round_rows, answers, confirmed_all, is_confirmed}
use Rattle.idp_rows.specs.RowsOf.{IdpRows, rows_of, session_rows, ended_if, ends}
use Rattle.idp_ledger.specs.Record.{AreRecords, idp_rules}
use Rattle.idp_ledger.specs.Ledger.{Held}
use Rattle.record_ledger.specs.Compacting.{IsCompacted}
use Rattle.std.specs.List.{list_any}
use Rattle.record_ledger.specs.Runs.{Event, Leads, added, CompactsAt, EndsBehind}

-- At a moment the two rows with their horizons answer all that is asked of them alike: which login is pending, which session
-- lives, which sessions an answered logout ends and whether it is partial, to which peer the last assertion in a live session
-- went, what live sessions were used for, which logout waits, and which round waits for a request, also by whose turn has come.
pub record AnswerAlike (now : ℕ) (one other : Held) : Type 0 where
  pub pending : (pending : List ℕ) → pending_found (rows_of one.records).pendings pending now one.header.horizon ≡ pending_found (rows_of other.records).pendings pending now other.header.horizon
  pub session : (cookie : List ℕ) → session_found (rows_of one.records).sessions cookie now one.header.horizon ≡ session_found (rows_of other.records).sessions cookie now other.header.horizon
  pub ending : (peer name : List ℕ) (indexes : List (List ℕ)) → ending now one.header.horizon peer name indexes (rows_of one.records) ≡ ending now other.header.horizon peer name indexes (rows_of other.records)
  pub partial : (peer name : List ℕ) (indexes : List (List ℕ)) → is_partial now one.header.horizon peer name indexes (rows_of one.records) ≡ is_partial now other.header.horizon peer name indexes (rows_of other.records)
  pub last_peer : (cookie : List ℕ) → IsSome (session_found (rows_of one.records).sessions cookie now one.header.horizon) → last_peer (rows_of one.records).issues cookie ≡ last_peer (rows_of other.records).issues cookie
  pub parts : (cookies : List (List ℕ)) → AreLive (rows_of one.records).sessions cookies now one.header.horizon
      → parts_of cookies (rows_of one.records).issues ≡ parts_of cookies (rows_of other.records).issues
  pub waiting : (request : List ℕ) → is_waiting_now (rows_of one.records).lefts request now one.header.horizon ≡ is_waiting_now (rows_of other.records).lefts request now other.header.horizon
  pub round : (request : List ℕ) → round_found (rows_of one.records).rounds request now one.header.horizon ≡ round_found (rows_of other.records).rounds request now other.header.horizon
  pub turn : (request peer : List ℕ) → turn_found (rows_of one.records).rounds request peer now one.header.horizon ≡ turn_found (rows_of other.records).rounds request peer now other.header.horizon

-- what an image stands for has records of the ledger, each behind those before it
abbrev pub ImagesHoldRecords : Type 0
ImagesHoldRecords = any.ImagesHoldRecords idp_rules

-- what is kept of records of a ledger are records of a ledger
abbrev pub KeptAreRecords : Type 0
KeptAreRecords = any.KeptAreRecords idp_rules

-- from the moment of a compaction on it changes no answer
abbrev pub CompactionsChangeNoAnswer : Type 0
CompactionsChangeNoAnswer = (now later : ℕ) (old new : Held) → AreRecords old.records → IsCompacted idp_rules now old new → now ≤ later → AnswerAlike later new old

-- What an Issued was issued for: a login that was pending and not used before, or a session that was not ended.
pub record HasPending (rows : IdpRows) (pending : List ℕ) : Type 0 where
  pub place : ℕ
  pub row : PendingRow
  pub there : slice_get rows.pendings place ≡ Some row
  pub is : row.pending ≡ pending
  pub unused : row.used ≡ false

pub record HasSession (rows : IdpRows) (cookie : List ℕ) : Type 0 where
  pub place : ℕ
  pub row : SessionRow
  pub there : slice_get rows.sessions place ≡ Some row
  pub is : row.cookie ≡ cookie
  pub unended : row.ended ≡ false

abbrev pub HasCause : IdpRows → Option (List ℕ) → List ℕ → Type 0
HasCause rows None cookie = HasSession rows cookie
HasCause rows (Some pending) cookie = HasPending rows pending

-- each Issued of records of a ledger has its cause in the rows of the records before it
abbrev pub EachIssueHasItsCause : Type 0
EachIssueHasItsCause =
    (before later : List IdpRecord) (r : Issued) → AreRecords (before ++ kinds.Issued r ∷ later) → HasCause (rows_of before) r.pending r.cookie

-- A session that is kept, and ends behind each moment at which a run compacts the ledger, has a row to the end of the run: ended
-- where it was, or where a record that was added since ends it.
abbrev pub SessionsStay : Type 0
SessionsStay =
    (start held : Held) (events : List (Event IdpRecord)) (moments : List ℕ) (row : SessionRow) → Leads idp_rules start events held → CompactsAt moments events
    → Contains (session_rows start.records) row → EndsBehind start.header.horizon moments row.until
    → Contains (session_rows held.records) (ended_if (list_any (ends row.cookie) (added events)) row)

-- What is counted in the row of a round are the answers to it, and those of them that confirm; so the counts say whether all
-- confirmed.
pub record IsCounted (r : Round) (later : List IdpRecord) : Type 0 where
  pub told : (round_behind (round_row r) later).told ≡ length (answers r later)
  pub confirmed : is_confirmed (round_behind (round_row r) later) ≡ confirmed_all r later

abbrev pub RoundsAreCounted : Type 0
RoundsAreCounted = (r : Round) (later : List IdpRecord) → IsCounted r later

-- each row of a round is that of a Round, behind the records that came later
pub record IsRowOf (records : List IdpRecord) (row : RoundRow) : Type 0 where
  pub before : List IdpRecord
  pub begun : Round
  pub later : List IdpRecord
  pub are : records ≡ before ++ kinds.Round begun ∷ later
  pub is : row ≡ round_behind (round_row begun) later

abbrev pub EachRoundHasItsRecord : Type 0
EachRoundHasItsRecord = (records : List IdpRecord) (row : RoundRow) → Contains (round_rows records) row → IsRowOf records row
