-- The laws of a ledger.
use Rattle.std.specs.Prelude.{◌≡◌, ℕ, ◌≤◌, List, IsSome, Contains}
use Rattle.ledger_records.specs.declared.sp_record.SpRecord.{SpRecord}
use Rattle.request_rows.specs.Rows.{asked_row, is_spent, is_seen, session_row}
use Rattle.record_ledger.specs.Laws as any
use Rattle.request_ledger.specs.RowsOf.{rows_of, opened_rows, closed_if, closes}
use Rattle.request_ledger.specs.Record.{AreRecords, request_rules}
use Rattle.request_ledger.specs.Ledger.{Held}
use Rattle.request_ledger.specs.Drafts.{ending, is_waiting_now}
use Rattle.request_ledger.specs.Compacting.{IsCompacted}
use Rattle.request_ledger.specs.Runs.{Event, Leads, AreDifferent, requests_opened, requests_of_run}
use Rattle.std.specs.List.{list_any}
use Rattle.request_rows.specs.declared.row.OpenedRow.{OpenedRow}
use Rattle.record_ledger.specs.Runs.{added, CompactsAt, EndsBehind}

-- At a moment the two rows with their horizons answer all that is asked of them alike: which request was asked, whether it is
-- spent, whether an assertion was seen, which session lives, which sessions an answered logout ends, and which logout waits.
pub record AnswerAlike (now : ℕ) (one other : Held) : Type 0 where
  pub asked : (request : List ℕ) → asked_row (rows_of one.records).asked request now one.header.horizon ≡ asked_row (rows_of other.records).asked request now other.header.horizon
  pub spent : (request : List ℕ) → IsSome (asked_row (rows_of one.records).asked request now one.header.horizon) → is_spent (rows_of one.records).opened request ≡ is_spent (rows_of other.records).opened request
  pub seen : (issuer assertion : List ℕ) → is_seen (rows_of one.records).opened issuer assertion now one.header.horizon ≡ is_seen (rows_of other.records).opened issuer assertion now other.header.horizon
  pub session : (token : List ℕ) → session_row (rows_of one.records).opened token now one.header.horizon ≡ session_row (rows_of other.records).opened token now other.header.horizon
  pub ending : (issuer name : List ℕ) (indexes : List (List ℕ)) → ending now one.header.horizon issuer name indexes (rows_of one.records).opened ≡ ending now other.header.horizon issuer name indexes (rows_of other.records).opened
  pub waiting : (request : List ℕ) → is_waiting_now (rows_of one.records).left request now one.header.horizon ≡ is_waiting_now (rows_of other.records).left request now other.header.horizon

-- what an image stands for has records of the ledger, each behind those before it
abbrev pub ImagesHoldRecords : Type 0
ImagesHoldRecords = any.ImagesHoldRecords request_rules

-- what is kept of records of a ledger are records of a ledger
abbrev pub KeptAreRecords : Type 0
KeptAreRecords = any.KeptAreRecords request_rules

-- from the moment of a compaction on it changes no answer
abbrev pub CompactionsChangeNoAnswer : Type 0
CompactionsChangeNoAnswer = (now later : ℕ) (old new : Held) → AreRecords old.records → IsCompacted now old new → now ≤ later → AnswerAlike later new old

-- no ledger has two sessions of one request
abbrev pub NoRequestOpensTwice : Type 0
NoRequestOpensTwice = (records : List SpRecord) → AreRecords records → AreDifferent (requests_opened records)

-- nor has a whole run, the records that were left out since included
abbrev pub NoRequestOpensTwiceInARun : Type 0
NoRequestOpensTwiceInARun = (start held : Held) (events : List Event) → AreRecords start.records → Leads start events held → AreDifferent (requests_of_run start events)

-- A session that is kept, and ends behind each moment at which a run compacts the ledger, has a row to the end of the run: closed
-- where it was, or where a record that was added since closes it.
abbrev pub SessionsStay : Type 0
SessionsStay =
    (start held : Held) (events : List Event) (moments : List ℕ) (row : OpenedRow) → Leads start events held → CompactsAt moments events
    → Contains (opened_rows start.records) row → EndsBehind start.header.horizon moments row.until
    → Contains (opened_rows held.records) (closed_if (list_any (closes row.token) (added events)) row)
