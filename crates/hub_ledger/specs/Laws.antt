-- The laws of a ledger.
use Rattle.std.specs.Prelude.{◌≡◌, ℕ, ◌≤◌, List, IsSome, Some}
use Rattle.ledger_records.specs.declared.hub_record.HubRecord.{HubRecord}
use Rattle.request_rows.specs.Rows.{asked_row, is_spent, is_seen}
use Rattle.record_ledger.specs.Laws as any
use Rattle.hub_ledger.specs.RowsOf.{Route, rows_of}
use Rattle.hub_ledger.specs.Drafts.{IsXmlBelow}
use Rattle.hub_ledger.specs.Record.{AreRecords, hub_rules}
use Rattle.hub_ledger.specs.Ledger.{Held}
use Rattle.hub_ledger.specs.Finding.{routed_row}
use Rattle.hub_ledger.specs.Compacting.{IsCompacted}
use Rattle.hub_ledger.specs.Runs.{Event, Leads, AreDifferent, requests_backed, requests_of_run}

-- At a moment the two ledgers answer all that is asked of them alike: which request was sent upwards, whether it is spent, whether an
-- assertion was seen, and for which request below it was sent.
pub record AnswerAlike (now : ℕ) (one other : Held) : Type 0 where
  pub asked : (request : List ℕ) → asked_row (rows_of one.records).asked request now one.header.horizon
      ≡ asked_row (rows_of other.records).asked request now other.header.horizon
  pub spent : (request : List ℕ) → IsSome (asked_row (rows_of one.records).asked request now one.header.horizon)
      → is_spent (rows_of one.records).opened request ≡ is_spent (rows_of other.records).opened request
  pub seen : (issuer assertion : List ℕ) → is_seen (rows_of one.records).opened issuer assertion now one.header.horizon
      ≡ is_seen (rows_of other.records).opened issuer assertion now other.header.horizon
  pub routed : (request : List ℕ) → routed_row (rows_of one.records) request now one.header.horizon
      ≡ routed_row (rows_of other.records) request now other.header.horizon

-- what an image stands for has records of the ledger, each behind those before it
abbrev pub ImagesHoldRecords : Type 0
ImagesHoldRecords = any.ImagesHoldRecords hub_rules

-- what is kept of records of a ledger are records of a ledger
abbrev pub KeptAreRecords : Type 0
KeptAreRecords = any.KeptAreRecords hub_rules

-- from the moment of a compaction on it changes no answer
abbrev pub CompactionsChangeNoAnswer : Type 0
CompactionsChangeNoAnswer =
    (now later : ℕ) (old new : Held) → AreRecords old.records → IsCompacted now old new → now ≤ later → AnswerAlike later new old

-- no ledger has two logins that one request backs
abbrev pub NoRequestBacksTwice : Type 0
NoRequestBacksTwice = (records : List HubRecord) → AreRecords records → AreDifferent (requests_backed records)

-- nor has a whole run, the records that were left out since included
abbrev pub NoRequestBacksTwiceInARun : Type 0
NoRequestBacksTwiceInARun =
    (start held : Held) (events : List Event) → AreRecords start.records → Leads start events held → AreDifferent (requests_of_run start events)

-- a document may hold the texts of each request below that is found by the one that was sent upwards for it
abbrev pub TheTextsOfARoutedRequestMayStand : Type 0
TheTextsOfARoutedRequestMayStand =
    (held : Held) (request : List ℕ) (now : ℕ) (route : Route) → AreRecords held.records
    → routed_row (rows_of held.records) request now held.header.horizon ≡ Some route → IsXmlBelow route.below
