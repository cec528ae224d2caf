-- What happens to a ledger over a whole run, with crashes between: records that are added, compactions, and openings, which
-- make a journal of version 1 anew.
use Rattle.std.specs.Prelude.{◌≢◌, ℕ, ◌<◌, List, [], ◌∷◌, ◌++◌, length, map, slice_index_or}
use Rattle.ledger_records.specs.declared.sp_record.SpRecord.{SpRecord}
use Rattle.ledger_records.specs.declared.sp_record.SpRecord.TheVariants as kinds
use Rattle.request_rows.specs.declared.row.OpenedRow.{OpenedRow}
use Rattle.request_ledger.specs.RowsOf.{opened_rows}
use Rattle.record_ledger.specs.Runs as any
use Rattle.record_ledger.specs.Runs.{Adds}
use Rattle.request_ledger.specs.Record.{request_rules}
use Rattle.request_ledger.specs.Ledger.{Held}

abbrev pub Event : Type 0
Event = any.Event SpRecord

-- the events that led from one ledger to another, the latest first
abbrev pub Leads : Held → List Event → Held → Type 0
Leads = any.Leads request_rules

-- the requests for which sessions were opened: those of the records at the start, and of those that were added since, whether
-- they are still kept or not
abbrev pub request_opened : SpRecord → List (List ℕ)
request_opened (kinds.Opened r) = r.request ∷ []
request_opened other = []

abbrev pub requests_opened : List SpRecord → List (List ℕ)
requests_opened records = map (λ (row : OpenedRow). row.request) (opened_rows records)

abbrev pub requests_added : List Event → List (List ℕ)
requests_added [] = []
requests_added (Adds r ∷ past) = request_opened r ++ requests_added past
requests_added (other ∷ past) = requests_added past

abbrev pub requests_of_run : Held → List Event → List (List ℕ)
requests_of_run start events = requests_added events ++ requests_opened start.records

-- no text stands twice
abbrev pub AreDifferent : List (List ℕ) → Type 0
AreDifferent texts = (i j : ℕ) → i < j → j < length texts → slice_index_or texts i [] ≢ slice_index_or texts j []
