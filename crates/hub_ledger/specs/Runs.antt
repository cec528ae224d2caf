-- What happens to a ledger over a whole run, with crashes between: records that are added, compactions, and openings, which make a
-- journal of version 1 anew.
use Rattle.std.specs.Prelude.{ℕ, List, [], ◌∷◌, ◌++◌, map}
use Rattle.ledger_records.specs.declared.hub_record.HubRecord.{HubRecord}
use Rattle.ledger_records.specs.declared.hub_record.HubRecord.TheVariants as kinds
use Rattle.request_rows.specs.declared.row.OpenedRow.{OpenedRow}
use Rattle.hub_ledger.specs.RowsOf.{opened_rows}
use Rattle.record_ledger.specs.Runs as any
pub use Rattle.request_ledger.specs.Runs.{AreDifferent}
use Rattle.record_ledger.specs.Runs.{Adds}
use Rattle.hub_ledger.specs.Record.{hub_rules}
use Rattle.hub_ledger.specs.Ledger.{Held}

abbrev pub Event : Type 0
Event = any.Event HubRecord

-- the events that led from one ledger to another, the latest first
abbrev pub Leads : Held → List Event → Held → Type 0
Leads = any.Leads hub_rules

-- the requests upwards that backed logins: those of the records at the start, and of those that were added since, whether they are
-- still kept or not
abbrev pub request_backed : HubRecord → List (List ℕ)
request_backed (kinds.Backed r) = r.request ∷ []
request_backed other = []

abbrev pub requests_backed : List HubRecord → List (List ℕ)
requests_backed records = map (λ (row : OpenedRow). row.request) (opened_rows records)

abbrev pub requests_added : List Event → List (List ℕ)
requests_added [] = []
requests_added (Adds r ∷ past) = request_backed r ++ requests_added past
requests_added (other ∷ past) = requests_added past

abbrev pub requests_of_run : Held → List Event → List (List ℕ)
requests_of_run start events = requests_added events ++ requests_backed start.records
