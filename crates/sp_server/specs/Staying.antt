-- That what was opened is found as it was left: in the words of users.
use Rattle.std.specs.Prelude.{◌≡◌, ℕ, ◌<◌, true, false, List, ◌∷◌, ◌++◌, Contains, Some}
use Rattle.std.specs.List.{list_any}
use Rattle.ledger_records.specs.declared.sp_record.Asked.{Asked as AskedRecord}
use Rattle.ledger_records.specs.declared.sp_record.Opened.{Opened as OpenedRecord}
use Rattle.ledger_records.specs.declared.sp_record.SpRecord.{SpRecord}
use Rattle.ledger_records.specs.declared.sp_record.SpRecord.TheVariants as kinds
use Rattle.provider_node.specs.Staying.{WasAdded}
use Rattle.record_ledger.specs.Runs.{EndsBehind, added}
use Rattle.request_ledger.specs.Ledger.{Held}
use Rattle.request_ledger.specs.Record.{request_rules}
use Rattle.request_ledger.specs.RowsOf.{closed_if, closes, opened_row, opened_rows}
use Rattle.request_ledger.specs.Runs.{Event, Leads}
use Rattle.request_rows.specs.Rows.{is_spent, session_row}

-- A session that was opened stands in a ledger which came from another one by events, as it was left: its record was
-- added by one of them. Where it ends behind each of these moments it has its row, closed only where a record that was
-- added since closes it, and while none did and it has not ended this very row is found live by its token. And where
-- its request stood in the ledger to which it was added, this stays spent while it ends behind each of these moments,
-- so as long as it could be answered.
pub record IsAsLeft (moments : List ℕ) (start : Held) (r : OpenedRecord) (held : Held) : Type 0 where
  pub events : List Event
  pub leads : Leads start events held
  pub was : WasAdded request_rules start held events (kinds.Opened r)
  pub row : EndsBehind start.header.horizon moments r.until
      → Contains (opened_rows held.records) (closed_if (list_any (closes r.token) (added was.later))
      (opened_row false r))
  pub live : EndsBehind start.header.horizon moments r.until → list_any (closes r.token) (added was.later) ≡ false
      → (now : ℕ) → now < r.until → held.header.horizon < r.until
      → session_row (opened_rows held.records) r.token now held.header.horizon ≡ Some (opened_row false r)
  pub spent : (front behind : List SpRecord) (a : AskedRecord) → was.before.records ≡ front ++ kinds.Asked a ∷ behind
      → r.request ≡ a.request
      → EndsBehind start.header.horizon moments a.until → is_spent (opened_rows held.records) a.request ≡ true

-- its record is among these
abbrev pub WasOpened : List SpRecord → OpenedRecord → Type 0
WasOpened records r = Contains records (kinds.Opened r)
