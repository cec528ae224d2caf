-- That a session which was begun is found as it was left: in the words of users.
use Rattle.std.specs.Prelude.{◌≡◌, ℕ, ◌<◌, false, List, Contains, Some}
use Rattle.std.specs.List.{list_any}
use Rattle.ledger_records.specs.declared.idp_record.Issued.{Issued}
use Rattle.ledger_records.specs.declared.idp_record.IdpRecord.{IdpRecord}
use Rattle.ledger_records.specs.declared.idp_record.IdpRecord.TheVariants as kinds
use Rattle.provider_node.specs.Staying.{WasAdded}
use Rattle.record_ledger.specs.Runs.{EndsBehind, Event, Leads, added}
use Rattle.idp_rows.specs.Finding.{session_found}
use Rattle.idp_ledger.specs.Ledger.{Held}
use Rattle.idp_ledger.specs.Record.{idp_rules}
use Rattle.idp_rows.specs.RowsOf.{ended_if, ends, session_row, session_rows}

-- A session that a login began stands in a ledger which came from another one by events, as it was left: its record was
-- added by one of them. Where it ends behind each of these moments it has its row, ended only where a record that was
-- added since ends it, and while none did and it has not ended its cookie finds that row: the session of this user,
-- with its attributes and its index.
pub record IsAsLeft (moments : List ℕ) (start : Held) (r : Issued) (held : Held) : Type 0 where
  pub events : List (Event IdpRecord)
  pub leads : Leads idp_rules start events held
  pub was : WasAdded idp_rules start held events (kinds.Issued r)
  pub row : EndsBehind start.header.horizon moments r.session_end
      → Contains (session_rows held.records) (ended_if (list_any (ends r.cookie) (added was.later))
      (session_row false r))
  pub live : EndsBehind start.header.horizon moments r.session_end → list_any (ends r.cookie) (added was.later) ≡ false
      → (now : ℕ) → now < r.session_end → held.header.horizon < r.session_end
      → session_found (session_rows held.records) r.cookie now held.header.horizon ≡ Some (session_row false r)

-- the record of a login that was pending, which began a session
pub record Began (records : List IdpRecord) (r : Issued) : Type 0 where
  pub there : Contains records (kinds.Issued r)
  pub pending : List ℕ
  pub has : r.pending ≡ Some pending
