-- What the records of a hub stand for: its rows.
use Rattle.std.specs.Prelude.{ℕ, true, List, [], ◌∷◌, ◌++◌, length, Option, None, Some}
use Rattle.ledger_records.specs.declared.hub_record.Routed.{Routed}
use Rattle.ledger_records.specs.declared.hub_record.Backed.{Backed}
use Rattle.ledger_records.specs.declared.hub_record.HubRecord.{HubRecord}
use Rattle.ledger_records.specs.declared.hub_record.HubRecord.TheVariants as kinds
use Rattle.ledger_records.specs.Fields.{key_byte}
use Rattle.request_rows.specs.declared.row.AskedRow.{AskedRow}
use Rattle.request_rows.specs.declared.row.OpenedRow.{OpenedRow}
use Rattle.hub_ledger.specs.declared.row.BelowRow.{BelowRow}

-- the rows of each kind, in the order of their records: of the requests upwards, of those below for which they were sent, and of the
-- logins that were passed on
pub record HubRows : Type 0 where
  pub asked : List AskedRow
  pub below : List BelowRow
  pub opened : List OpenedRow

-- A row has the fields of its record. A request upwards has no target of its own.
abbrev pub asked_row : Routed → AskedRow
asked_row r = record { request = r.request; relay = r.relay; target = []; until = r.until }

abbrev pub below_row : Routed → BelowRow
below_row r = record { peer = r.peer; consumer = r.consumer; request = r.below; relay = r.below_relay }

-- A login that was passed on is as a session that is closed: no token opens it.
abbrev pub opened_row : Backed → OpenedRow
opened_row r = record {
  request = r.request;
  issuer = r.issuer;
  assertion = r.above;
  assertion_until = r.assertion_until;
  token = [];
  name = r.name;
  index = Some r.index;
  attributes = r.attributes;
  until = r.until;
  closed = true;
  key = key_byte r.key;
}

-- two rows for each Routed
abbrev pub asked_rows : List HubRecord → List AskedRow
asked_rows [] = []
asked_rows (kinds.Routed r ∷ later) = asked_row r ∷ asked_rows later
asked_rows (other ∷ later) = asked_rows later

abbrev pub below_rows : List HubRecord → List BelowRow
below_rows [] = []
below_rows (kinds.Routed r ∷ later) = below_row r ∷ below_rows later
below_rows (other ∷ later) = below_rows later

-- and one for each Backed
abbrev pub opened_rows : List HubRecord → List OpenedRow
opened_rows [] = []
opened_rows (kinds.Backed r ∷ later) = opened_row r ∷ opened_rows later
opened_rows (other ∷ later) = opened_rows later

abbrev pub rows_of : List HubRecord → HubRows
rows_of records = record { asked = asked_rows records; below = below_rows records; opened = opened_rows records }

-- the rows after one record more
abbrev pub rows_after : HubRows → HubRecord → HubRows
rows_after rows (kinds.Routed r) =
    record rows { asked = rows.asked ++ asked_row r ∷ []; below = rows.below ++ below_row r ∷ [] }
rows_after rows (kinds.Backed r) = record rows { opened = rows.opened ++ opened_row r ∷ [] }
rows_after rows (kinds.Spoke r) = rows

-- a request upwards, and the one below for which it was sent
pub record Route : Type 0 where
  pub asked : AskedRow
  pub below : BelowRow

abbrev pub routes : List AskedRow → List BelowRow → List Route
routes [] below = []
routes (row ∷ asked) [] = []
routes (row ∷ asked) (to ∷ below) = record { asked = row; below = to } ∷ routes asked below

-- how many rows there are of a record's kind, where it has rows
abbrev pub rows_of_kind : HubRows → HubRecord → Option ℕ
rows_of_kind rows (kinds.Routed r) = Some (length rows.asked)
rows_of_kind rows (kinds.Backed r) = Some (length rows.opened)
rows_of_kind rows (kinds.Spoke r) = None
