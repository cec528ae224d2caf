-- What the records of a service provider stand for: its rows.
use Rattle.std.specs.Prelude.{ℕ, Bool, false, ◌||◌, List, [], ◌∷◌, ◌++◌, map, length, Option, None, Some}
use Rattle.std.specs.List.{list_any}
use Rattle.std.specs.Str.{bytes_eq}
use Rattle.ledger_records.specs.declared.sp_record.Asked.{Asked}
use Rattle.ledger_records.specs.declared.sp_record.Opened.{Opened}
use Rattle.ledger_records.specs.declared.sp_record.Left.{Left}
use Rattle.ledger_records.specs.declared.sp_record.SpRecord.{SpRecord}
use Rattle.ledger_records.specs.declared.sp_record.SpRecord.TheVariants as kinds
use Rattle.ledger_records.specs.Fields.{key_byte}
use Rattle.request_rows.specs.declared.row.AskedRow.{AskedRow}
use Rattle.request_rows.specs.declared.row.OpenedRow.{OpenedRow}
use Rattle.request_rows.specs.declared.row.LeftRow.{LeftRow}
pub use Rattle.ledger_rules.specs.Texts.{is_among}

-- the rows of each kind, in the order of their records
pub record SpRows : Type 0 where
  pub asked : List AskedRow
  pub opened : List OpenedRow
  pub left : List LeftRow

-- a row has the fields of its record
abbrev pub asked_row : Asked → AskedRow
asked_row r = record { request = r.request; relay = r.relay; target = r.target; until = r.until }

abbrev pub opened_row : Bool → Opened → OpenedRow
opened_row closed r = record {
  request = r.request;
  issuer = r.issuer;
  assertion = r.assertion;
  assertion_until = r.assertion_until;
  token = r.token;
  name = r.name;
  index = r.index;
  attributes = r.attributes;
  until = r.until;
  closed = closed;
  key = key_byte r.key;
}

abbrev pub left_row : Bool → Left → LeftRow
left_row confirmed r = record { request = r.request; until = r.until; confirmed = confirmed }

-- whether a record closes the session of this token: a Left of it, or an Ended that lists it
abbrev pub closes : List ℕ → SpRecord → Bool
closes token (kinds.Left r) = bytes_eq r.token token
closes token (kinds.Ended r) = is_among token r.tokens
closes token other = false

-- whether a record confirms the logout of this request
abbrev pub confirms : List ℕ → SpRecord → Bool
confirms request (kinds.Confirmed r) = bytes_eq r.request request
confirms request other = false

-- an asked row for each Asked
abbrev pub asked_rows : List SpRecord → List AskedRow
asked_rows [] = []
asked_rows (kinds.Asked r ∷ later) = asked_row r ∷ asked_rows later
asked_rows (other ∷ later) = asked_rows later

-- an opened row for each Opened, closed where a later record closes the session of its token
abbrev pub opened_rows : List SpRecord → List OpenedRow
opened_rows [] = []
opened_rows (kinds.Opened r ∷ later) = opened_row (list_any (closes r.token) later) r ∷ opened_rows later
opened_rows (other ∷ later) = opened_rows later

-- a row of a logout for each Left, confirmed where a later record confirms it
abbrev pub left_rows : List SpRecord → List LeftRow
left_rows [] = []
left_rows (kinds.Left r ∷ later) = left_row (list_any (confirms r.request) later) r ∷ left_rows later
left_rows (other ∷ later) = left_rows later

abbrev pub rows_of : List SpRecord → SpRows
rows_of records = record { asked = asked_rows records; opened = opened_rows records; left = left_rows records }

-- The rows after one record more: a row more, sessions closed, or a logout confirmed.
abbrev pub closed_if : Bool → OpenedRow → OpenedRow
closed_if now row = record row { closed = row.closed || now }

abbrev pub closed_where : (OpenedRow → Bool) → List OpenedRow → List OpenedRow
closed_where test rows = map (λ row. closed_if (test row) row) rows

abbrev pub confirmed_if : Bool → LeftRow → LeftRow
confirmed_if now row = record row { confirmed = row.confirmed || now }

abbrev pub confirmed_where : (LeftRow → Bool) → List LeftRow → List LeftRow
confirmed_where test rows = map (λ row. confirmed_if (test row) row) rows

abbrev pub rows_after : SpRows → SpRecord → SpRows
rows_after rows (kinds.Asked r) = record rows { asked = rows.asked ++ asked_row r ∷ [] }
rows_after rows (kinds.Opened r) = record rows { opened = rows.opened ++ opened_row false r ∷ [] }
rows_after rows (kinds.Left r) =
    record rows { opened = closed_where (λ row. bytes_eq r.token row.token) rows.opened; left = rows.left ++ left_row false r ∷ [] }
rows_after rows (kinds.Ended r) = record rows { opened = closed_where (λ row. is_among row.token r.tokens) rows.opened }
rows_after rows (kinds.Confirmed r) = record rows { left = confirmed_where (λ row. bytes_eq r.request row.request) rows.left }

-- how many rows there are of a record's kind, where it has rows
abbrev pub rows_of_kind : SpRows → SpRecord → Option ℕ
rows_of_kind rows (kinds.Asked r) = Some (length rows.asked)
rows_of_kind rows (kinds.Opened r) = Some (length rows.opened)
rows_of_kind rows (kinds.Left r) = Some (length rows.left)
rows_of_kind rows other = None
