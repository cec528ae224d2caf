-- Which payloads are records of a service provider's ledger.
use Rattle.std.specs.Prelude.{ℕ, ◌+◌, nat_le, Bool, true, ◌&&◌, not, List, [], ◌∷◌, ◌++◌, Result}
use Rattle.std.specs.List.{flat_map, list_all, list_any}
use Rattle.std.specs.Str.{bytes_eq}
use Rattle.ledger_records.specs.declared.sp_record.SpRecord.{SpRecord}
use Rattle.ledger_records.specs.declared.sp_record.SpRecord.TheVariants as kinds
use Rattle.ledger_records.specs.Found.{sp_record}
use Rattle.ledger_rules.specs.Numbers.{Drawn, above, are_fresh, is_xml_text}
use Rattle.request_rows.specs.declared.row.AskedRow.{AskedRow}
use Rattle.request_rows.specs.declared.row.OpenedRow.{OpenedRow}
use Rattle.request_rows.specs.declared.row.LeftRow.{LeftRow}
use Rattle.request_rows.specs.Rows.{is_spent}
use Rattle.ledger_records.specs.SpRecord.{sp_bytes}
use Rattle.record_ledger.specs.Rules.{RecordRules}
use Rattle.record_ledger.specs.Rules as any
use Rattle.request_ledger.specs.RowsOf.{SpRows, rows_of, rows_of_kind}
use Rattle.request_ledger.specs.Naming.{has_visible, names}
use Rattle.std.specs.Option.{option_to_list}
pub use Rattle.ledger_rules.specs.Texts.{of_attribute}
pub use Rattle.ledger_rules.specs.Moments.{LAST}

-- whether there is a row of this request
abbrev pub is_asked : List AskedRow → List ℕ → Bool
is_asked asked request = list_any (λ row. bytes_eq row.request request) asked

-- whether there is a session of this token that is not closed
abbrev pub is_open : List OpenedRow → List ℕ → Bool
is_open opened token = list_any (λ row. bytes_eq row.token token && not row.closed) opened

-- whether there is a logout of this request that is not confirmed
abbrev pub is_waiting : List LeftRow → List ℕ → Bool
is_waiting left request = list_any (λ row. bytes_eq row.request request && not row.confirmed) left

-- Each row that a record names is there, and is free for it: a request that is not spent, a session that is not closed, a
-- logout that is not confirmed.
abbrev pub is_free : SpRows → SpRecord → Bool
is_free rows (kinds.Asked r) = true
is_free rows (kinds.Opened r) = is_asked rows.asked r.request && not (is_spent rows.opened r.request)
is_free rows (kinds.Left r) = is_open rows.opened r.token
is_free rows (kinds.Ended r) = list_all (is_open rows.opened) r.tokens
is_free rows (kinds.Confirmed r) = is_waiting rows.left r.request

-- the IDs that a record draws
abbrev pub drawn : SpRecord → List Drawn
drawn (kinds.Asked r) = record { number = r.first; id = r.request } ∷ record { number = r.first + 1; id = r.relay } ∷ []
drawn (kinds.Opened r) = record { number = r.first; id = r.token } ∷ []
drawn (kinds.Left r) = record { number = r.first; id = r.request } ∷ []
drawn (kinds.Ended r) = record { number = r.first; id = r.message } ∷ []
drawn (kinds.Confirmed r) = []

-- the texts of a record but a relay state
abbrev pub texts : SpRecord → List (List ℕ)
texts (kinds.Asked r) = r.target ∷ r.request ∷ []
texts (kinds.Opened r) =
    r.request ∷ r.issuer ∷ r.assertion ∷ r.token ∷ r.name ∷ option_to_list r.index ++ flat_map of_attribute r.attributes
texts (kinds.Left r) = r.token ∷ r.request ∷ []
texts (kinds.Ended r) = r.message ∷ r.request ∷ r.tokens
texts (kinds.Confirmed r) = r.request ∷ []

abbrev pub moment_of : SpRecord → ℕ
moment_of (kinds.Asked r) = r.moment
moment_of (kinds.Opened r) = r.moment
moment_of (kinds.Left r) = r.moment
moment_of (kinds.Ended r) = r.moment
moment_of (kinds.Confirmed r) = r.moment

-- A record of the ledger where these are the rows, and this number is above all that were drawn: the rows that it names
-- are there and free, its numbers are greater than all before and below 2^63, each ID that it draws begins with its number,
-- a document may hold the characters of its texts, and it was made before the year 10000.
abbrev pub is_next : SpRows → ℕ → SpRecord → Bool
is_next rows next r =
    is_free rows r && are_fresh next (drawn r) && list_all is_xml_text (texts r) && nat_le (moment_of r) LAST

-- the least number above all that these records drew
abbrev pub next_of : List SpRecord → ℕ
next_of records = above (flat_map drawn records)

-- a record of the ledger behind these
unfoldable pub is_record : List SpRecord → SpRecord → Bool
is_record before r = is_next (rows_of before) (next_of before) r

-- What is said of these records.
abbrev pub request_rules : RecordRules SpRecord
request_rules = record {
  bytes = sp_bytes;
  found = sp_record;
  is_record = is_record;
  drawn = drawn;
  rows_of_kind = λ records r. rows_of_kind (rows_of records) r;
  has_visible = has_visible;
  names = names;
}

-- The records that the payloads of a journal of this version are, or the number of the first payload that is none.
abbrev pub records_of : ℕ → List (List ℕ) → Result (List SpRecord) ℕ
records_of = any.records_of request_rules

-- each is a record of the ledger behind those before it
abbrev pub AreRecordsAfter : List SpRecord → List SpRecord → Type 0
AreRecordsAfter = any.AreRecordsAfter request_rules

abbrev pub AreRecords : List SpRecord → Type 0
AreRecords = any.AreRecords request_rules
