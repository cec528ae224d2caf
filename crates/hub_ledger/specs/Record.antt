-- Which payloads are records of a hub's ledger.
use Rattle.std.specs.Prelude.{ℕ, ◌+◌, nat_le, Bool, true, false, ◌&&◌, not, List, [], ◌∷◌, Option, None, Some}
use Rattle.std.specs.List.{flat_map, list_all, list_any}
use Rattle.std.specs.Str.{bytes_eq}
use Rattle.ledger_records.specs.declared.hub_record.Backed.{Backed}
use Rattle.ledger_records.specs.declared.hub_record.HubRecord.{HubRecord}
use Rattle.ledger_records.specs.declared.hub_record.HubRecord.TheVariants as kinds
use Rattle.ledger_records.specs.HubFound.{hub_record}
use Rattle.ledger_records.specs.HubRecord.{hub_bytes}
use Rattle.ledger_rules.specs.Numbers.{Drawn, above, are_fresh, is_xml_text}
use Rattle.request_rows.specs.declared.row.AskedRow.{AskedRow}
use Rattle.request_rows.specs.Rows.{is_spent}
use Rattle.record_ledger.specs.Rules.{RecordRules}
use Rattle.record_ledger.specs.Rules as any
use Rattle.hub_ledger.specs.declared.row.BelowRow.{BelowRow}
use Rattle.hub_ledger.specs.RowsOf.{HubRows, routes, rows_of, rows_of_kind}
use Rattle.hub_ledger.specs.Naming.{has_visible, names}
pub use Rattle.ledger_rules.specs.Texts.{of_attribute}
pub use Rattle.ledger_rules.specs.Moments.{LAST}

-- whether two texts that may be absent are the same
abbrev pub same_option : Option (List ℕ) → Option (List ℕ) → Bool
same_option None None = true
same_option None (Some other) = false
same_option (Some one) None = false
same_option (Some one) (Some other) = bytes_eq one other

-- whether a login is passed on to the request below that a row holds: to its provider and address, with its ID and relay state
abbrev pub goes_to : Backed → BelowRow → Bool
goes_to r row =
    bytes_eq row.peer r.peer && bytes_eq row.consumer r.consumer && bytes_eq row.request r.below && same_option row.relay r.below_relay

-- whether there is a row of the request upwards that a login answers, and the login is passed on to the request below for which it was
-- sent
abbrev pub is_routed : List AskedRow → List BelowRow → Backed → Bool
is_routed asked below r = list_any (λ route. bytes_eq route.asked.request r.request && goes_to r route.below) (routes asked below)

-- Each row that a record names is there, and is free for it: a request that is not spent.
abbrev pub is_free : HubRows → HubRecord → Bool
is_free rows (kinds.Backed r) = is_routed rows.asked rows.below r && not (is_spent rows.opened r.request)
is_free rows other = true

-- the IDs that a record draws
abbrev pub drawn : HubRecord → List Drawn
drawn (kinds.Routed r) = record { number = r.first; id = r.request } ∷ record { number = r.first + 1; id = r.relay } ∷ []
drawn (kinds.Backed r) =
    record { number = r.first; id = r.assertion } ∷ record { number = r.first + 1; id = r.message }
    ∷ record { number = r.first + 2; id = r.index } ∷ []
drawn (kinds.Spoke r) = record { number = r.first; id = r.message } ∷ []

-- the texts of a record but relay states
abbrev pub texts : HubRecord → List (List ℕ)
texts (kinds.Routed r) = r.request ∷ r.peer ∷ r.consumer ∷ r.below ∷ []
texts (kinds.Backed r) =
    r.request ∷ r.issuer ∷ r.above ∷ r.assertion ∷ r.message ∷ r.index ∷ r.name ∷ r.peer ∷ r.consumer ∷ r.below
    ∷ flat_map of_attribute r.attributes
texts (kinds.Spoke r) = r.message ∷ r.request ∷ r.peer ∷ []

-- when a record was made, and when the login of a Backed ends
abbrev pub moments : HubRecord → List ℕ
moments (kinds.Routed r) = r.moment ∷ []
moments (kinds.Backed r) = r.moment ∷ r.until ∷ []
moments (kinds.Spoke r) = r.moment ∷ []

-- A record of the ledger where these are the rows, and this number is above all that were drawn: the rows that it names are there and
-- free, its numbers are greater than all before and below 2^63, each ID that it draws begins with its number, a document may hold the
-- characters of its texts, and it was made before the year 10000, as the login of a Backed ends.
abbrev pub is_next : HubRows → ℕ → HubRecord → Bool
is_next rows next r =
    is_free rows r && are_fresh next (drawn r) && list_all is_xml_text (texts r) && list_all (λ moment. nat_le moment LAST) (moments r)

-- the least number above all that these records drew
abbrev pub next_of : List HubRecord → ℕ
next_of records = above (flat_map drawn records)

-- a record of the ledger behind these
unfoldable pub is_record : List HubRecord → HubRecord → Bool
is_record before r = is_next (rows_of before) (next_of before) r

-- What is said of these records. Both versions of a journal have one form of them.
abbrev pub hub_rules : RecordRules HubRecord
hub_rules = record {
  bytes = λ version. hub_bytes;
  found = λ version. hub_record;
  is_record = is_record;
  drawn = drawn;
  rows_of_kind = λ records r. rows_of_kind (rows_of records) r;
  has_visible = has_visible;
  names = names;
}

-- each is a record of the ledger behind those before it
abbrev pub AreRecordsAfter : List HubRecord → List HubRecord → Type 0
AreRecordsAfter = any.AreRecordsAfter hub_rules

abbrev pub AreRecords : List HubRecord → Type 0
AreRecords = any.AreRecords hub_rules
