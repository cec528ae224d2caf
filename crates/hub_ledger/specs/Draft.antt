-- The IDs that a drafted record draws, and what it says.
use Rattle.std.specs.Prelude.{ℕ, List, Option, None, Some}
use Rattle.ledger_records.specs.declared.hub_record.Backed.{Backed}
use Rattle.ledger_records.specs.declared.hub_record.HubRecord.{HubRecord}
use Rattle.ledger_records.specs.declared.hub_record.HubRecord.TheVariants as kinds

-- the ID that goes out first: of a request upwards, or of an answer
abbrev pub first_id : HubRecord → Option (List ℕ)
first_id (kinds.Routed r) = Some r.request
first_id (kinds.Backed r) = Some r.message
first_id (kinds.Spoke r) = Some r.message

-- the relay state of a request upwards
abbrev pub second_id : HubRecord → Option (List ℕ)
second_id (kinds.Routed r) = Some r.relay
second_id other = None

-- the login that a record passes on
abbrev pub backed_in : HubRecord → Option Backed
backed_in (kinds.Backed r) = Some r
backed_in other = None
