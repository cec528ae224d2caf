-- Which login of the provider above is passed on for which request: a Backed names the Routed of the request upwards that it answers.
use Rattle.std.specs.Prelude.{◌≡◌, ℕ, List, [], ◌∷◌, ◌++◌, map, Contains, if◌then◌else◌}
use Rattle.std.specs.Str.{bytes_eq}
use Rattle.ledger_records.specs.declared.hub_record.Backed.{Backed}
use Rattle.ledger_records.specs.declared.hub_record.Routed.{Routed}
use Rattle.ledger_records.specs.declared.hub_record.HubRecord.{HubRecord}
use Rattle.ledger_records.specs.declared.hub_record.HubRecord.TheVariants as kinds
use Rattle.hub_ledger.specs.Record.{AreRecords}

-- a request upwards, and the login that answered it
pub record Backing : Type 0 where
  pub routed : Routed
  pub backed : Backed

-- the Routed records of a request upwards
abbrev pub routed_of : (request : List ℕ) → List HubRecord → List Routed
routed_of request [] = []
routed_of request (kinds.Routed r ∷ later) =
    if bytes_eq r.request request then r ∷ routed_of request later else routed_of request later
routed_of request (other ∷ later) = routed_of request later

-- The pairs of a Routed record of some records and the Backed record, of others, that names it; and those of a ledger.
abbrev pub backings_among : List HubRecord → List HubRecord → List Backing
backings_among all [] = []
backings_among all (kinds.Backed b ∷ later) =
    map (λ r. record { routed = r; backed = b }) (routed_of b.request all) ++ backings_among all later
backings_among all (other ∷ later) = backings_among all later

abbrev pub backings : List HubRecord → List Backing
backings records = backings_among records records

-- the login goes to the request below for which the one upwards was sent: to its provider and address, with its ID and relay state
pub record GoesBack (b : Backing) : Type 0 where
  pub request : b.backed.request ≡ b.routed.request
  pub peer : b.backed.peer ≡ b.routed.peer
  pub consumer : b.backed.consumer ≡ b.routed.consumer
  pub below : b.backed.below ≡ b.routed.below
  pub relay : b.backed.below_relay ≡ b.routed.below_relay

-- In each ledger a login that was passed on has its request upwards, and goes back to the request below for which that was sent.
pub record HasRequest (records : List HubRecord) (b : Backed) : Type 0 where
  pub routed : Routed
  pub there : Contains records (kinds.Routed routed)
  pub pair : Contains (backings records) (record { routed = routed; backed = b })
  pub goes : GoesBack (record { routed = routed; backed = b })

abbrev pub EachLoginHasItsRequest : Type 0
EachLoginHasItsRequest =
    (records : List HubRecord) (b : Backed) → AreRecords records → Contains records (kinds.Backed b) → HasRequest records b
