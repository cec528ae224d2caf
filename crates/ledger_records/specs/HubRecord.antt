-- The records of a hub. A payload is a kind byte, the first number that the record draws, the moment, and then the
-- fields of its kind in order. Nothing follows.
use Rattle.std.specs.Prelude.{◌≡◌, ℕ, ◌<◌, ◌^◌, List, [], ◌∷◌, length}
use Rattle.ledger_records.specs.declared.hub_record.HubRecord.{HubRecord}
use Rattle.ledger_records.specs.declared.hub_record.HubRecord.TheVariants as kinds
use Rattle.ledger_records.specs.Fields.{Field, Number, Text, Optional, Attributes, Key, of_kind, kind_bytes, AreFields}

-- the kind of a record, and the fields behind it
abbrev pub hub_parts : HubRecord → ℕ × List Field
hub_parts (kinds.Routed r) = of_kind 21 (
    Number r.first ∷ Number r.moment ∷ Number r.until ∷ Text r.request ∷ Text r.relay ∷ Text r.peer
    ∷ Text r.consumer ∷ Text r.below ∷ Optional r.below_relay ∷ [])
hub_parts (kinds.Backed r) = of_kind 22 (
    Number r.first ∷ Number r.moment ∷ Text r.request ∷ Text r.issuer ∷ Text r.above ∷ Number r.assertion_until
    ∷ Key r.key ∷ Text r.assertion ∷ Text r.message ∷ Text r.index ∷ Text r.name ∷ Text r.peer ∷ Text r.consumer
    ∷ Text r.below ∷ Optional r.below_relay ∷ Number r.until ∷ Attributes r.attributes ∷ [])
hub_parts (kinds.Spoke r) = of_kind 23 (
    Number r.first ∷ Number r.moment ∷ Text r.message ∷ Text r.request ∷ Text r.peer ∷ [])

abbrev pub hub_fields : HubRecord → List Field
hub_fields r = (hub_parts r).1

-- the bytes of a record
abbrev pub hub_bytes : HubRecord → List ℕ
hub_bytes r = kind_bytes (hub_parts r)

-- The payload is the bytes of this record. A journal keeps the length of a payload in four bytes.
pub record IsHubPayload (payload : List ℕ) (r : HubRecord) : Type 0 where
  pub spelled : payload ≡ hub_bytes r
  pub short : length payload < 2 ^ 32
  pub fields : AreFields (hub_parts r).1
