-- How a payload of a hub is read, and the record that it is, as a function of its bytes.
use Rattle.std.specs.Prelude.{ℕ, ◌==◌, if◌then◌else◌, List, [], ◌∷◌, Option, None, Some}
use Rattle.ledger_records.specs.declared.hub_record.HubRecord.{HubRecord}
use Rattle.ledger_records.specs.declared.hub_record.HubRecord.TheVariants as kinds
use Rattle.ledger_records.specs.Fields.{Field, Number, Text, Optional, Attributes, Key}
use Rattle.ledger_records.specs.Reading.{Form, NumberForm, TextForm, OptionalForm, AttributesForm, KeyForm, spoke_forms}
use Rattle.ledger_records.specs.Found.{found_in}

-- the forms of each kind of record
abbrev pub hub_forms : ℕ → Option (List Form)
hub_forms kind =
    if kind == 21 then Some (
    NumberForm ∷ NumberForm ∷ NumberForm ∷ TextForm ∷ TextForm ∷ TextForm ∷ TextForm ∷ TextForm ∷ OptionalForm ∷ [])
    else if kind == 22 then Some (
    NumberForm ∷ NumberForm ∷ TextForm ∷ TextForm ∷ TextForm ∷ NumberForm ∷ KeyForm ∷ TextForm ∷ TextForm
    ∷ TextForm ∷ TextForm ∷ TextForm ∷ TextForm ∷ TextForm ∷ OptionalForm ∷ NumberForm ∷ AttributesForm ∷ [])
    else if kind == 23 then Some spoke_forms
    else None

-- the record of a hub that has these fields
abbrev pub hub_from : List Field → Option HubRecord
hub_from (Number first ∷ Number moment ∷ Number until ∷ Text request ∷ Text relay ∷ Text peer ∷ Text consumer
    ∷ Text below ∷ Optional below_relay ∷ []) =
    Some (kinds.Routed (record {
      first = first;
      moment = moment;
      until = until;
      request = request;
      relay = relay;
      peer = peer;
      consumer = consumer;
      below = below;
      below_relay = below_relay;
    }))
hub_from (Number first ∷ Number moment ∷ Text request ∷ Text issuer ∷ Text above ∷ Number assertion_until ∷ Key key
    ∷ Text assertion ∷ Text message ∷ Text index ∷ Text name ∷ Text peer ∷ Text consumer ∷ Text below
    ∷ Optional below_relay ∷ Number until ∷ Attributes attributes ∷ []) =
    Some (kinds.Backed (record {
      first = first;
      moment = moment;
      request = request;
      issuer = issuer;
      above = above;
      assertion_until = assertion_until;
      key = key;
      assertion = assertion;
      message = message;
      index = index;
      name = name;
      peer = peer;
      consumer = consumer;
      below = below;
      below_relay = below_relay;
      until = until;
      attributes = attributes;
    }))
hub_from (Number first ∷ Number moment ∷ Text message ∷ Text request ∷ Text peer ∷ []) =
    Some (kinds.Spoke (record { first = first; moment = moment; message = message; request = request; peer = peer }))
hub_from _ = None

-- The record of a hub that a payload is.
unfoldable pub hub_record : List ℕ → Option HubRecord
hub_record payload = found_in hub_forms hub_from payload
