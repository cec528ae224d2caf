-- The record that a payload is, as a function of its bytes. The kinds of a role differ in the forms of their fields, so
-- that these tell the record.
use Rattle.std.specs.Prelude.{ℕ, ◌^◌, nat_lt, if◌then◌else◌, List, [], ◌∷◌, length, Option, None, Some}
use Rattle.ledger_records.specs.declared.key_number.KeyNumber.{KeyNumber}
use Rattle.ledger_records.specs.declared.key_number.KeyNumber.TheVariants.{First}
use Rattle.ledger_records.specs.declared.sp_record.SpRecord.{SpRecord}
use Rattle.ledger_records.specs.declared.sp_record.SpRecord.TheVariants as kinds
use Rattle.ledger_records.specs.declared.idp_record.IdpRecord.{IdpRecord}
use Rattle.ledger_records.specs.declared.idp_record.IdpRecord.TheVariants as idp
use Rattle.ledger_records.specs.Fields.{Field, NoNumber, Number, Text, Optional, Texts, Attributes, Asker, Turns, Flag, Key}
use Rattle.ledger_records.specs.Reading.{Form, sp_forms, idp_forms, record_in}
use Rattle.owned_values.specs.Options.{◌>>=◌}

-- The record that a payload is: the one of its fields, which have the forms of its kind. A journal keeps the length of a
-- payload in four bytes.
abbrev pub found_in : {R : Type 0} → (ℕ → Option (List Form)) → (List Field → Option R) → List ℕ → Option R
found_in forms from payload =
    if nat_lt (length payload) (2 ^ 32) then (record_in forms payload >>= λ found. from found.1) else None

-- the key that is the last field, and the first one where there is none
abbrev pub key_from : List Field → Option KeyNumber
key_from [] = Some First
key_from (Key key ∷ []) = Some key
key_from _ = None

-- the record of a service provider that has these fields
abbrev pub sp_from : List Field → Option SpRecord
sp_from (Number first ∷ Number moment ∷ Number until ∷ Text target ∷ Text request ∷ Text relay ∷ []) =
    Some (kinds.Asked (
    record { first = first; moment = moment; until = until; target = target; request = request; relay = relay }))
sp_from (Number first ∷ Number moment ∷ Number until ∷ Text request ∷ Text issuer ∷ Text assertion
    ∷ Number assertion_until ∷ Text token ∷ Text name ∷ Optional index ∷ Attributes attributes ∷ last) =
    key_from last >>= λ key. Some (kinds.Opened (record {
      first = first;
      moment = moment;
      until = until;
      request = request;
      issuer = issuer;
      assertion = assertion;
      assertion_until = assertion_until;
      token = token;
      name = name;
      index = index;
      attributes = attributes;
      key = key;
    }))
sp_from (Number first ∷ Number moment ∷ Number until ∷ Text token ∷ Text request ∷ []) =
    Some (kinds.Left (record { first = first; moment = moment; until = until; token = token; request = request }))
sp_from (Number first ∷ Number moment ∷ Texts tokens ∷ Text message ∷ Text request ∷ []) =
    Some (kinds.Ended (
    record { first = first; moment = moment; tokens = tokens; message = message; request = request }))
sp_from (NoNumber ∷ Number moment ∷ Text request ∷ []) =
    Some (kinds.Confirmed (record { moment = moment; request = request }))
sp_from _ = None

-- The record of a service provider that a payload is in a journal of this version.
unfoldable pub sp_record : ℕ → List ℕ → Option SpRecord
sp_record version payload = found_in (sp_forms version) sp_from payload

-- the record of an identity provider that has these fields
abbrev pub idp_from : List Field → Option IdpRecord
idp_from (Number first ∷ Number moment ∷ Number until ∷ Text pending ∷ Text request ∷ Text peer ∷ Text consumer
    ∷ Optional relay ∷ []) =
    Some (idp.Pending (record {
      first = first;
      moment = moment;
      until = until;
      pending = pending;
      request = request;
      peer = peer;
      consumer = consumer;
      relay = relay;
    }))
idp_from (Number first ∷ Number moment ∷ Optional pending ∷ Text cookie ∷ Text index ∷ Number session_end
    ∷ Text assertion ∷ Text message ∷ Text user ∷ Text peer ∷ Text consumer ∷ Text request ∷ Optional relay
    ∷ Number until ∷ Attributes attributes ∷ []) =
    Some (idp.Issued (record {
      first = first;
      moment = moment;
      pending = pending;
      cookie = cookie;
      index = index;
      session_end = session_end;
      assertion = assertion;
      message = message;
      user = user;
      peer = peer;
      consumer = consumer;
      request = request;
      relay = relay;
      until = until;
      attributes = attributes;
    }))
idp_from (Number first ∷ Number moment ∷ Texts cookies ∷ Text message ∷ Text request ∷ Text peer ∷ Flag partial ∷ []) =
    Some (idp.Ended (record {
      first = first;
      moment = moment;
      cookies = cookies;
      message = message;
      request = request;
      peer = peer;
      partial = partial;
    }))
idp_from (Number first ∷ Number moment ∷ Number until ∷ Text cookie ∷ Text request ∷ Text peer ∷ []) =
    Some (idp.Left (
    record { first = first; moment = moment; until = until; cookie = cookie; request = request; peer = peer }))
idp_from (NoNumber ∷ Number moment ∷ Text request ∷ []) =
    Some (idp.Confirmed (record { moment = moment; request = request }))
idp_from (Number first ∷ Number moment ∷ Text message ∷ Text request ∷ Text peer ∷ []) =
    Some (idp.Spoke (record { first = first; moment = moment; message = message; request = request; peer = peer }))
idp_from (Number first ∷ Number moment ∷ Number until ∷ Text message ∷ Text request ∷ Texts cookies ∷ Asker asker
    ∷ Turns turns ∷ Flag skipped ∷ []) =
    Some (idp.Round (record {
      first = first;
      moment = moment;
      until = until;
      message = message;
      request = request;
      cookies = cookies;
      asker = asker;
      turns = turns;
      skipped = skipped;
    }))
idp_from (Number first ∷ Number moment ∷ Text request ∷ Flag confirmed ∷ Optional next ∷ []) =
    Some (idp.Told (record { first = first; moment = moment; request = request; confirmed = confirmed; next = next }))
idp_from _ = None

-- The record of an identity provider that a payload is.
unfoldable pub idp_record : List ℕ → Option IdpRecord
idp_record payload = found_in idp_forms idp_from payload
