-- The form of the HTTP POST binding: SAML Bindings 3.5, over the pairs of `form_urlencoded` (URL Standard, 5).
use Rattle.std.specs.Prelude.{ℕ, Bool, ◌&&◌, not, List, [], ◌∷◌, map, filter, length, codes, Option, Some, None, Result, Ok, Err, nat_lt, nat_le, ok_or, if◌then◌else◌}
use Rattle.std.specs.Option.{option_map}
use Rattle.std.specs.Str.{bytes_eq}
use Rattle.std.specs.Str.Lossy.{utf8_lossy, replacement_bytes}
use Rattle.base64.specs.declared.decode.DecodeError.{DecodeError}
use Rattle.base64.specs.Engines.{standard}
use Rattle.base64.specs.GeneralPurpose.{encode_of, decode_of}
use Rattle.form_urlencoded.specs.Form.{raw_pairs, decode, extend_pairs}
use Rattle.xml_spec.specs.Bytes.{has}
use Rattle.xml_spec.specs.Syntax.{is_white}
use Rattle.post_binding.specs.declared.fault.FormFault.{FormFault}
use Rattle.post_binding.specs.declared.fault.FormFault.TheVariants as faults
use Rattle.post_binding.specs.declared.posted.Field.{Field}
use Rattle.post_binding.specs.declared.posted.Field.TheVariants.{Request, Response}
use Rattle.post_binding.specs.declared.posted.Posted.{Posted}
use Rattle.post_binding.specs.declared.posted.TheConstants.{MESSAGE_LIMIT, RELAY_LIMIT}
use Rattle.owned_values.specs.Options.{◌>>=◌}

-- ---- the pairs

-- a name and a value
abbrev pub Pair : Type 0
Pair = List ℕ × List ℕ

-- URL Standard, 5.1: "Replace any 0x2B (+) in name and value with 0x20 (SP)", then "the result of running UTF-8 decode
-- without BOM on the percent-decoding", where bytes that are no UTF-8 become U+FFFD
abbrev pub decoded : List ℕ → List ℕ
decoded encoded = utf8_lossy (decode encoded)

-- the names and values of a form, in order
abbrev pub decoded_pairs : List Pair → List Pair
decoded_pairs encoded = map (λ (name, value). (decoded name, decoded value)) encoded

abbrev pub pairs : List ℕ → List Pair
pairs body = decoded_pairs (raw_pairs body)

-- the values under a name, in order
abbrev pub values : List ℕ → List Pair → List (List ℕ)
values name given = map (λ pair. pair.1) (filter (λ pair. bytes_eq pair.0 name) given)

-- U+FFFD stands in the text: some of it was no UTF-8, or it was sent so
abbrev pub has_replacement : List ℕ → Bool
has_replacement text = has replacement_bytes text

-- ---- the message and its relay

-- 3.5.4: "If the message is a SAML request, then the form control MUST be named SAMLRequest. If the message is a SAML
-- response, then the form control MUST be named SAMLResponse."
abbrev pub field_name : Field → List ℕ
field_name Request = codes "SAMLRequest"
field_name Response = codes "SAMLResponse"

-- 3.5.4: "If a "RelayState" value is to accompany the SAML protocol message, it MUST be placed in an additional hidden
-- form control named RelayState"
abbrev pub relay_name : List ℕ
relay_name = codes "RelayState"

-- the decoded message, or that it is too large
abbrev pub within_limit : Result (List ℕ) DecodeError → Result (List ℕ) FormFault
within_limit (Ok message) = if nat_lt MESSAGE_LIMIT (length message) then Err (faults.TooLarge (length message)) else Ok message
within_limit (Err e) = Err faults.BadBase64

-- 3.5.4: "applying the base-64 encoding rules to the XML representation of the message", where "The base64-encoded
-- value MAY be line-wrapped": white space is passed over, and the rest is canonical base64 with its padding (RFC 4648,
-- 4), as `base64_is_canonical` of the laws says
abbrev pub without_white : List ℕ → List ℕ
without_white text = filter (λ b. not (is_white b)) text

abbrev pub message_of : List ℕ → Result (List ℕ) FormFault
message_of text = within_limit (decode_of standard (without_white text))

-- the only value of a name, where U+FFFD does not stand in it
abbrev pub the_value : List (List ℕ) → Option (List ℕ)
the_value [] = None
the_value (value ∷ []) = if has_replacement value then None else Some value
the_value (value ∷ other ∷ others) = None

-- the one message of a form with these requests and these responses
abbrev pub message_field : List (List ℕ) → List (List ℕ) → Result (Field × List ℕ) FormFault
message_field requests [] = ok_or (option_map (λ text. (Request, text)) (the_value requests)) faults.BadForm
message_field [] responses = ok_or (option_map (λ text. (Response, text)) (the_value responses)) faults.BadForm
message_field (request ∷ requests) (response ∷ responses) = Err faults.BadForm

-- 3.5.3: "The value MUST NOT exceed 80 bytes in length"
abbrev pub is_relay : List ℕ → Bool
is_relay relay = nat_le (length relay) RELAY_LIMIT && not (has_replacement relay)

-- the relay of a form with these relays, of which there is one at most
abbrev pub relay_field : List (List ℕ) → Result (Option (List ℕ)) FormFault
relay_field [] = Ok None
relay_field (relay ∷ []) = if is_relay relay then Ok (Some relay) else Err faults.BadForm
relay_field (relay ∷ other ∷ others) = Err faults.BadForm

-- what is posted in a field with a relay, where the message is good
abbrev pub posted_in : Field → Option (List ℕ) → Result (List ℕ) FormFault → Result Posted FormFault
posted_in field relay (Ok message) = Ok (record { field = field; message = message; relay = relay })
posted_in field relay (Err fault) = Err fault

abbrev pub posted : Result (Field × List ℕ) FormFault → Result (Option (List ℕ)) FormFault → Result Posted FormFault
posted (Ok (field, text)) (Ok relay) = posted_in field relay (message_of text)
posted (Ok found) (Err fault) = Err fault
posted (Err fault) relay = Err fault

-- the message and the relay of a form, or its first fault
abbrev pub form : List ℕ → Result Posted FormFault
form body =
    posted (message_field (values (field_name Request) (pairs body)) (values (field_name Response) (pairs body)))
    (relay_field (values relay_name (pairs body)))

-- the fault that a refusal stands for; none where memory ran out
abbrev pub fault_of : FormFault → Option FormFault
fault_of faults.BadForm = Some faults.BadForm
fault_of faults.BadBase64 = Some faults.BadBase64
fault_of (faults.TooLarge bytes) = Some (faults.TooLarge bytes)
fault_of faults.NoMemory = None

-- ---- named fields

-- the values of the names in order, none where one has none
abbrev pub fields_of : List Pair → List (List ℕ) → Option (List (List ℕ))
fields_of given [] = Some []
fields_of given (name ∷ names) = do
  value ← the_value (values name given)
  found ← fields_of given names
  Some (value ∷ found)

abbrev pub fields : List ℕ → List (List ℕ) → Option (List (List ℕ))
fields body names = fields_of (pairs body) names

-- ---- a form that is made

abbrev pub relay_pairs : Option (List ℕ) → List Pair
relay_pairs None = []
relay_pairs (Some relay) = (relay_name, relay) ∷ []

-- 3.5.4: the base64 of the message in its field, and then the relay
abbrev pub post_body : Field → List ℕ → Option (List ℕ) → List ℕ
post_body field message relay = extend_pairs [] ((field_name field, encode_of standard message) ∷ relay_pairs relay)
