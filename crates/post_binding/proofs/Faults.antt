-- A form is refused for a fault of its own, and never for want of memory.
use Rattle.std.proofs.Common.{◌≡◌, ℕ, Bool, true, false, cond, List, [], ◌∷◌, length, ltb, Option, None, Some, Result, Ok, Err, refl}
use Rattle.std.specs.Prelude.{ok_or}
use Rattle.std.specs.Option.{option_map}
use Rattle.base64.specs.Engines.{standard}
use Rattle.base64.specs.GeneralPurpose.{decode_of}
use Rattle.base64.specs.declared.decode.DecodeError.{DecodeError}
use Rattle.post_binding.specs.declared.fault.FormFault.{FormFault}
use Rattle.post_binding.specs.declared.fault.FormFault.TheVariants as faults
use Rattle.post_binding.specs.declared.posted.Field.{Field}
use Rattle.post_binding.specs.declared.posted.Field.TheVariants.{Request, Response}
use Rattle.post_binding.specs.declared.posted.TheConstants.{MESSAGE_LIMIT}
use Rattle.post_binding.specs.Form.{pairs, values, field_name, relay_name, without_white, the_value, is_relay, within_limit, message_of, message_field, relay_field, posted_in, posted, fault_of, form}

-- the answer is no want of memory
abbrev pub IsFaultOfForm : {X : Type 0} → Result X FormFault → Type 0
IsFaultOfForm (Ok x) = Unit {0}
IsFaultOfForm (Err fault) = fault_of fault ≡ Some fault

bad_form : {X : Type 0} (o : Option X) → IsFaultOfForm (ok_or o faults.BadForm)
bad_form None = refl
bad_form (Some x) = tt

message_faults : (requests responses : List (List ℕ)) → IsFaultOfForm (message_field requests responses)
message_faults requests [] = bad_form (option_map (λ text. (Request, text)) (the_value requests))
message_faults [] (response ∷ responses) = bad_form (option_map (λ text. (Response, text)) (the_value (response ∷ responses)))
message_faults (request ∷ requests) (response ∷ responses) = refl

relay_faults : (relays : List (List ℕ)) → IsFaultOfForm (relay_field relays)
relay_faults [] = tt
relay_faults (relay ∷ []) = by_test (is_relay relay)
  where
    by_test : (b : Bool) → IsFaultOfForm (cond b (Ok (Some relay)) (Err faults.BadForm))
    by_test true = tt
    by_test false = refl
relay_faults (relay ∷ other ∷ others) = refl

decoded_faults : (result : Result (List ℕ) DecodeError) → IsFaultOfForm (within_limit result)
decoded_faults (Ok message) = by_test (ltb MESSAGE_LIMIT (length message))
  where
    by_test : (b : Bool) → IsFaultOfForm (cond b (Err (faults.TooLarge (length message))) (Ok message))
    by_test true = refl
    by_test false = tt
decoded_faults (Err e) = refl

in_field : (field : Field) (relay : Option (List ℕ)) (message : Result (List ℕ) FormFault) → IsFaultOfForm message →
    IsFaultOfForm (posted_in field relay message)
in_field field relay (Ok message) is = tt
in_field field relay (Err fault) is = is

both_faults : (found : Result (Field × List ℕ) FormFault) (relay : Result (Option (List ℕ)) FormFault) → IsFaultOfForm found → IsFaultOfForm relay →
    IsFaultOfForm (posted found relay)
both_faults (Ok (field, text)) (Ok relay) one other =
    in_field field relay (message_of text) (decoded_faults (decode_of standard (without_white text)))
both_faults (Ok found) (Err fault) one other = other
both_faults (Err fault) relay one other = one

pub form_faults : (body : List ℕ) → IsFaultOfForm (form body)
form_faults body =
    let requests = values (field_name Request) (pairs body) in
    let responses = values (field_name Response) (pairs body) in
    let relays = values relay_name (pairs body) in
    both_faults (message_field requests responses) (relay_field relays) (message_faults requests responses) (relay_faults relays)
