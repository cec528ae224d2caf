-- The definitions at worked examples.
use Rattle.std.specs.Prelude.{◌≡◌, true, false, [], None, Some, Ok, Err, codes, refl}
use Rattle.post_binding.specs.declared.fault.FormFault.TheVariants as forms
use Rattle.post_binding.specs.declared.posted.Field.TheVariants.{Request, Response}
use Rattle.verdict_codes.specs.declared.codes.Verdict.TheVariants as verdicts
use Rattle.idp_rules.specs.Asking.{is_destination}
use Rattle.idp_rules.specs.Verdict.{form_refusal}
use Rattle.owned_values.specs.Options.{is_if_any}

-- a signed request has to name its Destination, and an empty one names nothing
destinations : (is_destination (codes "a") false None ≡ true) × (is_destination (codes "a") true None ≡ false) × (is_destination (codes "a") false (Some []) ≡ true)
    × (is_destination (codes "a") true (Some []) ≡ false) × (is_destination (codes "a") true (Some (codes "a")) ≡ true)
    × (is_destination (codes "a") false (Some (codes "b")) ≡ false)
destinations = (refl, refl, refl, refl, refl, refl)

-- an address that stands is that of the metadata, also where it is empty
consumers : (is_if_any (codes "a") None ≡ true) × (is_if_any (codes "a") (Some (codes "a")) ≡ true) × (is_if_any (codes "a") (Some (codes "b")) ≡ false)
    × (is_if_any (codes "a") (Some []) ≡ false)
consumers = (refl, refl, refl, refl)

-- a response where a request is to be
fields : (form_refusal (Ok (record { field = Request; message = codes "m"; relay = None })) ≡ None)
    × (form_refusal (Ok (record { field = Response; message = codes "m"; relay = None })) ≡ Some verdicts.BadForm)
    × (form_refusal (Err forms.BadBase64) ≡ Some verdicts.BadBase64) × (form_refusal (Err (forms.TooLarge 262145)) ≡ Some verdicts.TooLarge)
fields = (refl, refl, refl, refl)
