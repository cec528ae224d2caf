-- The definitions at worked examples.
use Rattle.std.specs.Prelude.{◌≡◌, true, false, [], ◌∷◌, None, Some, codes, refl}
use Rattle.xml_spec.specs.Tree.{Nodes}
use Rattle.post_binding.specs.declared.posted.Field.TheVariants as fields
use Rattle.peer_keys.specs.declared.peers.LogoutPeer.{LogoutPeer}
use Rattle.verdict_codes.specs.declared.codes.Verdict.TheVariants.{LogoutDestination, LogoutNotInTime}
use Rattle.protocol_messages.specs.declared.logout.LogoutRequest.{LogoutRequest}
use Rattle.protocol_messages.specs.declared.logout.LogoutResponse.{LogoutResponse}
use Rattle.protocol_messages.specs.declared.logout.Outcome.TheVariants.{Success}
use Rattle.logout_profile.specs.declared.message.Message.TheVariants.{Ask, Reply}
use Rattle.logout_profile.specs.Carrying.{IsMessage}
use Rattle.logout_profile.specs.Keys.{keys_of}
use Rattle.logout_profile.specs.Verdict.{is_sent_to, is_in_time, message_refusal}

-- a LogoutRequest does not fit SAMLResponse, nor a LogoutResponse SAMLRequest
right_field : (tree : Nodes) (request : LogoutRequest) (response : LogoutResponse) →
    ¬ (IsMessage fields.Response tree 0 (Ask request)) × ¬ (IsMessage fields.Request tree 0 (Reply response))
right_field tree request response = (λ h. h, λ h. h)

-- the second key stands behind that of the peer, where there is one
keys : (peer : LogoutPeer) → (keys_of peer None ≡ peer.key_in ∷ []) × (keys_of peer (Some (codes "k")) ≡ peer.key_in ∷ codes "k" ∷ [])
keys peer = (refl, refl)

-- a Destination has to stand, and an empty one is another place
destinations : (is_sent_to (codes "a") None ≡ false) × (is_sent_to (codes "a") (Some []) ≡ false) × (is_sent_to (codes "a") (Some (codes "b")) ≡ false)
    × (is_sent_to (codes "a") (Some (codes "a")) ≡ true)
destinations = (refl, refl, refl, refl)

-- an end at 00:05:00 with a skew of a minute
ends : (is_in_time 60000 1704067559999 (Some 1704067500000) ≡ true) × (is_in_time 60000 1704067560000 (Some 1704067500000) ≡ false)
    × (is_in_time 60000 1704067560000 None ≡ true)
ends = (refl, refl, refl)

-- a request that ends at 100, and a response, which has no end
request : LogoutRequest
request = record { id = codes "r"; issuer = codes "i"; destination = Some (codes "a"); until = Some 100; name = codes "n"; indexes = [] }

response : LogoutResponse
response = record { id = codes "r"; issuer = codes "i"; destination = Some (codes "a"); request = codes "q"; outcome = Success }

verdicts : (message_refusal (codes "a") 5 104 (Ask request) ≡ None) × (message_refusal (codes "a") 5 105 (Ask request) ≡ Some LogoutNotInTime)
    × (message_refusal (codes "b") 5 105 (Ask request) ≡ Some LogoutDestination) × (message_refusal (codes "a") 5 105 (Reply response) ≡ None)
unfolding request response
verdicts = (refl, refl, refl, refl)
