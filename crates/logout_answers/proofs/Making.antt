-- Each logout has a message, where its texts hold characters that a document may hold.
use Rattle.std.proofs.Common.{◌≡◌, ℕ, Bool, true, false, List, [], ◌∷◌, Option, None, Some, IfSome, if◌then◌else◌, codes, refl}
use Rattle.std.specs.Char.{encode_utf8}
use Rattle.std.specs.List.{AllByRecursion}
use Rattle.std.specs.Str.{chars}
use Rattle.xml_spec.specs.Characters.{IsText, IsNoColonName}
use Rattle.xml_spec.proofs.Valid.{name_shown, text_shown, other_bytes}
use Rattle.saml_names.specs.Uris.{partial_logout}
use Rattle.element_make.specs.Made.{AreMade, IsMade, written}
use Rattle.sig_reference.specs.Signing.{signed}
use Rattle.peer_keys.specs.declared.peers.LogoutPeer.{LogoutPeer}
use Rattle.post_binding.specs.Pages.{auto_form}
use Rattle.post_binding.specs.declared.posted.Field.TheVariants as fields
use Rattle.http_wire.specs.Answers.{answer}
use Rattle.protocol_messages.specs.Making.{session_indexes, logout_request, request_end, logged_out, succeeded, failed}
use Rattle.logout_profile.specs.Making.{IsRequest, IsResponse}
use Rattle.logout_answers.specs.Answers.{BySending, ByEnding, Leaving, Ending, end_answer}
use Rattle.logout_answers.specs.Laws.{IsWritten, EachUserIsAnswered, EachPeerIsAnswered}

-- ---- names and values that are always the same

named_request : IsNoColonName (codes "LogoutRequest")
unfolding chars encode_utf8
named_request = (name_shown _ refl, refl)

named_response : IsNoColonName (codes "LogoutResponse")
unfolding chars encode_utf8
named_response = (name_shown _ refl, refl)

named_issuer : IsNoColonName (codes "Issuer")
unfolding chars encode_utf8
named_issuer = (name_shown _ refl, refl)

named_name : IsNoColonName (codes "NameID")
unfolding chars encode_utf8
named_name = (name_shown _ refl, refl)

named_index : IsNoColonName (codes "SessionIndex")
unfolding chars encode_utf8
named_index = (name_shown _ refl, refl)

named_status : IsNoColonName (codes "Status")
unfolding chars encode_utf8
named_status = (name_shown _ refl, refl)

named_code : IsNoColonName (codes "StatusCode")
unfolding chars encode_utf8
named_code = (name_shown _ refl, refl)

named_value : IsNoColonName (codes "Value")
unfolding chars encode_utf8
named_value = (name_shown _ refl, refl)

named_destination : IsNoColonName (codes "Destination")
unfolding chars encode_utf8
named_destination = (name_shown _ refl, refl)

named_id : IsNoColonName (codes "ID")
unfolding chars encode_utf8
named_id = (name_shown _ refl, refl)

named_asked : IsNoColonName (codes "InResponseTo")
unfolding chars encode_utf8
named_asked = (name_shown _ refl, refl)

named_instant : IsNoColonName (codes "IssueInstant")
unfolding chars encode_utf8
named_instant = (name_shown _ refl, refl)

named_end : IsNoColonName (codes "NotOnOrAfter")
unfolding chars encode_utf8
named_end = (name_shown _ refl, refl)

named_version : IsNoColonName (codes "Version")
unfolding chars encode_utf8
named_version = (name_shown _ refl, refl)

version_text : IsText (codes "2.0")
unfolding chars encode_utf8
version_text = text_shown _ refl

success_text : IsText Rattle.saml_names.specs.Uris.success
unfolding chars encode_utf8
success_text = text_shown _ refl

responder_text : IsText Rattle.saml_names.specs.Uris.responder
unfolding chars encode_utf8
responder_text = text_shown _ refl

partial_text : IsText partial_logout
unfolding chars encode_utf8
partial_text = text_shown _ refl

-- ---- the messages are well made

indexes_made : (indexes : List (List ℕ)) → AllByRecursion IsText indexes → AreMade (session_indexes indexes)
indexes_made [] all = tt
indexes_made (index ∷ indexes) all = (named_index, tt, tt, (all.0, tt), indexes_made indexes all.1)

request_made : (id issuer address name : List ℕ) (indexes : List (List ℕ)) (instant until : List ℕ) → IsText id → IsText issuer → IsText address → IsText name
    → AllByRecursion IsText indexes → IsText instant → IsText until → IsMade (logout_request id issuer address name indexes instant until)
request_made id issuer address name indexes instant until id_is issuer_is address_is name_is indexes_are instant_is until_is = (
  named_request,
  (
    record { name = named_destination; no_declaration = other_bytes _ _ refl; value = address_is },
    (
      record { name = named_id; no_declaration = other_bytes _ _ refl; value = id_is },
      (
        record { name = named_instant; no_declaration = other_bytes _ _ refl; value = instant_is },
        (
          record { name = named_end; no_declaration = other_bytes _ _ refl; value = until_is },
          (record { name = named_version; no_declaration = other_bytes _ _ refl; value = version_text }, tt),
        ),
      ),
    ),
  ),
  (
    (other_bytes _ _ refl, (other_bytes _ _ refl, (other_bytes _ _ refl, (other_bytes _ _ refl, tt)))),
    ((other_bytes _ _ refl, (other_bytes _ _ refl, (other_bytes _ _ refl, tt))), ((other_bytes _ _ refl, (other_bytes _ _ refl, tt)), ((other_bytes _ _ refl, tt), (tt, tt)))),
  ),
  (named_issuer, tt, tt, (issuer_is, tt), (named_name, tt, tt, (name_is, tt), indexes_made indexes indexes_are)),
  tt,
)

succeeded_made : AreMade succeeded
succeeded_made =
    (named_status, tt, tt, (named_code, (record { name = named_value; no_declaration = other_bytes _ _ refl; value = success_text }, tt), (tt, tt), tt, tt), tt)

failed_made : AreMade (failed partial_logout)
failed_made = (
  named_status,
  tt,
  tt,
  (
    named_code,
    (record { name = named_value; no_declaration = other_bytes _ _ refl; value = responder_text }, tt),
    (tt, tt),
    (named_code, (record { name = named_value; no_declaration = other_bytes _ _ refl; value = partial_text }, tt), (tt, tt), tt, tt),
    tt,
  ),
  tt,
)

status_made : (partial : Bool) → AreMade (if partial then failed partial_logout else succeeded)
status_made true = failed_made
status_made false = succeeded_made

response_made : (id issuer address request instant : List ℕ) (partial : Bool) → IsText id → IsText issuer → IsText address → IsText request → IsText instant
    → IsMade (logged_out id issuer address request (if partial then failed partial_logout else succeeded) instant)
response_made id issuer address request instant partial id_is issuer_is address_is request_is instant_is = (
  named_response,
  (
    record { name = named_destination; no_declaration = other_bytes _ _ refl; value = address_is },
    (
      record { name = named_id; no_declaration = other_bytes _ _ refl; value = id_is },
      (
        record { name = named_asked; no_declaration = other_bytes _ _ refl; value = request_is },
        (
          record { name = named_instant; no_declaration = other_bytes _ _ refl; value = instant_is },
          (record { name = named_version; no_declaration = other_bytes _ _ refl; value = version_text }, tt),
        ),
      ),
    ),
  ),
  (
    (other_bytes _ _ refl, (other_bytes _ _ refl, (other_bytes _ _ refl, (other_bytes _ _ refl, tt)))),
    ((other_bytes _ _ refl, (other_bytes _ _ refl, (other_bytes _ _ refl, tt))), ((other_bytes _ _ refl, (other_bytes _ _ refl, tt)), ((other_bytes _ _ refl, tt), (tt, tt)))),
  ),
  (named_issuer, tt, tt, (issuer_is, tt), status_made partial),
  tt,
)

-- ---- and sent

leaving_to : (peer : LogoutPeer) (address : Option (List ℕ)) → peer.peer.logout ≡ address → IfSome address IsText → (id issuer name : List ℕ) (indexes : List (List ℕ)) (now : ℕ)
    → IsText id → IsText issuer → IsText name → AllByRecursion IsText indexes → IsWritten now → IsWritten (request_end now)
    → (bytes : List ℕ) × Leaving peer id issuer now name indexes bytes
leaving_to peer None given text id issuer name indexes now id_is issuer_is name_is indexes_are begun ended = (end_answer true, ByEnding given refl)
leaving_to peer (Some address) given text id issuer name indexes now id_is issuer_is name_is indexes_are begun ended =
    let unsigned = logout_request id issuer address name indexes begun.text ended.text in
    let message = written (signed peer.key_out unsigned) in
    let request : IsRequest peer id issuer now name indexes message = record {
      address = address;
      given = given;
      unsigned = unsigned;
      made = record { instant = begun.text; until = ended.text; told = begun.told; ended = ended.told; is = refl };
      signed = record {
        well_made = request_made id issuer address name indexes begun.text ended.text id_is issuer_is text name_is indexes_are begun.characters ended.characters;
        is = refl;
      };
    } in
    (answer 200 None None (auto_form address fields.Request message None), BySending (record { message = message; request = request; is = refl }))

pub leaving_is_answered : (now : ℕ) → IsWritten now → IsWritten (request_end now) → EachUserIsAnswered now
leaving_is_answered now begun ended peer id issuer name indexes address id_is issuer_is name_is indexes_are =
    leaving_to peer peer.peer.logout refl address id issuer name indexes now id_is issuer_is name_is indexes_are begun ended

ending_to : (peer : LogoutPeer) (address : Option (List ℕ)) → peer.peer.logout ≡ address → IfSome address IsText → (id issuer request : List ℕ) (partial : Bool) (relay : Option (List ℕ)) (now : ℕ)
    → IsText id → IsText issuer → IsText request → IsWritten now → (bytes : List ℕ) × Ending peer id issuer now request partial relay bytes
ending_to peer None given text id issuer request partial relay now id_is issuer_is request_is begun = (end_answer partial, ByEnding given refl)
ending_to peer (Some address) given text id issuer request partial relay now id_is issuer_is request_is begun =
    let unsigned = logged_out id issuer address request (if partial then failed partial_logout else succeeded) begun.text in
    let message = written (signed peer.key_out unsigned) in
    let response : IsResponse peer id issuer now request partial message = record {
      address = address;
      given = given;
      unsigned = unsigned;
      made = record { instant = begun.text; told = begun.told; is = refl };
      signed = record { well_made = response_made id issuer address request begun.text partial id_is issuer_is text request_is begun.characters; is = refl };
    } in
    (answer 200 None None (auto_form address fields.Response message relay), BySending (record { message = message; response = response; is = refl }))

pub ending_is_answered : (now : ℕ) → IsWritten now → EachPeerIsAnswered now
ending_is_answered now begun peer id issuer request partial relay address id_is issuer_is request_is =
    ending_to peer peer.peer.logout refl address id issuer request partial relay now id_is issuer_is request_is begun
