-- The messages of a logout that go to a peer can be made.
use Rattle.std.specs.Prelude.{IfSome, min}
use Rattle.std.proofs.Common.{◌≡◌, ℕ, ◌+◌, Bool, true, List, Option, None, Some, refl, arith, ap}
use Rattle.std.specs.List.{AllByRecursion}
use Rattle.std.specs.Option.{is_some}
use Rattle.xml_spec.specs.Characters.{IsText}
use Rattle.http_wire.specs.Answers.{answer}
use Rattle.element_make.specs.Made.{written}
use Rattle.sig_reference.specs.Signing.{signed}
use Rattle.post_binding.specs.Pages.{auto_form}
use Rattle.post_binding.specs.declared.posted.Field.TheVariants as fields
use Rattle.peer_keys.specs.Peers.{place_of}
use Rattle.peer_keys.specs.declared.peers.LogoutPeer.{LogoutPeer}
use Rattle.protocol_messages.specs.Making.{logged_out, logout_request, request_end}
use Rattle.logout_turns.specs.declared.part.Asker.{Asker}
use Rattle.idp_rows.specs.Record.{LAST}
use Rattle.idp_rules.specs.Config.{IsTextPeer}
use Rattle.idp_rules.specs.declared.config.IdpConfig.{IdpConfig}
use Rattle.logout_answers.specs.Answers.{BySending, ByEnding, Ending, end_answer}
use Rattle.idp_server.specs.Messages.{IsPeer, IsRequestTo, IsRoundEnd, ToAsker, ToNone, ToPeer, ToUser}
use Rattle.idp_server.specs.Replies.{CanEnd, IsTold}
use Rattle.idp_server.proofs.Made.{asking_made, ended_status, replying_made}
use Rattle.idp_server.proofs.Peers.{placed}
use Rattle.idp_server.proofs.Sessions.{all_at}

-- the end of a request, as an Assertion's
pub ends_alike : (now : ℕ) → min LAST (now + 300000) ≡ request_end now
ends_alike now = omega arith

-- a request to the peer of a name
request_to : (setup : IdpConfig) (entity id user : List ℕ) (indexes : List (List ℕ)) (now : ℕ) (peer : LogoutPeer)
    → IsPeer setup entity peer → IsText setup.entity → IsText id → IsText user
    → AllByRecursion IsText indexes → IsTold now → IsTold (request_end now) → (address : Option (List ℕ))
    → peer.peer.logout ≡ address → IfSome address IsText
    → (bytes : List ℕ) × IsRequestTo setup entity id user indexes now bytes
request_to setup entity id user indexes now peer known name id_text user_text index_texts at end None none text =
    (end_answer true, ToPeer peer known (ByEnding none refl))
request_to setup entity id user indexes now peer known name id_text user_text index_texts at end (Some address) given
    text =
    let unsigned = logout_request id setup.entity address user indexes at.text end.text in
    let message = written (signed peer.key_out unsigned) in (
      answer 200 None None (auto_form address fields.Request message None),
      ToPeer peer known (BySending (record {
        message = message;
        request = record {
          address = address;
          given = given;
          unsigned = unsigned;
          made = record { instant = at.text; until = end.text; told = at.tells; ended = end.tells; is = refl };
          signed = record {
            well_made =
                asking_made id setup.entity address user indexes at.text end.text id_text name text user_text
                index_texts at.may_stand end.may_stand;
            is = refl;
          };
        };
        is = refl;
      })),
    )

pub some_request : (setup : IdpConfig) (entity id user : List ℕ) (indexes : List (List ℕ)) (now : ℕ)
    → IsText setup.entity → AllByRecursion IsTextPeer setup.peers → IsText id → IsText user
    → AllByRecursion IsText indexes → IsTold now → IsTold (request_end now) → (bytes : List ℕ)
    × IsRequestTo setup entity id user indexes now bytes
some_request setup entity id user indexes now name peers id_text user_text index_texts at end =
    by_place (place_of entity setup.peers) refl
  where
    by_place : (o : Option ℕ) → place_of entity setup.peers ≡ o → (bytes : List ℕ)
        × IsRequestTo setup entity id user indexes now bytes
    by_place None none = (end_answer true, ToNone none refl)
    by_place (Some place) is =
        let peer = placed entity setup.peers place is in
        request_to setup entity id user indexes now peer.0 (place, is, peer.1) name id_text user_text index_texts at end
        peer.0.peer.logout refl
        (all_at IsTextPeer setup.peers place peer.0 peers peer.1).logout

-- an answer to a peer that asked to end sessions
pub some_response : (setup : IdpConfig) (message request : List ℕ) (partial : Bool) (relay : Option (List ℕ)) (now : ℕ)
    (peer : LogoutPeer) → IsText setup.entity → IsText message → IsText request
    → IsTold now → (address : Option (List ℕ)) → peer.peer.logout ≡ address → IfSome address IsText → (bytes : List ℕ)
    × Ending peer message setup.entity now request partial relay bytes
some_response setup message request partial relay now peer name message_text request_text at None none text =
    (end_answer partial, ByEnding none refl)
some_response setup message request partial relay now peer name message_text request_text at (Some address) given text =
    let unsigned = logged_out message setup.entity address request (ended_status partial) at.text in
    let sent = written (signed peer.key_out unsigned) in (
      answer 200 None None (auto_form address fields.Response sent relay),
      BySending (record {
        message = sent;
        response = record {
          address = address;
          given = given;
          unsigned = unsigned;
          made = record { instant = at.text; told = at.tells; is = refl };
          signed = record {
            well_made =
                replying_made message setup.entity address request at.text partial message_text name text request_text
                at.may_stand;
            is = refl;
          };
        };
        is = refl;
      }),
    )

-- the answer at the end of a round
pub some_end : (setup : IdpConfig) (message : List ℕ) (asker : Option Asker) (partial : Bool) (now : ℕ)
    → IsText setup.entity → CanEnd setup message asker → IsTold now
    → (bytes : List ℕ) × IsRoundEnd setup message asker partial now bytes
some_end setup message None partial now name can at = (end_answer partial, ToUser refl refl)
some_end setup message (Some asker) partial now name can at = by_place (place_of asker.peer setup.peers) refl
  where
    by_place : (o : Option ℕ) → place_of asker.peer setup.peers ≡ o → (bytes : List ℕ)
        × IsRoundEnd setup message (Some asker) partial now bytes
    by_place None none = (end_answer partial, ToUser (ap is_some none) refl)
    by_place (Some place) is =
        let peer = placed asker.peer setup.peers place is in
        let some =
        some_response setup message asker.request partial asker.relay now peer.0 name can.message_text can.asker_text.1
        at peer.0.peer.logout refl
        (all_at IsTextPeer setup.peers place peer.0 can.peers peer.1).logout in
        (some.0, ToAsker asker peer.0 refl (place, is, peer.1) some.1)
