-- Which elements an identity provider's records stand for as signed ones, and which answers its records stand for.
use Rattle.std.specs.Prelude.{◌≡◌, ◌⊎◌, ℕ, Bool, true, List, [], ◌∷◌, None, Option, Some, if◌then◌else◌, slice_get}
use Rattle.std.specs.List.{AllByRecursion}
use Rattle.std.specs.Option.{option_map}
use Rattle.element_make.specs.Made.{Made, alone, written}
use Rattle.saml_names.specs.Uris.{partial_logout}
use Rattle.sig_reference.specs.Signing.{signed}
use Rattle.assertion_model.specs.Assertion.{IsAssertionOf}
use Rattle.protocol_messages.specs.Making.{failed, logged_out, logout_request, request_end, response, succeeded, IsMadeAt, IsMadeFrom}
use Rattle.post_binding.specs.Pages.{auto_form}
use Rattle.post_binding.specs.declared.posted.Field.{Field}
use Rattle.http_wire.specs.declared.answer.Answer.TheVariants.{Full}
use Rattle.http_wire.specs.Answers.{answer}
use Rattle.http_wire.specs.Requests.{Request}
use Rattle.ledger_records.specs.declared.idp_record.IdpRecord.{IdpRecord}
use Rattle.ledger_records.specs.declared.idp_record.IdpRecord.TheVariants as kinds
use Rattle.ledger_records.specs.declared.idp_record.Ended.{Ended}
use Rattle.ledger_records.specs.declared.idp_record.Issued.{Issued}
use Rattle.ledger_records.specs.declared.idp_record.Left.{Left}
use Rattle.ledger_records.specs.declared.idp_record.Pending.{Pending}
use Rattle.ledger_records.specs.declared.idp_record.Spoke.{Spoke}
use Rattle.ledger_records.specs.declared.idp_round.Round.{Round}
use Rattle.ledger_records.specs.declared.idp_round.Told.{Told}
use Rattle.logout_fanout.specs.declared.round.Next.TheVariants.{Ask, Done}
use Rattle.logout_turns.specs.declared.part.Asker.{Asker}
use Rattle.logout_turns.specs.declared.turns.Turn.{Turn}
use Rattle.round_rows.specs.declared.row.RoundRow.{RoundRow}
use Rattle.peer_keys.specs.declared.peers.LogoutPeer.{LogoutPeer}
use Rattle.idp_rows.specs.declared.row.SessionRow.{SessionRow}
use Rattle.idp_rows.specs.Finding.{session_found, turn_found}
use Rattle.idp_rows.specs.RowsOf.{rows_of}
use Rattle.idp_ledger.specs.Ledger.{Held}
use Rattle.idp_rules.specs.declared.config.IdpConfig.{IdpConfig}
use Rattle.idp_answers.specs.Answers.{IsNoPassiveAnswer, login_answer, metadata_answer, response_form, session_cookie}
use Rattle.idp_answers.specs.Answers.{signed_assertion, signs_assertion, signs_response}
pub use Rattle.idp_answers.specs.SignedElements.{signed_elements}
use Rattle.logout_answers.specs.Answers.{end_answer}
use Rattle.idp_server.specs.Issues.{IsOfPassive}
use Rattle.idp_server.specs.Logins.{login_of}
use Rattle.idp_server.specs.Rounds.{next_in}
use Rattle.idp_server.specs.Routes.{route}
use Rattle.idp_server.specs.Step.{Answers, IsPeer}
use Rattle.idp_server.specs.declared.route.Service.TheVariants.{Metadata}
use Rattle.service_routes.specs.declared.route.Route.TheVariants.{To}

-- in the ledger this round waits for the answer that a Told is, of the provider whose turn it is
abbrev pub Waits : Held → Told → RoundRow → Type 0
Waits held r row =
    (peer : List ℕ) × (turn_found (rows_of held.records).rounds r.request peer r.moment held.header.horizon ≡ Some row)

module _ (setup : IdpConfig) (held : Held) where
  -- An element that is signed for a record, before it is signed, and the key: the Assertion of an Issued where the mode
  -- signs it; the Response that carries this, where the mode signs that; the LogoutRequest of a Left for the user and
  -- the index of the session that was left, which lived in the ledger under the record's cookie at its moment, and the
  -- LogoutResponse of an Ended, where the peer has an address for logout; all with the key of what is sent to the
  -- record's peer. A Round stands for the LogoutRequest to the provider of its first turn, and a Told, which answers
  -- the round that waits for it, for the one to the provider of the next turn, or where none is left for the
  -- LogoutResponse to the provider that asked for the logout; each where that provider is a peer with an address for
  -- logout, and with the key of what is sent to it. No other record stands for a signed element: the Response of a
  -- Spoke is not signed.
  pub data IsSignedFor : IdpRecord → (key : List ℕ) → Made → Type 0 where
    AnAssertion : (r : Issued) (peer : LogoutPeer) (made : Made) → IsPeer setup r.peer peer
        → signs_assertion setup.mode ≡ true → IsAssertionOf (login_of setup.entity r) made
        → IsSignedFor (kinds.Issued r) peer.key_out made
    AResponse : (r : Issued) (peer : LogoutPeer) (assertion made : Made) → IsPeer setup r.peer peer
        → signs_response setup.mode ≡ true → IsAssertionOf (login_of setup.entity r) assertion
        → IsMadeAt r.moment (response r.message setup.entity r.consumer r.request
        (Some (signed_assertion setup.mode peer.key_out assertion))) made
        → IsSignedFor (kinds.Issued r) peer.key_out made
    ARequest : (r : Left) (peer : LogoutPeer) (row : SessionRow) (address : List ℕ) (made : Made)
        → IsPeer setup r.peer peer → peer.peer.logout ≡ Some address
        → session_found (rows_of held.records).sessions r.cookie r.moment held.header.horizon ≡ Some row
        → IsMadeFrom r.moment (request_end r.moment) (logout_request r.request setup.entity address row.user
        (row.index ∷ [])) made → IsSignedFor (kinds.Left r) peer.key_out made
    AReply : (r : Ended) (peer : LogoutPeer) (address : List ℕ) (made : Made) → IsPeer setup r.peer peer
        → peer.peer.logout ≡ Some address
        → IsMadeAt r.moment (logged_out r.message setup.entity address r.request
        (if r.partial then failed partial_logout else succeeded)) made → IsSignedFor (kinds.Ended r) peer.key_out made
    AFirstRequest : (r : Round) (turn : Turn) (peer : LogoutPeer) (address : List ℕ) (made : Made)
        → slice_get r.turns 0 ≡ Some turn → IsPeer setup turn.peer peer → peer.peer.logout ≡ Some address
        → IsMadeFrom r.moment (request_end r.moment) (logout_request r.request setup.entity address turn.name
        turn.indexes) made → IsSignedFor (kinds.Round r) peer.key_out made
    ANextRequest : (r : Told) (row : RoundRow) (place : ℕ) (turn : Turn) (id : List ℕ) (peer : LogoutPeer)
        (address : List ℕ) (made : Made) → Waits held r row → next_in row r.confirmed ≡ Ask place
        → slice_get row.turns place ≡ Some turn → r.next ≡ Some id → IsPeer setup turn.peer peer
        → peer.peer.logout ≡ Some address
        → IsMadeFrom r.moment (request_end r.moment) (logout_request id setup.entity address turn.name turn.indexes)
        made → IsSignedFor (kinds.Told r) peer.key_out made
    ALastReply : (r : Told) (row : RoundRow) (partial : Bool) (asker : Asker) (peer : LogoutPeer) (address : List ℕ)
        (made : Made) → Waits held r row → next_in row r.confirmed ≡ Done partial → row.asker ≡ Some asker
        → IsPeer setup asker.peer peer → peer.peer.logout ≡ Some address
        → IsMadeAt r.moment (logged_out row.message setup.entity address asker.request
        (if partial then failed partial_logout else succeeded)) made → IsSignedFor (kinds.Told r) peer.key_out made

-- the element is one of these with its Signature
pub record IsSignedOf (setup : IdpConfig) (held : Held) (r : IdpRecord) (element : Made) : Type 0 where
  pub key : List ℕ
  pub made : Made
  pub stands : IsSignedFor setup held r key made
  pub is : element ≡ signed key made

-- the answer is a form that sends this Response on to this address with this relay state, and sets this cookie
pub record Sends (bytes : List ℕ) (sent : Made) (consumer : List ℕ) (relay cookie : Option (List ℕ)) : Type 0 where
  pub is : bytes ≡ answer 200 None cookie (response_form sent consumer relay)

-- the cookie that is set for an Issued: that of the session which it begins, where a login was pending, and else none
abbrev pub cookie_set : Issued → Option (List ℕ)
cookie_set r = option_map (λ (pending : List ℕ). session_cookie r.cookie) r.pending

-- the answer is a form that sends this message of a logout on
pub record SendsOn (bytes : List ℕ) (sent : Made) : Type 0 where
  pub address : List ℕ
  pub field : Field
  pub relay : Option (List ℕ)
  pub is : bytes ≡ answer 200 None None (auto_form address field (written sent) relay)

-- the records that stand for a message of a logout: one for which a peer asked, or which the user began; that of a
-- logout that asks all others, and that of an answer in its turn
abbrev pub IsOfAMessage : IdpRecord → Type 0
IsOfAMessage (kinds.Ended r) = Unit {0}
IsOfAMessage (kinds.Left r) = Unit {0}
IsOfAMessage (kinds.Round r) = Unit {0}
IsOfAMessage (kinds.Told r) = Unit {0}
IsOfAMessage other = ⊥

-- With this answer no turn is left in the round that waits for it, and the logout ended in part, or not.
abbrev pub EndsItsRound : Held → Told → (partial : Bool) → Type 0
EndsItsRound held r partial = (row : RoundRow) × Waits held r row × (next_in row r.confirmed ≡ Done partial)

-- The records that stand for the page at the end of a logout, which says that it ended in part or not (SAML Core,
-- 3.2.2.2): for an Ended as the record says. A provider that should be asked and can't be, as it is no peer any more or
-- has no address for logout, makes it partial; else a Told is of the last answer of its round. Of a Confirmed it is
-- told by the message that the peer sent.
abbrev pub IsOfAnEnd : Held → IdpRecord → (partial : Bool) → Type 0
IsOfAnEnd held (kinds.Ended r) partial = partial ≡ r.partial
IsOfAnEnd held (kinds.Left r) partial = partial ≡ true
IsOfAnEnd held (kinds.Confirmed r) partial = Unit {0}
IsOfAnEnd held (kinds.Round r) partial = partial ≡ true
IsOfAnEnd held (kinds.Told r) partial = (partial ≡ true) ⊎ EndsItsRound held r partial
IsOfAnEnd held other partial = ⊥

module _ (setup : IdpConfig) (held : Held) (request : Request) (bytes : List ℕ) where
  -- What an answer that stands for a record over a ledger carries. For a Pending it is the page where the user logs in,
  -- with the ID of the record's login; for an Issued a Response that goes to the record's address with its relay state,
  -- with the cookie of the session that it begins, and whose signed elements are all of the record; for a Spoke the
  -- Response without an Assertion to the request that the record answers, at the address and with the relay state of
  -- the form that asked, in which nothing is signed; for a record of a logout a message whose signed elements are all of
  -- the record, or the page at the end.
  pub data Carries : IdpRecord → Type 0 where
    AQuestion : (r : Pending) → bytes ≡ login_answer r.pending → Carries (kinds.Pending r)
    ALogin : (r : Issued) (sent : Made) → Sends bytes sent r.consumer r.relay (cookie_set r)
        → AllByRecursion (IsSignedOf setup held (kinds.Issued r)) (signed_elements (alone sent))
        → Carries (kinds.Issued r)
    ARefusal : (r : Spoke) (of : IsOfPassive setup request r)
        (page : IsNoPassiveAnswer setup.entity r.message r.request of.asked.consumer of.asked.relay r.moment bytes)
        → signed_elements (alone page.sent) ≡ [] → Carries (kinds.Spoke r)
    ALogout : (r : IdpRecord) (sent : Made) → IsOfAMessage r → SendsOn bytes sent
        → AllByRecursion (IsSignedOf setup held r) (signed_elements (alone sent)) → Carries r
    AnEnd : (r : IdpRecord) (partial : Bool) → IsOfAnEnd held r partial → bytes ≡ end_answer partial → Carries r

abbrev pub EachSignedElementIsOfARecord : Type 0
EachSignedElementIsOfARecord =
    (setup : IdpConfig) (held : Held) (request : Request) (now : ℕ) (bytes : List ℕ) (r : IdpRecord)
    → Answers setup held request now (Full bytes) (Some r) → Carries setup held request bytes r

-- A page that stands for no record is the metadata.
pub record IsMetadata (setup : IdpConfig) (request : Request) (bytes : List ℕ) : Type 0 where
  pub to : route request ≡ To Metadata
  pub is : bytes ≡ metadata_answer setup.entity setup.base

abbrev pub NoOtherPageIsUnrecorded : Type 0
NoOtherPageIsUnrecorded =
    (setup : IdpConfig) (held : Held) (request : Request) (now : ℕ) (bytes : List ℕ)
    → Answers setup held request now (Full bytes) None → IsMetadata setup request bytes
