-- Where the logins come from that a hub passes on: SAML Core, 3.4.1.5; SAML Profiles, 4.1.4.5.
use Rattle.std.specs.Prelude.{◌≡◌, ◌⊎◌, ℕ, ◌+◌, ◌<◌, ◌≤◌, List, Some, Contains, slice_get}
use Rattle.std.specs.List.{AllByRecursion}
use Rattle.tree_read.specs.Texts.{trimmed}
use Rattle.element_make.specs.Made.{Made, IsMade}
use Rattle.sig_reference.specs.Signing.{signed}
use Rattle.assertion_model.specs.Assertion.{IsAssertionOf}
use Rattle.http_wire.specs.declared.answer.Answer.{Answer}
use Rattle.http_wire.specs.Requests.{Request}
use Rattle.ledger_records.specs.declared.hub_record.Backed.{Backed}
use Rattle.ledger_records.specs.declared.hub_record.HubRecord.TheVariants as hub_kinds
use Rattle.ledger_records.specs.declared.idp_record.Issued.{Issued}
use Rattle.ledger_records.specs.declared.idp_record.IdpRecord.TheVariants as kinds
use Rattle.peer_keys.specs.Peers.{place_of}
use Rattle.peer_keys.specs.declared.peers.LogoutPeer.{LogoutPeer}
use Rattle.request_rows.specs.declared.row.NewSession.{NewSession}
use Rattle.request_rows.specs.Rows.{RowsView}
use Rattle.idp_answers.specs.Stating.{presented_until}
use Rattle.idp_ledger.specs.Ledger as idp_ledger
use Rattle.idp_rules.specs.declared.config.IdpConfig.{IdpConfig}
use Rattle.sp_rules.specs.declared.accepted.Accepted.{Accepted}
use Rattle.sp_rules.specs.declared.config.SpConfig.{SpConfig}
use Rattle.sp_rules.specs.Meant.{consumer}
use Rattle.sp_rules.specs.Shown.{IsOpening}
use Rattle.hub_ledger.specs.Ledger.{Held}
use Rattle.login_origin.specs.Signed.{Signed}
use Rattle.login_origin.specs.Premises.{Unforged, NoCollision}
use Rattle.recorded_logins.specs.Documents.{IsDocumentOf}
use Rattle.recorded_logins.specs.Recorded.{Added, AreOf}
use Rattle.identity_hub.specs.declared.config.HubConfig.{HubConfig}
use Rattle.identity_hub.specs.Logins.{login_of}
use Rattle.identity_hub.specs.Step.{Answers}

-- ---- what a hub signs for those below

-- the peer of this name
pub record IsPeer (hub : HubConfig) (entity : List ℕ) (peer : LogoutPeer) : Type 0 where
  pub place : ℕ
  pub known : place_of entity hub.peers ≡ Some place
  pub there : slice_get hub.peers place ≡ Some peer

-- the document of the Assertion that a hub signed for one of these records, with the key of what is sent to the record's peer
pub record IsOf (hub : HubConfig) (passed : List Backed) (s : Signed) : Type 0 where
  pub one : Backed
  pub known : Contains passed one
  pub peer : LogoutPeer
  pub of_peer : IsPeer hub one.peer peer
  pub assertion : Made
  pub of_login : IsAssertionOf (login_of hub.upstream.entity one) assertion
  pub made : IsMade (signed peer.key_out assertion)
  pub document : IsDocumentOf (signed peer.key_out assertion) s

-- each of them is one
abbrev pub AreSignedFor : HubConfig → List Backed → List Signed → Type 0
AreSignedFor hub passed issued = AllByRecursion (IsOf hub passed) issued

-- ---- a session below

-- The session of a provider below is that of a login which the hub passed on to it: to its address and in its time, with the name and
-- the attributes of the record.
pub record IsPassedSession (hub : HubConfig) (passed : List Backed) (config : SpConfig) (now : ℕ) (session : NewSession) :
    Type 0 where
  pub one : Backed
  pub known : Contains passed one
  pub issuer : trimmed hub.upstream.entity ≡ config.idp.entity
  pub audience : trimmed one.peer ≡ config.entity
  pub address : one.consumer ≡ consumer config
  pub begun : one.moment ≤ now + config.skew
  pub accepted : now < presented_until one.moment + config.skew
  pub lives : now < one.until
  pub request : session.request ≡ one.below
  pub assertion : session.assertion ≡ one.assertion
  pub name : session.name ≡ one.name
  pub attributes : session.attributes ≡ one.attributes

-- If nobody else makes HMACs that match, and no hash collides, each session that a provider below opens is one of these.
abbrev pub ASessionBelowWasPassedOn : Type 0
ASessionBelowWasPassedOn =
    (hub : HubConfig) (passed : List Backed) (issued : List Signed) (config : SpConfig) (rows : RowsView)
    (horizon now : ℕ) (body : List ℕ) (accepted : Accepted)
    → AreSignedFor hub passed issued → Unforged issued config now body → NoCollision issued body
    → IsOpening config rows horizon now body accepted → IsPassedSession hub passed config now accepted.session

-- ---- a login from above

-- A record of a login that was passed on is of a login that the provider above recorded for the hub: it has the name and the attributes
-- of an issued record, by its Assertion and for its request.
pub record IsOfARecordedLogin (above : IdpConfig) (added : List Added) (hub : HubConfig) (r : Backed) : Type 0 where
  pub held : idp_ledger.Held
  pub issued : Issued
  pub known : Contains added (record { held = held; r = kinds.Issued issued })
  pub issuer : trimmed above.entity ≡ hub.upstream.idp.entity
  pub audience : trimmed issued.peer ≡ hub.upstream.entity
  pub request : r.request ≡ issued.request
  pub assertion : r.above ≡ issued.assertion
  pub name : r.name ≡ issued.user
  pub attributes : r.attributes ≡ issued.attributes

-- The hub passed a login on at some request, at which nobody but the provider above made HMACs that match for what it had signed, and
-- no hash collided.
pub record WasPassedOn (hub : HubConfig) (issued : List Signed) (r : Backed) : Type 0 where
  pub held : Held
  pub request : Request
  pub now : ℕ
  pub answer : Answer
  pub adds : Answers hub held request now answer (Some (hub_kinds.Backed r))
  pub unforged : Unforged issued hub.upstream now request.body
  pub apart : NoCollision issued request.body

abbrev pub ALoginThatIsPassedOnWasRecorded : Type 0
ALoginThatIsPassedOnWasRecorded =
    (above : IdpConfig) (added : List Added) (issued : List Signed) (hub : HubConfig) (r : Backed)
    → AreOf above added issued → WasPassedOn hub issued r → IsOfARecordedLogin above added hub r

-- ---- over both hops

-- A session that a provider below opens has the name and the attributes of a login that the provider above recorded for the hub; or of a
-- record that the hub had at the start.
pub record IsOfALoginAbove (above : IdpConfig) (added : List Added) (hub : HubConfig) (at_start : List Backed)
    (session : NewSession) : Type 0 where
  pub r : Backed
  pub name : session.name ≡ r.name
  pub attributes : session.attributes ≡ r.attributes
  pub of : Contains at_start r ⊎ IsOfARecordedLogin above added hub r

abbrev pub ASessionBelowIsOfALoginAbove : Type 0
ASessionBelowIsOfALoginAbove =
    (above : IdpConfig) (added : List Added) (issued_above : List Signed) (hub : HubConfig)
    (at_start passed : List Backed) (issued : List Signed) (config : SpConfig) (rows : RowsView) (horizon now : ℕ)
    (body : List ℕ) (accepted : Accepted)
    → AreOf above added issued_above
    → ((r : Backed) → Contains passed r → Contains at_start r ⊎ WasPassedOn hub issued_above r)
    → AreSignedFor hub passed issued → Unforged issued config now body → NoCollision issued body
    → IsOpening config rows horizon now body accepted → IsOfALoginAbove above added hub at_start accepted.session
