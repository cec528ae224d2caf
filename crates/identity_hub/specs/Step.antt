-- What a hub does at one request.
use Rattle.std.specs.Prelude.{◌≡◌, ℕ, true, false, List, [], Option, None, Some, slice_get}
use Rattle.http_wire.specs.declared.answer.Answer.{Answer}
use Rattle.http_wire.specs.declared.answer.Answer.TheVariants.{Fixed, Full}
use Rattle.http_wire.specs.Requests.{Request}
use Rattle.verdict_codes.specs.Codes.{number_of}
use Rattle.verdict_codes.specs.declared.codes.Verdict.{Verdict}
use Rattle.verdict_codes.specs.declared.codes.Verdict.TheVariants as verdicts
use Rattle.metadata.specs.declared.peer.Role.{Role}
use Rattle.ledger_records.specs.declared.hub_record.Backed.{Backed}
use Rattle.ledger_records.specs.declared.hub_record.Routed.{Routed}
use Rattle.ledger_records.specs.declared.hub_record.HubRecord.{HubRecord}
use Rattle.ledger_records.specs.declared.hub_record.HubRecord.TheVariants as kinds
use Rattle.peer_keys.specs.Peers.{place_of}
use Rattle.peer_keys.specs.declared.peers.LogoutPeer.{LogoutPeer}
use Rattle.provider_config.specs.declared.idp_config.SignMode.TheVariants.{Assertion}
use Rattle.request_rows.specs.declared.row.AskedRow.{AskedRow}
use Rattle.request_rows.specs.Rows.{RowsView}
use Rattle.hub_ledger.specs.declared.row.BelowRow.{BelowRow}
use Rattle.hub_ledger.specs.Drafts.{backed, routed, spoke}
use Rattle.hub_ledger.specs.Draft.{first_id}
use Rattle.hub_ledger.specs.Finding.{routed_row}
use Rattle.hub_ledger.specs.Ledger.{Held, next_number}
use Rattle.hub_ledger.specs.RowsOf.{HubRows, Route, rows_of}
use Rattle.idp_rules.specs.Asking.{IsAsked}
use Rattle.idp_rules.specs.Verdict as requests
use Rattle.idp_rules.specs.declared.asked.Asked.{Asked}
use Rattle.sp_rules.specs.Opening.{Brought, Opens}
use Rattle.sp_rules.specs.Shown.{session_of}
use Rattle.sp_rules.specs.Verdict as logins
use Rattle.sp_answers.specs.Answers.{IsAskAnswer}
use Rattle.idp_answers.specs.Answers.{IsIssuedAnswer, IsNoPassiveAnswer, plain_metadata_answer}
use Rattle.provider_node.specs.Step as any
use Rattle.service_routes.specs.declared.route.Route.TheVariants.{To, Refused}
use Rattle.identity_hub.specs.declared.config.HubConfig.{HubConfig}
use Rattle.identity_hub.specs.declared.route.Service.TheVariants.{SignOn, Consumer, Metadata}
use Rattle.identity_hub.specs.Config.{sign_on}
use Rattle.identity_hub.specs.Logins.{login_of}
use Rattle.identity_hub.specs.Routes.{route}

-- a hub: what it is set up with, and its ledger
abbrev pub Provider : Type 0
Provider = any.Provider HubConfig HubRecord

-- ---- what a request brings

-- the request of a provider below, as the ledger keeps it
abbrev pub below_of : Asked → LogoutPeer → BelowRow
below_of asked peer =
    record { peer = peer.peer.entity; consumer = asked.consumer; request = asked.request; relay = asked.relay }

-- a posted form asks for a login of this peer
pub record AsksFor (setup : HubConfig) (request : Request) (asked : Asked) (peer : LogoutPeer) : Type 0 where
  pub to : route request ≡ To SignOn
  pub is : IsAsked setup.peers (sign_on setup) request.body asked
  pub known : slice_get setup.peers asked.peer ≡ Some peer

-- the rows of a ledger as the verdict on a login sees them
abbrev pub rows_seen : HubRows → RowsView
rows_seen rows =
    record { asked = rows.asked; opened = rows.opened; left = []; spare = record { asked = 0; opened = 0; left = 0 } }

-- a posted form brings this login from above, over the hub's rows, as the answer to this request upwards
pub record BringsLogin (setup : HubConfig) (held : Held) (request : Request) (now : ℕ) (b : Brought)
    (asked : AskedRow) :
    Type 0 where
  pub to : route request ≡ To Consumer
  pub opens : Opens setup.upstream (rows_seen (rows_of held.records)) held.header.horizon now request.body b asked

-- The request upwards of this ID waits for a login, it was sent for this one below, and the peer that asked is still
-- known.
pub record IsFor (setup : HubConfig) (held : Held) (now : ℕ) (id : List ℕ) (row : Route) (peer : LogoutPeer) : Type 0
  where
    pub found : routed_row (rows_of held.records) id now held.header.horizon ≡ Some row
    pub place : ℕ
    pub known : place_of row.below.peer setup.peers ≡ Some place
    pub there : slice_get setup.peers place ≡ Some peer

-- ---- the records, and the answers that stand for them

-- the record of a request upwards, and that of an answer without an Assertion
abbrev pub routed_for : HubConfig → Held → ℕ → BelowRow → HubRecord
routed_for setup held now below = routed setup.upstream.id_key (next_number held) now below

abbrev pub spoken_for : HubConfig → Held → ℕ → BelowRow → HubRecord
spoken_for setup held now below = spoke setup.upstream.id_key (next_number held) now below

-- the record of a login from above that is passed on to a request below
abbrev pub backed_for : HubConfig → Held → ℕ → Brought → BelowRow → HubRecord
backed_for setup held now b below =
    backed setup.upstream.id_key (next_number held) now below (session_of setup.upstream now b.key.number b.login)

-- the answer with the login that is passed on, to this peer: the Assertion is signed, with the key of what is sent to
-- the peer (SAML Profiles, 4.1.4.2 and 4.1.4.5)
abbrev pub IsAnswerFor : HubConfig → LogoutPeer → Backed → ℕ → List ℕ → Type 0
IsAnswerFor setup peer r now bytes =
    IsIssuedAnswer Assertion peer.key_out (login_of setup.upstream.entity r) r.message r.consumer r.below_relay None now
    bytes

module _ (setup : HubConfig) (held : Held) (request : Request) (now : ℕ) (answer : Answer)
    (adds : Option HubRecord) where
  -- What is answered to a request by this ledger at this moment where nothing fails, and the record that is added with
  -- it.
  pub data Answers : Type 0 where
    -- there is no such service
    ByStatus : (status : ℕ) → route request ≡ Refused status → answer ≡ Fixed status → adds ≡ None → Answers
    -- the metadata, as those below or the one above see the hub: without logout
    ByMetadata : (role : Role) → route request ≡ To (Metadata role)
        → answer ≡ Full (plain_metadata_answer role setup.upstream.entity setup.upstream.base) → adds ≡ None → Answers
    -- a posted form that asks for no login
    ByRefusal : (verdict : Verdict) → route request ≡ To SignOn
        → requests.IsRefused setup.peers (sign_on setup) request.body verdict → answer ≡ Fixed (number_of verdict)
        → adds ≡ None → Answers
    -- a login is asked for, and the user may not be asked: SAML Core, 3.4.1, IsPassive. The hub knows no user by
    -- itself.
    BySpeaking : (asked : Asked) (peer : LogoutPeer) (message bytes : List ℕ) → AsksFor setup request asked peer
        → asked.passive ≡ true → adds ≡ Some (spoken_for setup held now (below_of asked peer))
        → first_id (spoken_for setup held now (below_of asked peer)) ≡ Some message
        → IsNoPassiveAnswer setup.upstream.entity message asked.request asked.consumer asked.relay now bytes
        → answer ≡ Full bytes → Answers
    -- else the provider above is asked: SAML Core, 3.4.1.5
    ByAsking : (asked : Asked) (peer : LogoutPeer) (r : Routed) (bytes : List ℕ) → AsksFor setup request asked peer
        → asked.passive ≡ false → routed_for setup held now (below_of asked peer) ≡ kinds.Routed r
        → adds ≡ Some (kinds.Routed r) → IsAskAnswer setup.upstream r.request r.relay now bytes → answer ≡ Full bytes
        → Answers
    -- a posted form that brings no login from above
    ByVerdict : (verdict : Verdict) → route request ≡ To Consumer
        → logins.IsRefused setup.upstream (rows_seen (rows_of held.records)) held.header.horizon now request.body
        verdict → answer ≡ Fixed (number_of verdict) → adds ≡ None → Answers
    -- it brings one, and the provider below for which it was asked is not known any more
    ByUnknownPeer : (b : Brought) (asked : AskedRow) → BringsLogin setup held request now b asked
        → ((row : Route) (peer : LogoutPeer) → ¬ (IsFor setup held now b.login.request row peer))
        → answer ≡ Fixed (number_of verdicts.UnknownIssuer) → adds ≡ None → Answers
    -- it brings one, and this is passed on
    ByPassing : (b : Brought) (asked : AskedRow) (row : Route) (peer : LogoutPeer) (r : Backed) (bytes : List ℕ)
        → BringsLogin setup held request now b asked → IsFor setup held now b.login.request row peer
        → backed_for setup held now b row.below ≡ kinds.Backed r → adds ≡ Some (kinds.Backed r)
        → IsAnswerFor setup peer r now bytes → answer ≡ Full bytes → Answers

-- ---- one request
