-- How a request is replied to with a record: what it asks for, the record that stands for it, and the page.
use Rattle.std.specs.Prelude.{◌≡◌, ◌≢◌, ◌⊎◌, ℕ, ◌<◌, min, Bool, true, false, List, [], length, Option, None, Some, IsSome, slice_get, Result}
use Rattle.std.specs.Option.{option_map}
use Rattle.xml_spec.specs.Characters.{IsText}
use Rattle.http_wire.specs.Requests.{Request}
use Rattle.verdict_codes.specs.declared.codes.Verdict.TheVariants.{UnknownIssuer}
use Rattle.ledger_records.specs.declared.hub_record.Backed.{Backed}
use Rattle.ledger_records.specs.declared.hub_record.Routed.{Routed}
use Rattle.ledger_records.specs.declared.hub_record.HubRecord.{HubRecord}
use Rattle.ledger_records.specs.declared.hub_record.HubRecord.TheVariants as kinds
use Rattle.peer_keys.specs.declared.peers.LogoutPeer.{LogoutPeer}
use Rattle.hub_ledger.specs.declared.row.BelowRow.{BelowRow}
use Rattle.hub_ledger.specs.Draft.{first_id}
use Rattle.hub_ledger.specs.Drafts.{AreSessionTexts, IsXmlBelow, backed, routed, spoke}
use Rattle.hub_ledger.specs.Finding.{routed_row}
use Rattle.hub_ledger.specs.Ledger.{Held, next_number}
use Rattle.hub_ledger.specs.Record.{LAST}
use Rattle.hub_ledger.specs.RowsOf.{Route, rows_of}
use Rattle.idp_rules.specs.declared.asked.Asked.{Asked}
use Rattle.sp_rules.specs.declared.accepted.Accepted.{Accepted}
use Rattle.sp_rules.specs.Shown.{IsOpening}
use Rattle.sp_answers.specs.Answers.{IsAskAnswer}
use Rattle.sp_answers.specs.Judging.{CanBeRecorded}
use Rattle.idp_answers.specs.Answers.{IsNoPassiveAnswer}
use Rattle.idp_answers.specs.Stating.{AreTold, CanBeStated, IsTold}
use Rattle.fault_verdicts.specs.declared.judged.Judged.{Judged}
use Rattle.provider_node.specs.Replies as any
use Rattle.provider_node.specs.Replies.{ReplyRules}
use Rattle.provider_node.specs.declared.replied.Replied.{Replied}
use Rattle.service_routes.specs.declared.route.Route.TheVariants.{To}
use Rattle.identity_hub.specs.declared.config.HubConfig.{HubConfig}
use Rattle.identity_hub.specs.declared.reply.Reply.{Reply}
use Rattle.identity_hub.specs.declared.reply.Reply.TheVariants as replies
use Rattle.identity_hub.specs.declared.route.Service.TheVariants.{Consumer}
use Rattle.identity_hub.specs.Logins.{stated_by}
use Rattle.identity_hub.specs.Routes.{route}
use Rattle.identity_hub.specs.Step.{Answers, AsksFor, IsAnswerFor, IsFor, below_of, rows_seen}

-- THE RECORD

-- the record that stands for a reply over a ledger; none where no such request upwards waits
abbrev pub record_for : (key : List ℕ) → Held → ℕ → Reply → Option HubRecord
record_for key held now (replies.Speak below) = Some (spoke key (next_number held) now below)
record_for key held now (replies.Ask below) = Some (routed key (next_number held) now below)
record_for key held now (replies.Pass accepted peer) =
    option_map (λ row. backed key (next_number held) now row.below accepted.session)
    (routed_row (rows_of held.records) accepted.session.request now held.header.horizon)

-- it can be drafted
pub record CanPass (held : Held) (now : ℕ) (accepted : Accepted) : Type 0 where
  pub texts : AreSessionTexts accepted.session
  pub key : (accepted.session.key ≡ 1) ⊎ (accepted.session.key ≡ 2)
  pub routed : IsSome (routed_row (rows_of held.records) accepted.session.request now held.header.horizon)

abbrev pub CanDraft : Held → ℕ → Reply → Type 0
CanDraft held now (replies.Speak below) = IsXmlBelow below
CanDraft held now (replies.Ask below) = IsXmlBelow below
CanDraft held now (replies.Pass accepted peer) = CanPass held now accepted

-- THE PAGE

-- an answer without an Assertion
pub record IsSpokenPage (setup : HubConfig) (below : BelowRow) (r : HubRecord) (now : ℕ) (bytes : List ℕ) : Type 0 where
  pub message : List ℕ
  pub named : first_id r ≡ Some message
  pub answers : IsNoPassiveAnswer setup.upstream.entity message below.request below.consumer below.relay now bytes

-- a request upwards
pub record IsAskingPage (setup : HubConfig) (r : HubRecord) (now : ℕ) (bytes : List ℕ) : Type 0 where
  pub routed : Routed
  pub is : r ≡ kinds.Routed routed
  pub asks : IsAskAnswer setup.upstream routed.request routed.relay now bytes

-- a login that is passed on to the peer at this place
pub record IsPassedPage (setup : HubConfig) (place : ℕ) (r : HubRecord) (now : ℕ) (bytes : List ℕ) : Type 0 where
  pub backed : Backed
  pub is : r ≡ kinds.Backed backed
  pub peer : LogoutPeer
  pub there : slice_get setup.peers place ≡ Some peer
  pub answers : IsAnswerFor setup peer backed now bytes

-- the page that stands for the record of a reply
abbrev pub IsPage : HubConfig → Reply → HubRecord → ℕ → List ℕ → Type 0
IsPage setup (replies.Speak below) r now bytes = IsSpokenPage setup below r now bytes
IsPage setup (replies.Ask below) r now bytes = IsAskingPage setup r now bytes
IsPage setup (replies.Pass accepted peer) r now bytes = IsPassedPage setup peer r now bytes

-- what a page needs: its texts may stand in a document
pub record HasRefusal (below : BelowRow) (r : HubRecord) : Type 0 where
  pub message : List ℕ
  pub named : first_id r ≡ Some message
  pub text : IsText message
  pub request : IsText below.request
  pub consumer : IsText below.consumer

pub record HasRequest (r : HubRecord) : Type 0 where
  pub routed : Routed
  pub is : r ≡ kinds.Routed routed
  pub request : IsText routed.request
  pub named : routed.request ≢ []

pub record HasLogin (setup : HubConfig) (place : ℕ) (r : HubRecord) : Type 0 where
  pub backed : Backed
  pub is : r ≡ kinds.Backed backed
  pub states : CanBeStated (stated_by backed)
  pub message : IsText backed.message
  pub message_named : backed.message ≢ []
  pub known : place < length setup.peers

abbrev pub CanBeShown : HubConfig → Reply → HubRecord → Type 0
CanBeShown setup (replies.Speak below) r = HasRefusal below r
CanBeShown setup (replies.Ask below) r = HasRequest r
CanBeShown setup (replies.Pass accepted peer) r = HasLogin setup peer r

-- WHEN A REQUEST ASKS FOR A REPLY

-- the texts of a request below may stand in a document
pub record IsTextBelow (below : BelowRow) : Type 0 where
  pub request : IsText below.request
  pub peer : IsText below.peer
  pub consumer : IsText below.consumer

-- a peer asks for a login, and its user may be asked or not
pub record AsksBelow (passive : Bool) (setup : HubConfig) (request : Request) (now : ℕ) (below : BelowRow) : Type 0
  where
    pub asked : Asked
    pub peer : LogoutPeer
    pub asks : AsksFor setup request asked peer
    pub passive_is : asked.passive ≡ passive
    pub says : below ≡ below_of asked peer
    pub texts : IsTextBelow below
    pub told : IsTold now

-- a posted form brings a login for a request of the peer at this place
pub record PassesOn (setup : HubConfig) (held : Held) (request : Request) (now : ℕ) (accepted : Accepted) (place : ℕ) :
    Type 0 where
  pub to : route request ≡ To Consumer
  pub opens : IsOpening setup.upstream (rows_seen (rows_of held.records)) held.header.horizon now request.body accepted
  pub recordable : CanBeRecorded accepted.session
  pub row : Route
  pub peer : LogoutPeer
  pub is_for : IsFor setup held now accepted.session.request row peer
  pub placed : is_for.place ≡ place
  pub texts : IsTextBelow row.below
  pub told : AreTold now (min LAST accepted.session.until)

abbrev pub Wants : HubConfig → Held → Request → ℕ → Reply → Type 0
Wants setup held request now (replies.Speak below) = AsksBelow true setup request now below
Wants setup held request now (replies.Ask below) = AsksBelow false setup request now below
Wants setup held request now (replies.Pass accepted peer) = PassesOn setup held request now accepted peer

-- IN THE WORDS OF A STEP

-- The code that says that there is nothing to record is never answered: a reply that is wanted always has a record.
abbrev pub hub_replies : ReplyRules HubConfig HubRecord Reply
hub_replies = record {
  wants = Wants;
  record_for = λ setup held now reply. record_for setup.upstream.id_key held now reply;
  shows = λ setup reply r now bytes. IsPage setup reply r now bytes;
  refusal = λ reply. UnknownIssuer;
}

-- what is replied to a request
abbrev pub RepliesTo : HubConfig → Held → Request → (now : ℕ) → Result (Replied Reply) Judged → Type 0
RepliesTo setup held request now =
    any.Replies (λ answer. Answers setup held request now answer None) (Wants setup held request now)
