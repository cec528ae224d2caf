-- When a login from above is passed on: exactly where a posted form brings one for a request of a provider below that
-- is known. And when one is asked for above: only where a posted form of a provider below asks for it.
use Rattle.std.specs.Prelude.{◌≡◌, ◌⊎◌, ℕ, true, false, min, List, Some}
use Rattle.crash_disk.specs.Counts.{Rose}
use Rattle.http_wire.specs.declared.answer.Answer.{Answer}
use Rattle.http_wire.specs.declared.answer.Answer.TheVariants.{Fixed, Full}
use Rattle.http_wire.specs.Requests.{Request}
use Rattle.ledger_records.specs.declared.hub_record.Backed.{Backed}
use Rattle.ledger_records.specs.declared.hub_record.Routed.{Routed}
use Rattle.ledger_records.specs.declared.hub_record.Spoke.{Spoke}
use Rattle.ledger_records.specs.declared.hub_record.HubRecord.{HubRecord}
use Rattle.ledger_records.specs.declared.hub_record.HubRecord.TheVariants as kinds
use Rattle.peer_keys.specs.declared.peers.LogoutPeer.{LogoutPeer}
use Rattle.request_rows.specs.declared.row.AskedRow.{AskedRow}
use Rattle.hub_ledger.specs.Ledger.{Held}
use Rattle.record_ledger.specs.Ledger.{held_with}
use Rattle.hub_ledger.specs.Draft.{first_id}
use Rattle.hub_ledger.specs.Record.{LAST, hub_rules}
use Rattle.hub_ledger.specs.RowsOf.{Route, below_row}
use Rattle.idp_rules.specs.declared.asked.Asked.{Asked}
use Rattle.sp_rules.specs.Opening.{Brought}
use Rattle.sp_rules.specs.Shown.{session_end}
use Rattle.idp_answers.specs.Answers.{IsNoPassiveAnswer}
use Rattle.provider_node.specs.Room as any
use Rattle.provider_node.specs.Room.{IsRecordedOver}
use Rattle.provider_node.specs.declared.codes.TheConstants.{NO_MEMORY}
use Rattle.identity_hub.specs.declared.config.HubConfig.{HubConfig}
use Rattle.identity_hub.specs.Step.{Answers, AsksFor, BringsLogin, IsAnswerFor, IsFor, Provider, backed_for, below_of}
use Rattle.identity_hub.specs.Step.{spoken_for}
use Rattle.provider_node.specs.Step.{Serves}

-- Over a ledger, at a moment, the form that a request posts brings a login that can be passed on: for this request
-- below, of this peer.
pub record CanPassOn (setup : HubConfig) (held : Held) (request : Request) (now : ℕ) (b : Brought) (row : Route)
    (peer : LogoutPeer) : Type 0 where
  pub asked : AskedRow
  pub brings : BringsLogin setup held request now b asked
  pub is_for : IsFor setup held now b.login.request row peer

-- What a record says of the login from above: who it is and what was stated of the user, by which Assertion and for
-- which request upwards, until when; and to which request below it goes.
pub record IsOfLogin (setup : HubConfig) (now : ℕ) (b : Brought) (row : Route) (r : Backed) : Type 0 where
  pub name : r.name ≡ b.login.name
  pub attributes : r.attributes ≡ b.login.attributes
  pub issuer : r.issuer ≡ b.login.issuer
  pub above : r.above ≡ b.login.id
  pub request : r.request ≡ b.login.request
  pub until : r.until ≡ min LAST (session_end now b.login.session_until)
  pub peer : r.peer ≡ row.below.peer
  pub consumer : r.consumer ≡ row.below.consumer
  pub below : r.below ≡ row.below.request
  pub relay : r.below_relay ≡ row.below.relay

-- This record and this answer pass on the login that the form brings: the answer goes to the peer, with an Assertion of
-- what the record says.
pub record PassesLogin (setup : HubConfig) (held : Held) (request : Request) (now : ℕ) (r : HubRecord)
    (answer : Answer) :
    Type 0 where
  pub brought : Brought
  pub row : Route
  pub peer : LogoutPeer
  pub can : CanPassOn setup held request now brought row peer
  pub is : r ≡ backed_for setup held now brought row.below
  pub backed : Backed
  pub kind : r ≡ kinds.Backed backed
  pub says : IsOfLogin setup now brought row backed
  pub bytes : List ℕ
  pub answers : IsAnswerFor setup peer backed now bytes
  pub answered : answer ≡ Full bytes

-- A login is recorded as passed on only where the form brings it.
abbrev pub OnlyWhereALoginIsBrought : Type 0
OnlyWhereALoginIsBrought =
    (setup : HubConfig) (held : Held) (request : Request) (now : ℕ) (answer : Answer) (r : Backed)
    → Answers setup held request now answer (Some (kinds.Backed r))
    → PassesLogin setup held request now (kinds.Backed r) answer

-- There is room for the record, at once or behind one compaction.
abbrev pub HasRoom : HubConfig → (found : Held) → (now : ℕ) → Brought → Route → Type 0
HasRoom setup found now b row = any.HasRoom hub_rules found now (λ held. backed_for setup held now b row.below)

-- The login is recorded behind the records of the ledger that was found, or, where there was no place behind these, of
-- what one compaction made of it; and it is passed on.
pub record IsPassedOn (setup : HubConfig) (found : Held) (request : Request) (now : ℕ) (b : Brought) (row : Route)
    (answer : Answer) (new : Held) : Type 0 where
  pub held : Held
  pub over : IsRecordedOver hub_rules found now (λ other. backed_for setup other now b row.below) held
  pub passes : PassesLogin setup held request now (backed_for setup held now b row.below) answer
  pub added : new ≡ held_with (backed_for setup held now b row.below) held

-- And wherever a form brings one that can be passed on, there is room for it and the disk does not fail, it is; or
-- there was no memory.
abbrev pub WhereverALoginIsBrought : Type 0
WhereverALoginIsBrought =
    (found : Held) (request : Request) (now faults later : ℕ) (answer : Answer) (old new : Provider) (b : Brought)
    (row : Route) (peer : LogoutPeer)
    → Serves hub_rules Answers found request now (Rose faults later) answer old new
    → CanPassOn old.setup found request now b row peer
    → HasRoom old.setup found now b row → ¬ (Rose faults later)
    → (answer ≡ Fixed NO_MEMORY) ⊎ IsPassedOn old.setup found request now b row answer new.ledger.held

-- ---- for which request below one is sent upwards

-- A provider below that is known asked by a form for a login, and its user may be asked (SAML Core, 3.4.1 and 3.4.1.5):
-- the record of the request upwards has that provider, the address to which the answer to it goes, the ID of its
-- request, and the relay state of its form (SAML Bindings, 3.5.3).
pub record IsOfBelow (setup : HubConfig) (request : Request) (r : Routed) : Type 0 where
  pub asked : Asked
  pub peer : LogoutPeer
  pub asks : AsksFor setup request asked peer
  pub askable : asked.passive ≡ false
  pub below_is : below_row r ≡ below_of asked peer

-- A provider below that is known asked by a form for a login, and its user may not be asked (SAML Core, 3.4.1,
-- IsPassive): the record of the Response without an Assertion has that provider and the ID of its request.
pub record IsOfPassive (setup : HubConfig) (request : Request) (r : Spoke) : Type 0 where
  pub asked : Asked
  pub peer : LogoutPeer
  pub asks : AsksFor setup request asked peer
  pub passive : asked.passive ≡ true
  pub peer_is : r.peer ≡ peer.peer.entity
  pub request_is : r.request ≡ asked.request

-- So it is of each request that is sent upwards, and of each Response without an Assertion.
abbrev pub EachRequestUpwardsIsOfOneBelow : Type 0
EachRequestUpwardsIsOfOneBelow =
    (setup : HubConfig) (held : Held) (request : Request) (now : ℕ) (answer : Answer) (r : Routed)
    → Answers setup held request now answer (Some (kinds.Routed r)) → IsOfBelow setup request r

abbrev pub EachRefusalIsOfOneBelow : Type 0
EachRefusalIsOfOneBelow =
    (setup : HubConfig) (held : Held) (request : Request) (now : ℕ) (answer : Answer) (r : Spoke)
    → Answers setup held request now answer (Some (kinds.Spoke r)) → IsOfPassive setup request r

-- ---- where the user may not be asked

-- The record of an answer is that of a Response without an Assertion to the request of this peer, and this is the
-- answer.
pub record IsSpoken (setup : HubConfig) (held : Held) (asked : Asked) (peer : LogoutPeer) (now : ℕ) (r : HubRecord)
    (answer : Answer) : Type 0 where
  pub is : r ≡ spoken_for setup held now (below_of asked peer)
  pub message : List ℕ
  pub named : first_id r ≡ Some message
  pub bytes : List ℕ
  pub answers : IsNoPassiveAnswer setup.upstream.entity message asked.request asked.consumer asked.relay now bytes
  pub answered : answer ≡ Full bytes

-- Where a request of a provider below says that its user may not be asked, no login is asked for above: whatever is
-- recorded with the answer is a Response without an Assertion, which says that the user could not be authenticated
-- passively.
abbrev pub NothingIsAskedOfAUserWhoMayNotBeAsked : Type 0
NothingIsAskedOfAUserWhoMayNotBeAsked =
    (setup : HubConfig) (held : Held) (request : Request) (now : ℕ) (answer : Answer) (r : HubRecord) (asked : Asked)
    (peer : LogoutPeer)
    → AsksFor setup request asked peer → asked.passive ≡ true → Answers setup held request now answer (Some r)
    → IsSpoken setup held asked peer now r answer
