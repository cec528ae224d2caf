-- Laws on the logins that a hub passes on: to which request below each goes, and of which login from above it is.
use Rattle.std.specs.Prelude.{◌≡◌, ◌⊎◌, ℕ, false, List, codes, Contains, Option, None, Some, Ok}
use Rattle.std.specs.List.{AllByRecursion}
use Rattle.xml_spec.specs.Tree.{Nodes}
use Rattle.xml_spec.specs.Document.{Spells}
use Rattle.tree_read.specs.Texts.{attribute_text}
use Rattle.element_make.specs.Made.{IsMade}
use Rattle.sig_reference.specs.Signing.{signed}
use Rattle.protocol_messages.specs.Making.{authn_request}
use Rattle.protocol_messages.specs.Messages.{flag}
use Rattle.crash_disk.specs.Counts.{Rose}
use Rattle.crash_disk.specs.Disk.{Image, DiskState}
use Rattle.http_wire.specs.declared.answer.Answer.{Answer}
use Rattle.http_wire.specs.declared.answer.Answer.TheVariants.{Fixed, Full}
use Rattle.http_wire.specs.Answers.{answer as answer_of}
use Rattle.http_wire.specs.Requests.{Request}
use Rattle.ledger_records.specs.declared.hub_record.Backed.{Backed}
use Rattle.ledger_records.specs.declared.hub_record.Routed.{Routed}
use Rattle.ledger_records.specs.declared.hub_record.HubRecord.{HubRecord}
use Rattle.ledger_records.specs.declared.hub_record.HubRecord.TheVariants as kinds
use Rattle.login_origin.specs.Signed.{Signed, IsSigned}
use Rattle.login_origin.specs.Premises.{Unforged, NoCollision}
use Rattle.login_origin.specs.Origin.{IsLoginOf}
use Rattle.serve_loop.specs.Turns.{Asked}
use Rattle.request_rows.specs.Rows.{RowsView}
use Rattle.request_rows.specs.declared.row.NewSession.{NewSession}
use Rattle.sp_rules.specs.declared.accepted.Accepted.{Accepted}
use Rattle.sp_rules.specs.declared.config.SpConfig.{SpConfig}
use Rattle.sp_rules.specs.Meant.{consumer}
use Rattle.sp_rules.specs.Shown.{IsOpening}
use Rattle.sp_answers.specs.Answers.{ask_message, ask_page}
use Rattle.idp_rules.specs.declared.config.IdpConfig.{IdpConfig}
use Rattle.hub_ledger.specs.Backing.{GoesBack, HasRequest}
use Rattle.hub_ledger.specs.Laws.{AnswerAlike}
use Rattle.hub_ledger.specs.Ledger.{Held, ledger_in}
use Rattle.hub_ledger.specs.Record.{AreRecords, hub_rules}
use Rattle.recorded_logins.specs.Recorded.{Added, AreOf}
use Rattle.passed_logins.specs.Passed.{AreSignedFor, IsOfARecordedLogin, IsPassedSession}
use Rattle.provider_node.specs.Added.{IsAddedBy}
use Rattle.provider_node.specs.declared.codes.TheConstants.{NO_MEMORY}
use Rattle.identity_hub.specs.declared.config.HubConfig.{HubConfig}
use Rattle.identity_hub.specs.Passing.{PassesLogin}
use Rattle.identity_hub.specs.Step.{Answers, Provider}
use Rattle.provider_node.specs.Step.{Steps}

-- ---- to which request below

-- There is a request upwards in the ledger, and the login goes back to the request below for which that was sent: to
-- its provider and address, with its ID and relay state.
pub record GoesBackFrom (held : Held) (r : Backed) : Type 0 where
  pub routed : Routed
  pub there : Contains held.records (kinds.Routed routed)
  pub goes : GoesBack (record { routed = routed; backed = r })

-- So it is of each login that is passed on over a ledger, with whatever answer.
abbrev pub EachLoginGoesBack : Type 0
EachLoginGoesBack =
    (setup : HubConfig) (held : Held) (request : Request) (now : ℕ) (answer : Answer) (r : Backed)
    → Answers setup held request now answer (Some (kinds.Backed r)) → GoesBackFrom held r

-- And in each image that stands for a ledger, whenever a crash leaves it, each login has its request upwards, and goes
-- back to the request below for which that was sent.
abbrev pub EachLoginInAnImageHasItsRequest : Type 0
EachLoginInAnImageHasItsRequest =
    (image : Image) (held : Held) (r : Backed) → ledger_in image ≡ Ok (Some held)
    → Contains held.records (kinds.Backed r) → HasRequest held.records r

-- ---- of which login from above

-- If only the provider above makes HMACs that match, and no other text has the hash of one that it signed, then each
-- login that is passed on is one that it signed.
abbrev pub EachLoginWasSigned : Type 0
EachLoginWasSigned =
    (issued : List Signed) (setup : HubConfig) (held : Held) (request : Request) (now : ℕ) (r : HubRecord)
    (answer : Answer) → AllByRecursion IsSigned issued → Unforged issued setup.upstream now request.body
    → NoCollision issued request.body → (passes : PassesLogin setup held request now r answer)
    → IsLoginOf issued passes.brought.login

-- And where it is an identity provider of this setup, which signed these elements for these records: the login is one
-- that it recorded for the hub.
abbrev pub EachLoginWasRecorded : Type 0
EachLoginWasRecorded =
    (above : IdpConfig) (added : List Added) (issued : List Signed) (setup : HubConfig) (request : Request) (now : ℕ)
    (r : Backed) → AreOf above added issued → Unforged issued setup.upstream now request.body
    → NoCollision issued request.body → IsAddedBy Answers setup request now (kinds.Backed r)
    → IsOfARecordedLogin above added setup r

-- ---- over both hops, and all requests that a hub was asked

-- A hub of this setup passed this login on at one of these requests, with whatever answer, be it one that was never
-- sent.
pub record WasPassedAt (hub : HubConfig) (asked : List (Asked Provider)) (r : Backed) : Type 0 where
  pub one : Asked Provider
  pub there : Contains asked one
  pub by : one.node.setup ≡ hub
  pub adds : IsAddedBy Answers hub one.request one.now (kinds.Backed r)

-- These are elements that a hub signed, each for one of these logins, and each of these is in a record that it had at
-- the start or was passed on at one of the requests.
pub record WereSigned (hub : HubConfig) (start : List HubRecord) (asked : List (Asked Provider)) (passed : List Backed)
    (issued : List Signed) : Type 0 where
  pub known : (r : Backed) → Contains passed r → Contains start (kinds.Backed r) ⊎ WasPassedAt hub asked r
  pub of : AreSignedFor hub passed issued

-- The login was passed on at one of these requests. Where in the form that was posted with this one no HMAC is made by
-- anybody but a provider above, of which these elements are, each for a record that it added, and no other text there
-- has the hash of one of them, it has the name and the attributes of a login that this provider recorded for the hub.
pub record CameFromAbove (hub : HubConfig) (asked : List (Asked Provider)) (r : Backed) : Type 0 where
  pub was : WasPassedAt hub asked r
  pub recorded : (above : IdpConfig) (added : List Added) (issued : List Signed) → AreOf above added issued
      → Unforged issued hub.upstream was.one.now was.one.request.body → NoCollision issued was.one.request.body
      → IsOfARecordedLogin above added hub r

-- The session is of a login that the hub passed on to this provider; and that is in a record which the hub had at the
-- start, or came from above.
pub record IsOfALoginAbove (hub : HubConfig) (start : List HubRecord) (asked : List (Asked Provider))
    (passed : List Backed) (config : SpConfig) (now : ℕ) (session : NewSession) : Type 0 where
  pub below : IsPassedSession hub passed config now session
  pub of : Contains start (kinds.Backed below.one) ⊎ CameFromAbove hub asked below.one

-- So it is of each session that a provider below opens, by whatever form and over whatever rows, where nobody but the
-- hub makes HMACs that match in that form and no hash collides.
abbrev pub SessionsBelowAreOfLoginsAbove : (start : List HubRecord) → (asked : List (Asked Provider)) → Type 0
SessionsBelowAreOfLoginsAbove start asked =
    (hub : HubConfig) (passed : List Backed) (issued : List Signed) (config : SpConfig) (rows : RowsView)
    (horizon now : ℕ) (body : List ℕ) (accepted : Accepted) → WereSigned hub start asked passed issued
    → Unforged issued config now body → NoCollision issued body → IsOpening config rows horizon now body accepted
    → IsOfALoginAbove hub start asked passed config now accepted.session

-- Whatever records it had at the start, and whatever requests it was asked: those of one run, or of all its starts.
abbrev pub EachSessionBelowIsOfALoginAbove : Type 0
EachSessionBelowIsOfALoginAbove =
    (start : List HubRecord) (asked : List (Asked Provider)) → SessionsBelowAreOfLoginsAbove start asked

-- ---- what is asked above

-- SAML Core, 3.4.1: what is sent upwards is a form with the AuthnRequest of the record. Whatever tree the bytes of this
-- spell, its IsPassive and its ForceAuthn are read as false: it is left to the provider above whether it asks the user.
pub record LeavesItToTheOneAbove (setup : HubConfig) (r : Routed) (answer : Answer) : Type 0 where
  pub instant : List ℕ
  pub is : answer ≡ Full (answer_of 200 None None (ask_page setup.upstream instant r.request r.relay))
  pub reads : (tree : Nodes)
      → IsMade (signed setup.upstream.key_out
      (authn_request r.request setup.upstream.entity setup.upstream.idp.service (consumer setup.upstream) instant))
      → Spells (ask_message setup.upstream instant r.request) tree
      → (flag (attribute_text tree 0 (codes "IsPassive")) ≡ Some false)
      × (flag (attribute_text tree 0 (codes "ForceAuthn")) ≡ Some false)

-- So it is of each request that is sent upwards.
abbrev pub EachRequestLeavesItToTheOneAbove : Type 0
EachRequestLeavesItToTheOneAbove =
    (setup : HubConfig) (held : Held) (request : Request) (now : ℕ) (answer : Answer) (r : Routed)
    → Answers setup held request now answer (Some (kinds.Routed r)) → LeavesItToTheOneAbove setup r answer

-- ---- where there was no memory

-- Where there was no memory for an answer and the ledger was not broken, all that may be asked of its rows at the
-- moment of the request is answered behind it as before.
abbrev pub WhatIsVisibleStays : Type 0
WhatIsVisibleStays =
    (old new : Provider) (disk : Option DiskState) (request : Request) (now before after : ℕ)
    → AreRecords old.ledger.held.records → old.ledger.broken ≡ false
    → Steps hub_rules Answers old disk request now (Rose before after) (Fixed NO_MEMORY) new
    → AnswerAlike now new.ledger.held old.ledger.held
