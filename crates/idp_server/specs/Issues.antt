-- For what an Assertion is issued, for what a user is asked, and what stands behind an answer.
use Rattle.std.specs.Prelude.{◌≡◌, ◌⊎◌, ℕ, true, false, codes, None, Some, slice_get}
use Rattle.std.specs.Option.{option_and_then}
use Rattle.crash_disk.specs.Counts.{Rose}
use Rattle.http_wire.specs.declared.answer.Answer.{Answer}
use Rattle.http_wire.specs.Requests.{Request}
use Rattle.http_wire.specs.Cookies.{cookie_value}
use Rattle.ledger_records.specs.declared.idp_record.Issued.{Issued}
use Rattle.ledger_records.specs.declared.idp_record.Pending.{Pending}
use Rattle.ledger_records.specs.declared.idp_record.Spoke.{Spoke}
use Rattle.ledger_records.specs.declared.idp_record.IdpRecord.{IdpRecord}
use Rattle.ledger_records.specs.declared.idp_record.IdpRecord.TheVariants as kinds
use Rattle.user_store.specs.Store.{checked}
use Rattle.user_store.specs.declared.user.User.{User}
use Rattle.idp_rows.specs.declared.row.PendingRow.{PendingRow}
use Rattle.idp_rows.specs.declared.row.SessionRow.{SessionRow}
use Rattle.idp_rows.specs.Finding.{visible}
use Rattle.idp_rows.specs.RowsOf.{rows_of}
use Rattle.idp_ledger.specs.Ledger.{Held}
use Rattle.idp_ledger.specs.Record.{idp_rules}
use Rattle.peer_keys.specs.declared.peers.LogoutPeer.{LogoutPeer}
use Rattle.idp_rules.specs.declared.asked.Asked.{Asked}
use Rattle.idp_rules.specs.declared.config.IdpConfig.{IdpConfig}
use Rattle.provider_node.specs.Changes as any
use Rattle.service_routes.specs.declared.route.Route.TheVariants.{To}
use Rattle.idp_server.specs.declared.route.Service.TheVariants.{Login, SignOn}
use Rattle.idp_server.specs.Routes.{route, IsOfALogout}
use Rattle.idp_server.specs.Step.{Provider, Answers, AsksFor, Typed, typed}
use Rattle.provider_node.specs.Step.{Serves}

-- WHY

-- The login page was posted, with the ID of a login that is pending in the ledger, was not used and is visible, and
-- with the name and the password of a user; the record answers that login for that user, with the relay state of the
-- request for it.
pub record IsOfPassword (setup : IdpConfig) (held : Held) (request : Request) (now : ℕ) (r : Issued) : Type 0 where
  pub to : route request ≡ To Login
  pub fields : Typed
  pub posted : typed request.body ≡ Some fields
  pub place : ℕ
  pub row : PendingRow
  pub there : slice_get (rows_of held.records).pendings place ≡ Some row
  pub named : row.pending ≡ fields.pending
  pub unused : row.used ≡ false
  pub seen : visible row.until now held.header.horizon ≡ true
  pub user : User
  pub accepted : checked setup.users fields.user fields.password ≡ Some user
  pub pending_is : r.pending ≡ Some row.pending
  pub peer_is : r.peer ≡ row.peer
  pub request_is : r.request ≡ row.request
  pub consumer_is : r.consumer ≡ row.consumer
  pub relay_is : r.relay ≡ row.relay
  pub user_is : r.user ≡ user.name
  pub attributes_are : r.attributes ≡ user.attributes

-- A peer asked by a form for a login, and not that the user is authenticated anew (SAML Core, 3.4.1, ForceAuthn); the
-- request has the cookie of a session that is in the ledger, was not ended and is visible; the record answers that peer
-- at its address, with the relay state of its form, and has the session's user, attributes, index and end.
pub record IsOfSession (setup : IdpConfig) (held : Held) (request : Request) (now : ℕ) (r : Issued) : Type 0 where
  pub asked : Asked
  pub peer : LogoutPeer
  pub asks : AsksFor setup request asked peer
  pub unforced : asked.force ≡ false
  pub peer_is : r.peer ≡ peer.peer.entity
  pub request_is : r.request ≡ asked.request
  pub consumer_is : r.consumer ≡ asked.consumer
  pub relay_is : r.relay ≡ asked.relay
  pub cookie : option_and_then (λ header. cookie_value header (codes "idp_sid")) request.cookie ≡ Some r.cookie
  pub place : ℕ
  pub row : SessionRow
  pub there : slice_get (rows_of held.records).sessions place ≡ Some row
  pub named : row.cookie ≡ r.cookie
  pub unended : row.ended ≡ false
  pub seen : visible row.until now held.header.horizon ≡ true
  pub none_pending : r.pending ≡ None
  pub user_is : r.user ≡ row.user
  pub attributes_are : r.attributes ≡ row.attributes
  pub index_is : r.index ≡ row.index
  pub end_is : r.session_end ≡ row.until

-- one of them
abbrev pub IsOfUser : IdpConfig → Held → Request → ℕ → Issued → Type 0
IsOfUser setup held request now r = IsOfPassword setup held request now r ⊎ IsOfSession setup held request now r

-- A peer asked by a form for a login, and its user may be asked for a password (SAML Core, 3.4.1): the record of the
-- login that is pending has the peer, the ID of its request, the address to which the Response goes, and the relay
-- state of the form (SAML Bindings, 3.5.3).
pub record IsOfAsker (setup : IdpConfig) (request : Request) (r : Pending) : Type 0 where
  pub asked : Asked
  pub peer : LogoutPeer
  pub asks : AsksFor setup request asked peer
  pub askable : asked.passive ≡ false
  pub peer_is : r.peer ≡ peer.peer.entity
  pub request_is : r.request ≡ asked.request
  pub consumer_is : r.consumer ≡ asked.consumer
  pub relay_is : r.relay ≡ asked.relay

-- A peer asked by a form for a login, and its user may not be asked (SAML Core, 3.4.1, IsPassive): the record of the
-- Response without an Assertion has the peer and the ID of its request.
pub record IsOfPassive (setup : IdpConfig) (request : Request) (r : Spoke) : Type 0 where
  pub asked : Asked
  pub peer : LogoutPeer
  pub asks : AsksFor setup request asked peer
  pub passive : asked.passive ≡ true
  pub peer_is : r.peer ≡ peer.peer.entity
  pub request_is : r.request ≡ asked.request

-- what is behind a record of a login
abbrev pub IsOfItsCause : IdpConfig → Held → Request → ℕ → IdpRecord → Type 0
IsOfItsCause setup held request now (kinds.Pending r) = IsOfAsker setup request r
IsOfItsCause setup held request now (kinds.Issued r) = IsOfUser setup held request now r
IsOfItsCause setup held request now (kinds.Ended r) = Unit {0}
IsOfItsCause setup held request now (kinds.Left r) = Unit {0}
IsOfItsCause setup held request now (kinds.Confirmed r) = Unit {0}
IsOfItsCause setup held request now (kinds.Spoke r) = IsOfPassive setup request r
IsOfItsCause setup held request now (kinds.Round r) = Unit {0}
IsOfItsCause setup held request now (kinds.Told r) = Unit {0}

-- what a request may do to a ledger that stays whole: nothing, a compaction, or a record behind either, and an Issued
-- only for a user, a Pending and a Spoke only for a peer that asks
abbrev pub Changes : IdpConfig → (found : Held) → Request → ℕ → (new : Provider) → Type 0
Changes setup found request now new =
    any.Changes idp_rules (λ held r. IsOfItsCause setup held request now r) now found new.ledger.held

-- Each Assertion that is issued has a password or a session: an answer's record, and what a request does to the ledger.
-- Each login that is pending, and each Response without an Assertion, has a peer that asked for it.
abbrev pub AnswersHaveUsers : Type 0
AnswersHaveUsers =
    (setup : IdpConfig) (held : Held) (request : Request) (now : ℕ) (answer : Answer) (r : Issued)
    → Answers setup held request now answer (Some (kinds.Issued r)) → IsOfUser setup held request now r

abbrev pub AnswersHaveAskers : Type 0
AnswersHaveAskers =
    (setup : IdpConfig) (held : Held) (request : Request) (now : ℕ) (answer : Answer) (r : Pending)
    → Answers setup held request now answer (Some (kinds.Pending r)) → IsOfAsker setup request r

abbrev pub RefusalsHaveAskers : Type 0
RefusalsHaveAskers =
    (setup : IdpConfig) (held : Held) (request : Request) (now : ℕ) (answer : Answer) (r : Spoke)
    → Answers setup held request now answer (Some (kinds.Spoke r)) → IsOfPassive setup request r

abbrev pub ServicesHaveUsers : Type 0
ServicesHaveUsers =
    (found : Held) (request : Request) (now before after : ℕ) (answer : Answer) (old new : Provider)
    → Serves idp_rules Answers found request now (Rose before after) answer old new → new.ledger.broken ≡ false
    → Changes old.setup found request now new

-- WHAT IS ANSWERED

-- A request that goes to a service to which something is posted: a request for a login, or a login page; a user who
-- leaves, or a message of a logout. What is answered to it has its record in every image that a crash may leave.
abbrev pub IsPosted : Request → Type 0
IsPosted request = (route request ≡ To SignOn) ⊎ ((route request ≡ To Login) ⊎ IsOfALogout request)
