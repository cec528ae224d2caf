-- When a session is opened: exactly where a posted form opens one.
use Rattle.std.specs.Prelude.{◌≡◌, ◌⊎◌, ℕ, false, List, Some}
use Rattle.crash_disk.specs.Counts.{Rose}
use Rattle.http_wire.specs.declared.answer.Answer.{Answer}
use Rattle.http_wire.specs.declared.answer.Answer.TheVariants.{Fixed, Full}
use Rattle.http_wire.specs.Requests.{Request}
use Rattle.ledger_records.specs.declared.sp_record.Opened.{Opened as OpenedRecord}
use Rattle.ledger_records.specs.declared.sp_record.SpRecord.{SpRecord}
use Rattle.ledger_records.specs.declared.sp_record.SpRecord.TheVariants as kinds
use Rattle.request_rows.specs.declared.row.AskedRow.{AskedRow}
use Rattle.request_ledger.specs.RowsOf.{rows_of}
use Rattle.request_ledger.specs.Ledger.{Held}
use Rattle.record_ledger.specs.Ledger.{held_with}
use Rattle.request_ledger.specs.Record.{request_rules}
use Rattle.sp_rules.specs.Opening.{Brought, Opens}
use Rattle.sp_answers.specs.Answers.{opened_answer}
use Rattle.provider_node.specs.Room as any
use Rattle.provider_node.specs.Room.{IsRecordedOver}
use Rattle.provider_node.specs.declared.codes.TheConstants.{NO_MEMORY}
use Rattle.service_routes.specs.declared.route.Route.TheVariants.{To}
use Rattle.sp_server.specs.declared.route.Service.TheVariants.{Consumer}
use Rattle.sp_server.specs.Routes.{route}
use Rattle.sp_server.specs.Step.{Setup, Provider, Answers, HasId, is_expired, opened_record, rows_seen}
use Rattle.provider_node.specs.Step.{Serves}

-- Over a ledger, at a moment, the form that a request posts opens a session: the login that it brings answers this
-- asked row.
pub record OpensOver (setup : Setup) (held : Held) (request : Request) (now : ℕ) (b : Brought) (row : AskedRow) : Type
    0 where
  pub posted : route request ≡ To Consumer
  pub unexpired : is_expired setup.expiry now ≡ false
  pub opens : Opens setup.config (rows_seen (rows_of held.records)) held.header.horizon now request.body b row

-- This record and this answer give the session that the form opens: the user is sent to where the login began, with the
-- session's token.
pub record GivesSession (setup : Setup) (held : Held) (request : Request) (now : ℕ) (r : SpRecord) (answer : Answer) :
    Type 0 where
  pub brought : Brought
  pub row : AskedRow
  pub opens : OpensOver setup held request now brought row
  pub is : r ≡ opened_record setup.config held now brought
  pub token : List ℕ
  pub has : HasId r token
  pub answered : answer ≡ Full (opened_answer row.target token)

-- A session is recorded only where the form opens it.
abbrev pub OnlyWhereAFormOpens : Type 0
OnlyWhereAFormOpens =
    (setup : Setup) (held : Held) (request : Request) (now : ℕ) (answer : Answer) (r : OpenedRecord)
    → Answers setup held request now answer (Some (kinds.Opened r))
    → GivesSession setup held request now (kinds.Opened r) answer

-- There is room for the session of a login, at once or behind one compaction.
abbrev pub HasRoom : Setup → (found : Held) → (now : ℕ) → Brought → Type 0
HasRoom setup found now b = any.HasRoom request_rules found now (λ held. opened_record setup.config held now b)

-- The session of a login is recorded behind the records of the ledger that was found, or, where there was no place
-- behind these, of what one compaction made of it; and it is given.
pub record IsOpened (setup : Setup) (found : Held) (request : Request) (now : ℕ) (b : Brought) (answer : Answer)
    (new : Held) : Type 0 where
  pub held : Held
  pub over : IsRecordedOver request_rules found now (λ other. opened_record setup.config other now b) held
  pub gives : GivesSession setup held request now (opened_record setup.config held now b) answer
  pub added : new ≡ held_with (opened_record setup.config held now b) held

-- And wherever one does, there is room for it and the disk does not fail, the session is recorded and given; or there
-- was no memory.
abbrev pub WhereverAFormOpens : Type 0
WhereverAFormOpens =
    (found : Held) (request : Request) (now faults later : ℕ) (answer : Answer) (old new : Provider) (b : Brought)
    (row : AskedRow)
    → Serves request_rules Answers found request now (Rose faults later) answer old new
    → OpensOver old.setup found request now b row
    → HasRoom old.setup found now b → ¬ (Rose faults later)
    → (answer ≡ Fixed NO_MEMORY) ⊎ IsOpened old.setup found request now b answer new.ledger.held
