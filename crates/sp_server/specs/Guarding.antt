-- What a guard tells: it answers 200 exactly where the session of the request's cookie lives at that moment and no
-- policy denies it the path; then it names that session's user and values. What it says depends on nothing but that
-- row, and nothing is recorded.
use Rattle.std.specs.Prelude.{◌≡◌, ◌⊎◌, ℕ, true, false, List, Contains, Option, None, Some, IsTrue}
use Rattle.access_policy.specs.declared.rule.Rule.{Rule}
use Rattle.access_policy.specs.Decide as policies
use Rattle.crash_disk.specs.Counts.{Rose}
use Rattle.crash_disk.specs.Disk.{DiskState}
use Rattle.http_wire.specs.declared.answer.Answer.{Answer}
use Rattle.http_wire.specs.declared.answer.Answer.TheVariants.{Fixed, Full}
use Rattle.http_wire.specs.declared.method.Method.TheVariants.{Get}
use Rattle.http_wire.specs.Requests.{Request}
use Rattle.http_wire.specs.Statuses.{HasStatus}
use Rattle.http_wire.specs.Views.{answer_bytes}
use Rattle.http_wire.specs.Vouched.{vouched_answer}
use Rattle.http_wire.specs.Vouching.{IsReadAsVouched}
use Rattle.ledger_records.specs.declared.sp_record.Opened.{Opened as OpenedRecord}
use Rattle.ledger_records.specs.declared.sp_record.SpRecord.TheVariants as kinds
use Rattle.provider_node.specs.declared.codes.TheConstants.{NO_MEMORY}
use Rattle.provider_node.specs.Causes.{Finds}
use Rattle.request_ledger.specs.Ledger.{Held}
use Rattle.request_ledger.specs.RowsOf.{opened_row}
use Rattle.request_rows.specs.declared.row.OpenedRow.{OpenedRow}
use Rattle.sp_answers.specs.Answers.{denied_answer}
use Rattle.sp_server.specs.Guard.{is_plain, path_asked}
use Rattle.service_routes.specs.declared.route.Route.TheVariants.{To}
use Rattle.sp_server.specs.declared.route.Service.TheVariants.{Guard}
use Rattle.sp_server.specs.Routes.{route}
use Rattle.provider_node.specs.Step.{IsWhole, Serves, Steps}
use Rattle.sp_server.specs.Step.{Setup, Provider, session_for, Answers}
use Rattle.request_ledger.specs.Record.{request_rules}

-- A proxy asks a guard who a request comes from.
pub record AsksGuard (setup : Setup) (request : Request) : Type 0 where
  pub at : route request ≡ To Guard
  pub guard : setup.guard ≡ true
  pub get : request.method ≡ Get

-- There is no policy, or it allows a session this path, which is plain.
abbrev pub IsAllowed : Option (List Rule) → (path : List ℕ) → OpenedRow → Type 0
IsAllowed None path row = Unit {0}
IsAllowed (Some rules) path row =
    IsTrue (is_plain path) × ((policies.decide rules path row.name row.attributes).allowed ≡ true)

-- Over a ledger, at a moment, the request has the cookie of a session that lives, and that is allowed the path.
pub record LetsIn (setup : Setup) (held : Held) (request : Request) (now : ℕ) (row : OpenedRow) : Type 0 where
  pub live : session_for held now request ≡ Some row
  pub allowed : IsAllowed setup.policy (path_asked request.path) row

-- The row is that of a record of the ledger, which opened the session and which no later one closed.
pub record IsOfRecord (held : Held) (row : OpenedRow) : Type 0 where
  pub r : OpenedRecord
  pub there : Contains held.records (kinds.Opened r)
  pub is : row ≡ opened_row false r

-- The answer of status 200 is for such a session, which a record of the ledger opened: it has just the two lines that
-- name its user and its values, as a client reads it.
pub record IsVouchedFor (setup : Setup) (held : Held) (request : Request) (now : ℕ) (bytes : List ℕ) : Type 0 where
  pub row : OpenedRow
  pub let_in : LetsIn setup held request now row
  pub recorded : IsOfRecord held row
  pub says : bytes ≡ vouched_answer row.name row.attributes
  pub read : IsReadAsVouched bytes row.name row.attributes

-- What is answered over a ledger: 200 where, and only where, a session is let in; 403 with a rule, or `default`, to any
-- other session that lives; 401 where none does.
pub record TellsExactly (setup : Setup) (held : Held) (request : Request) (now : ℕ) (answer : Answer) : Type 0 where
  pub let_in : (row : OpenedRow) → LetsIn setup held request now row
      → answer ≡ Full (vouched_answer row.name row.attributes)
  pub only : HasStatus 200 (answer_bytes answer) → IsVouchedFor setup held request now (answer_bytes answer)
  pub denied : (row : OpenedRow) → session_for held now request ≡ Some row
      → ¬ (IsAllowed setup.policy (path_asked request.path) row)
      → (rule : List ℕ) × (answer ≡ Full (denied_answer rule))
  pub nobody : session_for held now request ≡ None → answer ≡ Fixed 401

-- Over the ledger that a step finds a guard tells exactly this, want of memory aside, and the ledger is left as it was
-- found.
abbrev pub AGuardTellsExactly : Type 0
AGuardTellsExactly =
    (found : Held) (request : Request) (now faults later : ℕ) (answer : Answer) (old new : Provider)
    → AsksGuard old.setup request
    → Serves request_rules Answers found request now (Rose faults later) answer old new
    → ((answer ≡ Fixed NO_MEMORY) ⊎ TellsExactly old.setup found request now answer) × IsWhole old new found

-- And wherever a request at /auth is answered with 200, with whatever setup and ledger, there is a guard, and it is for
-- a session that is let in over the ledger that the step finds.
pub record IsVouchedAt (old : Provider) (disk : Option DiskState) (request : Request) (now : ℕ) (bytes : List ℕ) : Type
    0 where
  pub asks : AsksGuard old.setup request
  pub found : Held
  pub finds : Finds request_rules old disk found
  pub vouched : IsVouchedFor old.setup found request now bytes

abbrev pub OnlyASessionIsVouchedFor : Type 0
OnlyASessionIsVouchedFor =
    (old new : Provider) (disk : Option DiskState) (request : Request) (now faults later : ℕ) (answer : Answer)
    → route request ≡ To Guard
    → Steps request_rules Answers old disk request now (Rose faults later) answer new
    → HasStatus 200 (answer_bytes answer) → IsVouchedAt old disk request now (answer_bytes answer)

-- Two requests for one path, of which each finds its session in the same row, are answered alike by guards of one
-- policy, whatever else is in their ledgers.
abbrev pub EqualRowsAreVouchedForAlike : Type 0
EqualRowsAreVouchedForAlike =
    (found another : Held) (request next : Request) (now faults later moment before after : ℕ) (one second : Answer)
    (old new other newer : Provider) (row : OpenedRow)
    → other.setup.policy ≡ old.setup.policy → AsksGuard old.setup request → AsksGuard other.setup next
    → path_asked next.path ≡ path_asked request.path
    → session_for found now request ≡ Some row → session_for another moment next ≡ Some row
    → Serves request_rules Answers found request now (Rose faults later) one old new
    → Serves request_rules Answers another next moment (Rose before after) second other newer
    → (one ≡ second) ⊎ ((one ≡ Fixed NO_MEMORY) ⊎ (second ≡ Fixed NO_MEMORY))
