-- What became of a ledger over a service: what was acknowledged on the way, and that no session lives again that was
-- ended.
use Rattle.std.specs.Prelude.{◌≡◌, ℕ, true, false, List, Contains, None, Some, IsSome, Ok}
use Rattle.std.specs.List.{list_any}
use Rattle.std.specs.Str.{bytes_eq}
use Rattle.crash_disk.specs.Disk.{Image}
use Rattle.crash_disk.specs.Moments.{Leaves}
use Rattle.conn_table.specs.Table.{Table}
use Rattle.serve_loop.specs.Worlds.{World}
use Rattle.serve_loop.specs.Turns.{Turn, Run}
use Rattle.ledger_records.specs.declared.idp_record.IdpRecord.{IdpRecord}
use Rattle.idp_rows.specs.Finding.{session_found}
use Rattle.idp_ledger.specs.Ledger.{Held, ledger_in}
use Rattle.idp_ledger.specs.Record.{AreRecords, idp_rules}
use Rattle.idp_rows.specs.Record.{is_unended}
use Rattle.idp_rows.specs.RowsOf.{ends, rows_of}
use Rattle.provider_node.specs.Histories as any
use Rattle.provider_node.specs.Histories.{IsAtStart, IsProviders}
use Rattle.provider_node.specs.Points.{AClosedSessionStaysClosed, Point, StayClosed, points}
use Rattle.provider_node.specs.Starts.{AreKeptOverAt, AreStartsAt, Start, StayClosedOverStarts}
use Rattle.idp_server.specs.Step.{Provider, Answers}

-- ENDED SESSIONS

-- the session of a cookie is ended: there is one, and none with this cookie that is not ended
pub record IsEnded (held : Held) (cookie : List ℕ) : Type 0 where
  pub there : list_any (λ row. bytes_eq row.cookie cookie) (rows_of held.records).sessions ≡ true
  pub ended : is_unended (rows_of held.records).sessions cookie ≡ false

-- no session of a cookie is found live, at any moment
abbrev pub IsDead : Held → List ℕ → Type 0
IsDead held cookie = (now : ℕ) → session_found (rows_of held.records).sessions cookie now held.header.horizon ≡ None

-- A session that is ended never lives again, whatever is recorded, compacted and opened since.
abbrev pub AnEndedSessionStaysEnded : Type 0
AnEndedSessionStaysEnded = AClosedSessionStaysClosed idp_rules IsEnded IsDead

-- the image stands for a ledger in which no session of a cookie lives
abbrev pub HoldsItDead : List ℕ → Image → Type 0
HoldsItDead cookie image = (held : Held) × (ledger_in image ≡ Ok (Some held)) × IsDead held cookie

-- THE LAW

-- Of the records for which the answers of a service stand: each is in the history of every ledger that a crash may
-- leave behind it. And in none of these ledgers lives a session that one of the records ended, or that was ended at the
-- start.
pub record AreKept (first last : World Provider) (turns : List (Turn Provider)) : Type 0 where
  pub all : any.AreKept idp_rules Answers first last turns
  pub ended : (r : IdpRecord) (cookie : List ℕ) → Contains all.records r → ends cookie r ≡ true → (image : Image)
      → Leaves last.disk image
      → HoldsItDead cookie image
  pub stays : (cookie : List ℕ) → IsEnded first.node.ledger.held cookie → (image : Image) → Leaves last.disk image
      → HoldsItDead cookie image

-- It is so where the disk tells at the start.
abbrev pub WhatIsAcknowledgedIsKept : Type 0
WhatIsAcknowledgedIsKept =
    (first last : World Provider) (turns : List (Turn Provider)) (kept : Table) → IsAtStart idp_rules first
    → IsSome first.disk
    → Run (IsProviders idp_rules Answers) first turns kept last → AreKept first last turns

-- A session that is ended at one point of a service is dead at each later one: in the provider's ledger, and in each
-- that a crash may leave there; the latest point comes first.
abbrev pub StayEnded : List (Point Provider) → Type 0
StayEnded = StayClosed idp_rules IsEnded IsDead

-- A session that is ended in a service is never live again, neither at a later request nor in what a crash may leave.
abbrev pub SessionsStayEndedInAService : Type 0
SessionsStayEndedInAService =
    (first last : World Provider) (turns : List (Turn Provider)) (kept : Table) → IsAtStart idp_rules first
    → IsSome first.disk
    → Run (IsProviders idp_rules Answers) first turns kept last → StayEnded (points first turns last)

-- OVER STARTS

-- Over several starts, of which each opens what a crash of the one before it may have left, too: what was acknowledged
-- is in the history of every ledger that may be opened behind them, and in this each compaction was at one of their
-- moments, of which `IsMoment` says.
module _ (IsMoment : ℕ → Type 0) where
  abbrev pub WhatIsAcknowledgedIsKeptOverStarts : Type 0
  WhatIsAcknowledgedIsKeptOverStarts = (start : Held) (starts : List (Start Provider)) → AreRecords start.records
      → AreStartsAt idp_rules Answers IsMoment start starts → AreKeptOverAt idp_rules Answers IsMoment start starts

-- And a session that was ended, at first or by what was acknowledged, is live in no ledger that may be opened behind
-- them.
abbrev pub SessionsStayEndedOverStarts : Type 0
SessionsStayEndedOverStarts = StayClosedOverStarts idp_rules Answers IsEnded ends IsDead
