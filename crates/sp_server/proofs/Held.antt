-- The row of a session that lives is that of a record which opened it, and which no later one closed.
use Rattle.std.specs.Prelude.{Contains, Some, slice_get}
use Rattle.std.proofs.Common.{◌≡◌, ℕ, zero, suc, Bool, false, List, [], ◌∷◌, refl, sym, ap, ◌∙◌, arith}
use Rattle.std.specs.List.{list_any}
use Rattle.http_wire.specs.Requests.{Request}
use Rattle.ledger_records.specs.declared.sp_record.Opened.{Opened}
use Rattle.ledger_records.specs.declared.sp_record.SpRecord.{SpRecord}
use Rattle.ledger_records.specs.declared.sp_record.SpRecord.TheVariants as kinds
use Rattle.request_ledger.specs.Ledger.{Held}
use Rattle.request_ledger.specs.RowsOf.{closes, opened_row, opened_rows}
use Rattle.request_rows.specs.declared.row.OpenedRow.{OpenedRow}
use Rattle.provider_node.proofs.Sessions.{found_itself}
use Rattle.sp_server.specs.Guarding.{IsOfRecord}
use Rattle.sp_server.specs.Step.{session_for}
use Rattle.sp_server.proofs.StayingClosed.{opened_sessions}

-- a row is that of a record
record IsOpenedIn (records : List SpRecord) (row : OpenedRow) : Type 0 where
  r : Opened
  closed : Bool
  there : Contains records (kinds.Opened r)
  is : row ≡ opened_row closed r

further : (first : SpRecord) (records : List SpRecord) (row : OpenedRow) → IsOpenedIn records row
    → IsOpenedIn (first ∷ records) row
further first records row h =
    record { r = h.r; closed = h.closed; there = (suc h.there.0, omega (arith, h.there.1), h.there.2); is = h.is }

of_place : (records : List SpRecord) (place : ℕ) (row : OpenedRow) → slice_get (opened_rows records) place ≡ Some row
    → IsOpenedIn records row
of_place [] place row is = absurd (cc)
of_place (kinds.Opened r ∷ later) zero row is =
    let same : opened_row (list_any (closes r.token) later) r ≡ row = cc in
    record { r = r; closed = list_any (closes r.token) later; there = (zero, omega arith, refl); is = sym same }
of_place (kinds.Opened r ∷ later) (suc k) row is = further (kinds.Opened r) later row (of_place later k row is)
of_place (other ∷ later) place row is = further other later row (of_place later place row is)

-- the session that lives is not closed
pub session_record : (held : Held) (request : Request) (now : ℕ) (row : OpenedRow)
    → session_for held now request ≡ Some row → IsOfRecord held row
session_record held request now row is =
    let found = found_itself opened_sessions (opened_rows held.records) now held.header.horizon _ row is in
    let h = of_place held.records found.place row found.at in
    let closed : h.closed ≡ false = sym (ap (λ (o : OpenedRow). o.closed) h.is) ∙ found.unshut in
    record { r = h.r; there = h.there; is = h.is ∙ ap (λ b. opened_row b h.r) closed }
