-- A session that ends behind each moment of a run has a row to the end of the run.
use Rattle.std.specs.Prelude.{Contains, ◌||◌, max}
use Rattle.std.specs.List.{list_any}
use Rattle.std.proofs.Common.{◌≡◌, inl, inr, ℕ, zero, suc, ◌<◌, Bool, true, false, List, [], ◌∷◌, ◌++◌, bytes_eq, refl, sym, ap, subst, arith}
use Rattle.std.proofs.lemmas.Bool.{lt-ltb, or_left}
use Rattle.std.proofs.lemmas.List.Elements.{All-contains}
use Rattle.ledger_records.specs.declared.sp_record.Opened.{Opened}
use Rattle.ledger_records.specs.declared.sp_record.SpRecord.{SpRecord}
use Rattle.ledger_records.specs.declared.sp_record.SpRecord.TheVariants as kinds
use Rattle.request_rows.specs.Rows.{visible}
use Rattle.request_rows.specs.declared.row.OpenedRow.{OpenedRow}
use Rattle.record_ledger.specs.Runs.{added, EndsBehind, IsVisibleThroughout}
use Rattle.record_ledger.proofs.Staying.{any_joined, visible_records_stay}
use Rattle.request_ledger.specs.Laws.{SessionsStay}
use Rattle.request_ledger.specs.Naming.{names}
use Rattle.request_ledger.specs.Record.{request_rules}
use Rattle.request_ledger.specs.RowsOf.{closed_if, closes, opened_row, opened_rows}

-- what closes a session names its record
or_none : (b : Bool) → b ≡ true → (b || false) ≡ true
or_none true e = refl
or_none false e = absurd (cc)

closing_names : (r : Opened) (other : SpRecord) → closes r.token other ≡ true → names other (kinds.Opened r) ≡ true
closing_names r (kinds.Asked x) e = absurd (cc)
closing_names r (kinds.Opened x) e = absurd (cc)
closing_names r (kinds.Left x) e = or_none (bytes_eq x.token r.token) e
closing_names r (kinds.Ended x) e = e
closing_names r (kinds.Confirmed x) e = absurd (cc)

-- the record of a row
record IsRowOf (records : List SpRecord) (row : OpenedRow) : Type 0 where
  before : List SpRecord
  behind : List SpRecord
  r : Opened
  stands : records ≡ before ++ kinds.Opened r ∷ behind
  is : row ≡ opened_row (list_any (closes r.token) behind) r

one_before : (x : SpRecord) (later : List SpRecord) (row : OpenedRow) → IsRowOf later row → IsRowOf (x ∷ later) row
one_before x later row of =
    record { before = x ∷ of.before; behind = of.behind; r = of.r; stands = ap (λ (rs : List SpRecord). x ∷ rs) of.stands; is = of.is }

row_of : (records : List SpRecord) (row : OpenedRow) → Contains (opened_rows records) row → IsRowOf records row
row_of [] row there = absurd (omega (arith, there.1))
row_of (kinds.Asked x ∷ later) row there = one_before (kinds.Asked x) later row (row_of later row there)
row_of (kinds.Opened x ∷ later) row (zero, less, is) = record { before = []; behind = later; r = x; stands = refl; is = sym is }
row_of (kinds.Opened x ∷ later) row (suc k, less, is) = one_before (kinds.Opened x) later row (row_of later row (k, omega arith, is))
row_of (kinds.Left x ∷ later) row there = one_before (kinds.Left x) later row (row_of later row there)
row_of (kinds.Ended x ∷ later) row there = one_before (kinds.Ended x) later row (row_of later row there)
row_of (kinds.Confirmed x ∷ later) row there = one_before (kinds.Confirmed x) later row (row_of later row there)

has_row : (before behind : List SpRecord) (r : Opened) →
    Contains (opened_rows (before ++ kinds.Opened r ∷ behind)) (opened_row (list_any (closes r.token) behind) r)
has_row [] behind r = (0, omega arith, refl)
has_row (kinds.Opened x ∷ before) behind r = let there = has_row before behind r in (suc there.0, omega (arith, there.1), there.2)
has_row (other ∷ before) behind r = has_row before behind r

-- it is visible where its end is behind a moment and a horizon
seen : (r : Opened) (now horizon : ℕ) → now < r.until → horizon < r.until → request_rules.has_visible now horizon (kinds.Opened r) ≡ true
seen r now horizon less also =
    or_left (visible r.until now horizon) (visible r.assertion_until now horizon) (lt-ltb (max now horizon) r.until (omega arith))

all_seen : (start : ℕ) (moments : List ℕ) (r : Opened) → EndsBehind start moments r.until → IsVisibleThroughout request_rules start moments (kinds.Opened r)
all_seen start moments r ends now horizon at (inl same) =
    seen r now horizon (All-contains (λ m. m < r.until) moments now ends.each at) (subst (λ m. m < r.until) (sym same) ends.start)
all_seen start moments r ends now horizon at (inr also) =
    seen r now horizon (All-contains (λ m. m < r.until) moments now ends.each at) (All-contains (λ m. m < r.until) moments horizon ends.each also)

pub sessions_stay : SessionsStay
sessions_stay start held events moments row leads at there ends =
    let of = row_of start.records row there in
    let r = of.r in
    let behind : EndsBehind start.header.horizon moments r.until =
    subst (λ (x : OpenedRow). EndsBehind start.header.horizon moments x.until) of.is ends in
    let stays =
    visible_records_stay request_rules start held events moments of.before of.behind (kinds.Opened r) leads at of.stands
    (all_seen start.header.horizon moments r behind) in
    let closed =
    any_joined (closes r.token) (λ other. names other (kinds.Opened r)) (closing_names r) stays.behind_it of.behind (added events) stays.naming_it in
    let stood = subst (λ (rs : List SpRecord). Contains (opened_rows rs) (opened_row (list_any (closes r.token) stays.behind_it) r)) (sym stays.stands)
    (has_row stays.before_it stays.behind_it r) in
    subst (λ (x : OpenedRow). Contains (opened_rows held.records) (closed_if (list_any (closes x.token) (added events)) x)) (sym of.is)
    (subst (λ (b : Bool). Contains (opened_rows held.records) (opened_row b r)) closed stood)
