-- A session that ends behind each moment of a run has a row to the end of the run.
use Rattle.std.specs.Prelude.{Contains, ◌||◌, max}
use Rattle.std.specs.List.{list_any}
use Rattle.std.proofs.Common.{◌≡◌, inl, inr, ℕ, zero, suc, ◌<◌, Bool, true, false, List, [], ◌∷◌, ◌++◌, Option, None, Some, bytes_eq, refl, sym, ap, ◌∙◌, subst, arith}
use Rattle.std.proofs.lemmas.Bool.{lt-ltb, or_right}
use Rattle.std.proofs.lemmas.List.Elements.{All-contains, Contains-append_right}
use Rattle.ledger_records.specs.declared.idp_record.Issued.{Issued}
use Rattle.ledger_records.specs.declared.idp_record.IdpRecord.{IdpRecord}
use Rattle.ledger_records.specs.declared.idp_record.IdpRecord.TheVariants as kinds
use Rattle.record_ledger.specs.Runs.{added, EndsBehind, IsVisibleThroughout}
use Rattle.record_ledger.proofs.Staying.{any_joined, visible_records_stay}
use Rattle.idp_rows.specs.declared.row.SessionRow.{SessionRow}
use Rattle.idp_rows.specs.Finding.{visible}
use Rattle.idp_ledger.specs.Laws.{SessionsStay}
use Rattle.idp_ledger.specs.Naming.{has_cookie, has_session_visible, names}
use Rattle.idp_ledger.specs.Record.{idp_rules}
use Rattle.idp_rows.specs.RowsOf.{begun, ended_if, ends, if_pending, session_row, session_rows}

-- what ends a session names its record
or_none : (b : Bool) → b ≡ true → (b || false) ≡ true
or_none true e = refl
or_none false e = absurd (cc)

module _ (r : Issued) (pending : List ℕ) (has : r.pending ≡ Some pending) where
  ending_names : (other : IdpRecord) → ends r.cookie other ≡ true → names other (kinds.Issued r) ≡ true
  ending_names (kinds.Pending x) e = absurd (cc)
  ending_names (kinds.Issued x) e = absurd (cc)
  ending_names (kinds.Ended x) e = ap (λ (o : Option (List ℕ)). has_cookie x.cookies o r.cookie) has ∙ e
  ending_names (kinds.Left x) e =
      ap (λ (o : Option (List ℕ)). has_cookie (x.cookie ∷ []) o r.cookie) has ∙ or_none (bytes_eq x.cookie r.cookie) e
  ending_names (kinds.Confirmed x) e = absurd (cc)
  ending_names (kinds.Spoke x) e = absurd (cc)
  ending_names (kinds.Round x) e = ap (λ (o : Option (List ℕ)). has_cookie x.cookies o r.cookie) has ∙ e
  ending_names (kinds.Told x) e = absurd (cc)

  -- it is visible where its end is behind a moment and a horizon
  seen : (now horizon : ℕ) → now < r.session_end → horizon < r.session_end → idp_rules.has_visible now horizon (kinds.Issued r) ≡ true
  seen now horizon less also =
      or_right (visible r.until now horizon) (has_session_visible now horizon r.pending r.session_end)
      (ap (λ (o : Option (List ℕ)). has_session_visible now horizon o r.session_end) has ∙ lt-ltb (max now horizon) r.session_end (omega arith))

  all_seen : (start : ℕ) (moments : List ℕ) → EndsBehind start moments r.session_end → IsVisibleThroughout idp_rules start moments (kinds.Issued r)
  all_seen start moments ends now horizon at (inl same) =
      seen now horizon (All-contains (λ m. m < r.session_end) moments now ends.each at) (subst (λ m. m < r.session_end) (sym same) ends.start)
  all_seen start moments ends now horizon at (inr also) =
      seen now horizon (All-contains (λ m. m < r.session_end) moments now ends.each at)
      (All-contains (λ m. m < r.session_end) moments horizon ends.each also)

  row_at : (before behind : List IdpRecord) → Contains (session_rows (before ++ kinds.Issued r ∷ behind)) (session_row (list_any (ends r.cookie) behind) r)
  row_at [] behind =
      let row = session_row (list_any (ends r.cookie) behind) r in
      subst (λ (o : Option (List ℕ)). Contains (if_pending o (row ∷ []) ++ session_rows behind) row) (sym has) (0, omega arith, refl)
  row_at (kinds.Issued x ∷ before) behind =
      let rest = before ++ kinds.Issued r ∷ behind in
      Contains-append_right (begun (list_any (ends x.cookie) rest) x) (session_rows rest) (session_row (list_any (ends r.cookie) behind) r)
      (row_at before behind)
  row_at (other ∷ before) behind = row_at before behind

-- the record of a row
record IsRowOf (records : List IdpRecord) (row : SessionRow) : Type 0 where
  before : List IdpRecord
  behind : List IdpRecord
  r : Issued
  pending : List ℕ
  has : r.pending ≡ Some pending
  stands : records ≡ before ++ kinds.Issued r ∷ behind
  is : row ≡ session_row (list_any (ends r.cookie) behind) r

one_before : (x : IdpRecord) (later : List IdpRecord) (row : SessionRow) → IsRowOf later row → IsRowOf (x ∷ later) row
one_before x later row of = record {
  before = x ∷ of.before;
  behind = of.behind;
  r = of.r;
  pending = of.pending;
  has = of.has;
  stands = ap (λ (rs : List IdpRecord). x ∷ rs) of.stands;
  is = of.is;
}

-- the row of the first record, or one of those behind it
first_or_later : (x : Issued) (later : List IdpRecord) (row : SessionRow) (o : Option (List ℕ)) → x.pending ≡ o →
    Contains (if_pending o (session_row (list_any (ends x.cookie) later) x ∷ []) ++ session_rows later) row →
    (Contains (session_rows later) row → IsRowOf later row) → IsRowOf (kinds.Issued x ∷ later) row
first_or_later x later row None has there rest = one_before (kinds.Issued x) later row (rest there)
first_or_later x later row (Some pending) has (zero, less, is) rest =
    record { before = []; behind = later; r = x; pending = pending; has = has; stands = refl; is = sym is }
first_or_later x later row (Some pending) has (suc k, less, is) rest = one_before (kinds.Issued x) later row (rest (k, omega arith, is))

row_of : (records : List IdpRecord) (row : SessionRow) → Contains (session_rows records) row → IsRowOf records row
row_of [] row there = absurd (omega (arith, there.1))
row_of (kinds.Pending x ∷ later) row there = one_before (kinds.Pending x) later row (row_of later row there)
row_of (kinds.Issued x ∷ later) row there = first_or_later x later row x.pending refl there (row_of later row)
row_of (kinds.Ended x ∷ later) row there = one_before (kinds.Ended x) later row (row_of later row there)
row_of (kinds.Left x ∷ later) row there = one_before (kinds.Left x) later row (row_of later row there)
row_of (kinds.Confirmed x ∷ later) row there = one_before (kinds.Confirmed x) later row (row_of later row there)
row_of (kinds.Spoke x ∷ later) row there = one_before (kinds.Spoke x) later row (row_of later row there)
row_of (kinds.Round x ∷ later) row there = one_before (kinds.Round x) later row (row_of later row there)
row_of (kinds.Told x ∷ later) row there = one_before (kinds.Told x) later row (row_of later row there)

pub sessions_stay : SessionsStay
sessions_stay start held events moments row leads at there behind =
    let of = row_of start.records row there in
    let r = of.r in
    let ends_behind : EndsBehind start.header.horizon moments r.session_end =
    subst (λ (x : SessionRow). EndsBehind start.header.horizon moments x.until) of.is behind in
    let stays =
    visible_records_stay idp_rules start held events moments of.before of.behind (kinds.Issued r) leads at of.stands
    (all_seen r of.pending of.has start.header.horizon moments ends_behind) in
    let ended =
    any_joined (ends r.cookie) (λ other. names other (kinds.Issued r)) (ending_names r of.pending of.has) stays.behind_it of.behind (added events)
    stays.naming_it in
    let stood = subst (λ (rs : List IdpRecord). Contains (session_rows rs) (session_row (list_any (ends r.cookie) stays.behind_it) r)) (sym stays.stands)
    (row_at r of.pending of.has stays.before_it stays.behind_it) in
    subst (λ (x : SessionRow). Contains (session_rows held.records) (ended_if (list_any (ends x.cookie) (added events)) x)) (sym of.is)
    (subst (λ (b : Bool). Contains (session_rows held.records) (session_row b r)) ended stood)
