-- What one record more, and a list of payloads, stand for.
use Rattle.std.proofs.Common.{◌≡◌, ℕ, max, Bool, true, false, ◌||◌, List, [], ◌∷◌, ◌++◌, Option, None, Some, refl, ap, ◌∙◌}
use Rattle.std.specs.List.{list_any}
use Rattle.std.specs.Str.{bytes_eq}
use Rattle.std.proofs.lemmas.List.{append-nil}
use Rattle.std.proofs.lemmas.List.Folds.{list_any-append}
use Rattle.ledger_records.specs.declared.idp_record.Issued.{Issued}
use Rattle.ledger_records.specs.declared.idp_record.IdpRecord.{IdpRecord}
use Rattle.ledger_records.specs.declared.idp_record.IdpRecord.TheVariants as kinds
use Rattle.ledger_rules.specs.Numbers.{above}
use Rattle.record_ledger.proofs.Numbers as any
use Rattle.idp_rows.specs.declared.row.PendingRow.{PendingRow}
use Rattle.idp_rows.specs.declared.row.SessionRow.{SessionRow}
use Rattle.idp_rows.specs.declared.row.LeftRow.{LeftRow}
use Rattle.idp_rows.specs.RowsOf.{pending_row, issued_row, session_row, left_row, if_pending, begun, is_among, uses, ends, confirms, pending_rows, issued_rows, session_rows, left_rows, rows_of, used_where, ended_where, confirmed_where, rows_after}
use Rattle.idp_rows.specs.RoundsOf.{round_row, round_rows}
use Rattle.idp_ledger.specs.Record.{next_of, is_record, idp_rules}
use Rattle.idp_rows.specs.Record.{drawn, is_next}
use Rattle.round_rows.specs.Rounds.{answered}
use Rattle.idp_ledger.proofs.RoundRows.{round_rows-push, rounds_stay, map_nothing}
use Rattle.owned_values.specs.Options.{is_there}

or-false : (b : Bool) → (b || false) ≡ b
or-false true = refl
or-false false = refl

pub list_any-push : {X : Type 0} (test : X → Bool) (xs : List X) (x : X) → list_any test (xs ++ x ∷ []) ≡ (list_any test xs || test x)
list_any-push test xs x = list_any-append test xs (x ∷ []) ∙ ap (λ b. list_any test xs || b) (or-false (test x))

-- one record more, kind of row by kind of row
pending_rows-push : (records : List IdpRecord) (r : IdpRecord) → pending_rows (records ++ r ∷ []) ≡ used_where (λ row. uses row.pending r) (pending_rows records) ++ pending_rows (r ∷ [])
pending_rows-push [] r = refl
pending_rows-push (kinds.Pending o ∷ later) r =
    λ i. pending_row (list_any-push (uses o.pending) later r i) o ∷ pending_rows-push later r i
pending_rows-push (other ∷ later) r = pending_rows-push later r

issued_rows-append : (records more : List IdpRecord) → issued_rows (records ++ more) ≡ issued_rows records ++ issued_rows more
issued_rows-append [] more = refl
issued_rows-append (kinds.Issued r ∷ later) more = ap (λ rows. issued_row r ∷ rows) (issued_rows-append later more)
issued_rows-append (other ∷ later) more = issued_rows-append later more

begun-push : (pending : Option (List ℕ)) (o : Issued) (r : IdpRecord) (later : List IdpRecord) (rows more : List SessionRow)
    → if_pending pending (session_row (list_any (ends o.cookie) (later ++ r ∷ [])) o ∷ []) ++ (ended_where (λ row. ends row.cookie r) rows ++ more)
    ≡ ended_where (λ row. ends row.cookie r) (if_pending pending (session_row (list_any (ends o.cookie) later) o ∷ []) ++ rows) ++ more
begun-push None o r later rows more = refl
begun-push (Some pending) o r later rows more =
    λ i. session_row (list_any-push (ends o.cookie) later r i) o ∷ (ended_where (λ row. ends row.cookie r) rows ++ more)

session_rows-push : (records : List IdpRecord) (r : IdpRecord) → session_rows (records ++ r ∷ []) ≡ ended_where (λ row. ends row.cookie r) (session_rows records) ++ session_rows (r ∷ [])
session_rows-push [] r = refl
session_rows-push (kinds.Issued o ∷ later) r =
    ap (λ rows. begun (list_any (ends o.cookie) (later ++ r ∷ [])) o ++ rows) (session_rows-push later r)
    ∙ begun-push o.pending o r later (session_rows later) (session_rows (r ∷ []))
session_rows-push (other ∷ later) r = session_rows-push later r

left_rows-push : (records : List IdpRecord) (r : IdpRecord) → left_rows (records ++ r ∷ []) ≡ confirmed_where (λ row. confirms row.request r) (left_rows records) ++ left_rows (r ∷ [])
left_rows-push [] r = refl
left_rows-push (kinds.Left o ∷ later) r =
    λ i. left_row (list_any-push (confirms o.request) later r i) o ∷ left_rows-push later r i
left_rows-push (other ∷ later) r = left_rows-push later r

-- where no row is meant all stay
pub used_where-nothing : (rows : List PendingRow) → used_where (λ _. false) rows ≡ rows
used_where-nothing [] = refl
used_where-nothing (row ∷ rows) = λ i. record row { used = or-false row.used i } ∷ used_where-nothing rows i

pub ended_where-nothing : (rows : List SessionRow) → ended_where (λ _. false) rows ≡ rows
ended_where-nothing [] = refl
ended_where-nothing (row ∷ rows) = λ i. record row { ended = or-false row.ended i } ∷ ended_where-nothing rows i

pub confirmed_where-nothing : (rows : List LeftRow) → confirmed_where (λ _. false) rows ≡ rows
confirmed_where-nothing [] = refl
confirmed_where-nothing (row ∷ rows) = λ i. record row { confirmed = or-false row.confirmed i } ∷ confirmed_where-nothing rows i

pendings_stay : (rows : List PendingRow) → used_where (λ _. false) rows ++ [] ≡ rows
pendings_stay rows = append-nil (used_where (λ _. false) rows) ∙ used_where-nothing rows

sessions_stay : (rows : List SessionRow) → ended_where (λ _. false) rows ++ [] ≡ rows
sessions_stay rows = append-nil (ended_where (λ _. false) rows) ∙ ended_where-nothing rows

lefts_stay : (rows : List LeftRow) → confirmed_where (λ _. false) rows ++ [] ≡ rows
lefts_stay rows = append-nil (confirmed_where (λ _. false) rows) ∙ confirmed_where-nothing rows

-- the rows of one record more
pub rows_of-push : (records : List IdpRecord) (r : IdpRecord) → rows_of (records ++ r ∷ []) ≡ rows_after (rows_of records) r
rows_of-push records (kinds.Pending r) =
    let pendings = pending_rows-push records (kinds.Pending r) ∙ ap (λ rows. rows ++ pending_row false r ∷ []) (used_where-nothing (pending_rows records)) in
    let issues = issued_rows-append records (kinds.Pending r ∷ []) ∙ append-nil (issued_rows records) in
    let sessions = session_rows-push records (kinds.Pending r) ∙ sessions_stay (session_rows records) in
    let lefts = left_rows-push records (kinds.Pending r) ∙ lefts_stay (left_rows records) in
    let rounds = round_rows-push records (kinds.Pending r) ∙ rounds_stay (round_rows records) in
    λ i. record { pendings = pendings i; issues = issues i; sessions = sessions i; lefts = lefts i; rounds = rounds i }
rows_of-push records (kinds.Issued r) =
    let pendings = pending_rows-push records (kinds.Issued r) ∙ append-nil (used_where (λ row. is_there row.pending r.pending) (pending_rows records)) in
    let issues = issued_rows-append records (kinds.Issued r ∷ []) in
    let sessions = session_rows-push records (kinds.Issued r) ∙ ap (λ rows. rows ++ session_rows (kinds.Issued r ∷ [])) (ended_where-nothing (session_rows records)) ∙ ap (λ rows. session_rows records ++ rows) (append-nil (begun false r)) in
    let lefts = left_rows-push records (kinds.Issued r) ∙ lefts_stay (left_rows records) in
    let rounds = round_rows-push records (kinds.Issued r) ∙ rounds_stay (round_rows records) in
    λ i. record { pendings = pendings i; issues = issues i; sessions = sessions i; lefts = lefts i; rounds = rounds i }
rows_of-push records (kinds.Ended r) =
    let pendings = pending_rows-push records (kinds.Ended r) ∙ pendings_stay (pending_rows records) in
    let issues = issued_rows-append records (kinds.Ended r ∷ []) ∙ append-nil (issued_rows records) in
    let sessions = session_rows-push records (kinds.Ended r) ∙ append-nil (ended_where (λ row. is_among row.cookie r.cookies) (session_rows records)) in
    let lefts = left_rows-push records (kinds.Ended r) ∙ lefts_stay (left_rows records) in
    let rounds = round_rows-push records (kinds.Ended r) ∙ rounds_stay (round_rows records) in
    λ i. record { pendings = pendings i; issues = issues i; sessions = sessions i; lefts = lefts i; rounds = rounds i }
rows_of-push records (kinds.Left r) =
    let pendings = pending_rows-push records (kinds.Left r) ∙ pendings_stay (pending_rows records) in
    let issues = issued_rows-append records (kinds.Left r ∷ []) ∙ append-nil (issued_rows records) in
    let sessions = session_rows-push records (kinds.Left r) ∙ append-nil (ended_where (λ row. bytes_eq r.cookie row.cookie) (session_rows records)) in
    let lefts = left_rows-push records (kinds.Left r) ∙ ap (λ rows. rows ++ left_row false r ∷ []) (confirmed_where-nothing (left_rows records)) in
    let rounds = round_rows-push records (kinds.Left r) ∙ rounds_stay (round_rows records) in
    λ i. record { pendings = pendings i; issues = issues i; sessions = sessions i; lefts = lefts i; rounds = rounds i }
rows_of-push records (kinds.Confirmed r) =
    let pendings = pending_rows-push records (kinds.Confirmed r) ∙ pendings_stay (pending_rows records) in
    let issues = issued_rows-append records (kinds.Confirmed r ∷ []) ∙ append-nil (issued_rows records) in
    let sessions = session_rows-push records (kinds.Confirmed r) ∙ sessions_stay (session_rows records) in
    let lefts = left_rows-push records (kinds.Confirmed r) ∙ append-nil (confirmed_where (λ row. bytes_eq r.request row.request) (left_rows records)) in
    let rounds = round_rows-push records (kinds.Confirmed r) ∙ rounds_stay (round_rows records) in
    λ i. record { pendings = pendings i; issues = issues i; sessions = sessions i; lefts = lefts i; rounds = rounds i }
rows_of-push records (kinds.Spoke r) =
    let pendings = pending_rows-push records (kinds.Spoke r) ∙ pendings_stay (pending_rows records) in
    let issues = issued_rows-append records (kinds.Spoke r ∷ []) ∙ append-nil (issued_rows records) in
    let sessions = session_rows-push records (kinds.Spoke r) ∙ sessions_stay (session_rows records) in
    let lefts = left_rows-push records (kinds.Spoke r) ∙ lefts_stay (left_rows records) in
    let rounds = round_rows-push records (kinds.Spoke r) ∙ rounds_stay (round_rows records) in
    λ i. record { pendings = pendings i; issues = issues i; sessions = sessions i; lefts = lefts i; rounds = rounds i }
rows_of-push records (kinds.Round r) =
    let pendings = pending_rows-push records (kinds.Round r) ∙ pendings_stay (pending_rows records) in
    let issues = issued_rows-append records (kinds.Round r ∷ []) ∙ append-nil (issued_rows records) in
    let sessions = session_rows-push records (kinds.Round r) ∙ append-nil (ended_where (λ row. is_among row.cookie r.cookies) (session_rows records)) in
    let lefts = left_rows-push records (kinds.Round r) ∙ lefts_stay (left_rows records) in
    let rounds = round_rows-push records (kinds.Round r) ∙ ap (λ rows. rows ++ round_row r ∷ []) (map_nothing (round_rows records)) in
    λ i. record { pendings = pendings i; issues = issues i; sessions = sessions i; lefts = lefts i; rounds = rounds i }
rows_of-push records (kinds.Told r) =
    let pendings = pending_rows-push records (kinds.Told r) ∙ pendings_stay (pending_rows records) in
    let issues = issued_rows-append records (kinds.Told r ∷ []) ∙ append-nil (issued_rows records) in
    let sessions = session_rows-push records (kinds.Told r) ∙ sessions_stay (session_rows records) in
    let lefts = left_rows-push records (kinds.Told r) ∙ lefts_stay (left_rows records) in
    let rounds = round_rows-push records (kinds.Told r) ∙ append-nil (answered r.request r.confirmed r.next (round_rows records)) in
    λ i. record { pendings = pendings i; issues = issues i; sessions = sessions i; lefts = lefts i; rounds = rounds i }

-- the least number above all of one record more
pub next_of-push : (records : List IdpRecord) (r : IdpRecord) → next_of (records ++ r ∷ []) ≡ max (next_of records) (above (drawn r))
next_of-push = any.next_push idp_rules

pub is_record-is : (before : List IdpRecord) (r : IdpRecord) → is_record before r ≡ is_next (rows_of before) (next_of before) r
unfolding is_record
is_record-is before r = refl
