-- What one record more, and a list of payloads, stand for.
use Rattle.std.proofs.Common.{◌≡◌, max, Bool, true, false, ◌||◌, List, [], ◌∷◌, ◌++◌, refl, ap, ◌∙◌}
use Rattle.std.specs.List.{list_any}
use Rattle.std.specs.Str.{bytes_eq}
use Rattle.std.proofs.lemmas.List.{append-nil}
use Rattle.std.proofs.lemmas.List.Folds.{list_any-append}
use Rattle.ledger_records.specs.declared.sp_record.SpRecord.{SpRecord}
use Rattle.ledger_records.specs.declared.sp_record.SpRecord.TheVariants as kinds
use Rattle.ledger_rules.specs.Numbers.{above}
use Rattle.request_rows.specs.declared.row.OpenedRow.{OpenedRow}
use Rattle.request_rows.specs.declared.row.LeftRow.{LeftRow}
use Rattle.record_ledger.proofs.Numbers as any
use Rattle.request_ledger.specs.RowsOf.{asked_row, opened_row, left_row, is_among, closes, confirms, asked_rows, opened_rows, left_rows, rows_of, closed_where, confirmed_where, rows_after}
use Rattle.request_ledger.specs.Record.{drawn, next_of, is_next, is_record, request_rules}

or-false : (b : Bool) → (b || false) ≡ b
or-false true = refl
or-false false = refl

pub list_any-push : {X : Type 0} (test : X → Bool) (xs : List X) (x : X) → list_any test (xs ++ x ∷ []) ≡ (list_any test xs || test x)
list_any-push test xs x = list_any-append test xs (x ∷ []) ∙ ap (λ b. list_any test xs || b) (or-false (test x))

-- one record more, kind of row by kind of row
asked_rows-append : (records more : List SpRecord) → asked_rows (records ++ more) ≡ asked_rows records ++ asked_rows more
asked_rows-append [] more = refl
asked_rows-append (kinds.Asked r ∷ later) more = ap (λ rows. asked_row r ∷ rows) (asked_rows-append later more)
asked_rows-append (other ∷ later) more = asked_rows-append later more

opened_rows-push : (records : List SpRecord) (r : SpRecord) → opened_rows (records ++ r ∷ []) ≡ closed_where (λ row. closes row.token r) (opened_rows records) ++ opened_rows (r ∷ [])
opened_rows-push [] r = refl
opened_rows-push (kinds.Opened o ∷ later) r =
    λ i. opened_row (list_any-push (closes o.token) later r i) o ∷ opened_rows-push later r i
opened_rows-push (other ∷ later) r = opened_rows-push later r

left_rows-push : (records : List SpRecord) (r : SpRecord) → left_rows (records ++ r ∷ []) ≡ confirmed_where (λ row. confirms row.request r) (left_rows records) ++ left_rows (r ∷ [])
left_rows-push [] r = refl
left_rows-push (kinds.Left o ∷ later) r =
    λ i. left_row (list_any-push (confirms o.request) later r i) o ∷ left_rows-push later r i
left_rows-push (other ∷ later) r = left_rows-push later r

-- where no row is meant all stay
pub closed_where-nothing : (rows : List OpenedRow) → closed_where (λ _. false) rows ≡ rows
closed_where-nothing [] = refl
closed_where-nothing (row ∷ rows) = λ i. record row { closed = or-false row.closed i } ∷ closed_where-nothing rows i

pub confirmed_where-nothing : (rows : List LeftRow) → confirmed_where (λ _. false) rows ≡ rows
confirmed_where-nothing [] = refl
confirmed_where-nothing (row ∷ rows) = λ i. record row { confirmed = or-false row.confirmed i } ∷ confirmed_where-nothing rows i

opened_stay : (rows : List OpenedRow) → closed_where (λ _. false) rows ++ [] ≡ rows
opened_stay rows = append-nil (closed_where (λ _. false) rows) ∙ closed_where-nothing rows

left_stay : (rows : List LeftRow) → confirmed_where (λ _. false) rows ++ [] ≡ rows
left_stay rows = append-nil (confirmed_where (λ _. false) rows) ∙ confirmed_where-nothing rows

-- the rows of one record more
pub rows_of-push : (records : List SpRecord) (r : SpRecord) → rows_of (records ++ r ∷ []) ≡ rows_after (rows_of records) r
rows_of-push records (kinds.Asked r) =
    let asked = asked_rows-append records (kinds.Asked r ∷ []) in
    let opened = opened_rows-push records (kinds.Asked r) ∙ opened_stay (opened_rows records) in
    let left = left_rows-push records (kinds.Asked r) ∙ left_stay (left_rows records) in
    λ i. record { asked = asked i; opened = opened i; left = left i }
rows_of-push records (kinds.Opened r) =
    let asked = asked_rows-append records (kinds.Opened r ∷ []) ∙ append-nil (asked_rows records) in
    let opened = opened_rows-push records (kinds.Opened r) ∙ ap (λ rows. rows ++ opened_row false r ∷ []) (closed_where-nothing (opened_rows records)) in
    let left = left_rows-push records (kinds.Opened r) ∙ left_stay (left_rows records) in
    λ i. record { asked = asked i; opened = opened i; left = left i }
rows_of-push records (kinds.Left r) =
    let asked = asked_rows-append records (kinds.Left r ∷ []) ∙ append-nil (asked_rows records) in
    let opened = opened_rows-push records (kinds.Left r) ∙ append-nil (closed_where (λ row. bytes_eq r.token row.token) (opened_rows records)) in
    let left = left_rows-push records (kinds.Left r) ∙ ap (λ rows. rows ++ left_row false r ∷ []) (confirmed_where-nothing (left_rows records)) in
    λ i. record { asked = asked i; opened = opened i; left = left i }
rows_of-push records (kinds.Ended r) =
    let asked = asked_rows-append records (kinds.Ended r ∷ []) ∙ append-nil (asked_rows records) in
    let opened = opened_rows-push records (kinds.Ended r) ∙ append-nil (closed_where (λ row. is_among row.token r.tokens) (opened_rows records)) in
    let left = left_rows-push records (kinds.Ended r) ∙ left_stay (left_rows records) in
    λ i. record { asked = asked i; opened = opened i; left = left i }
rows_of-push records (kinds.Confirmed r) =
    let asked = asked_rows-append records (kinds.Confirmed r ∷ []) ∙ append-nil (asked_rows records) in
    let opened = opened_rows-push records (kinds.Confirmed r) ∙ opened_stay (opened_rows records) in
    let left = left_rows-push records (kinds.Confirmed r) ∙ append-nil (confirmed_where (λ row. bytes_eq r.request row.request) (left_rows records)) in
    λ i. record { asked = asked i; opened = opened i; left = left i }

-- the least number above all of one record more
pub next_of-push : (records : List SpRecord) (r : SpRecord) → next_of (records ++ r ∷ []) ≡ max (next_of records) (above (drawn r))
next_of-push = any.next_push request_rules

pub is_record-is : (before : List SpRecord) (r : SpRecord) → is_record before r ≡ is_next (rows_of before) (next_of before) r
unfolding is_record
is_record-is before r = refl
