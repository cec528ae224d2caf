-- What one record more stands for, and what the rules say of rows.
use Rattle.std.proofs.Common.{◌≡◌, ◌<◌, ◌≤◌, max, List, [], ◌∷◌, ◌++◌, length, refl, sym, ap, ◌∙◌, subst, arith}
use Rattle.std.proofs.lemmas.List.{append-nil}
use Rattle.ledger_records.specs.declared.hub_record.HubRecord.{HubRecord}
use Rattle.ledger_records.specs.declared.hub_record.HubRecord.TheVariants as kinds
use Rattle.ledger_rules.specs.Numbers.{above}
use Rattle.record_ledger.specs.Laws.{AreFreshlyDrawn, AreRowsOfRecords, IsOneByteMore, KeepsItself}
use Rattle.record_ledger.proofs.Numbers as any
use Rattle.hub_ledger.specs.RowsOf.{asked_row, below_row, opened_row, asked_rows, below_rows, opened_rows, rows_of, rows_after}
use Rattle.hub_ledger.specs.Record.{drawn, next_of, is_next, is_record, hub_rules}
use Rattle.hub_ledger.specs.Standing.{StandingView, AreFew, AreRowsOf, IsAfter, hub_row_rules}
use Rattle.hub_ledger.proofs.Words.{is_record-is, parts}

asked_rows-append : (records more : List HubRecord) → asked_rows (records ++ more) ≡ asked_rows records ++ asked_rows more
asked_rows-append [] more = refl
asked_rows-append (kinds.Routed r ∷ later) more = ap (λ rows. asked_row r ∷ rows) (asked_rows-append later more)
asked_rows-append (other ∷ later) more = asked_rows-append later more

below_rows-append : (records more : List HubRecord) → below_rows (records ++ more) ≡ below_rows records ++ below_rows more
below_rows-append [] more = refl
below_rows-append (kinds.Routed r ∷ later) more = ap (λ rows. below_row r ∷ rows) (below_rows-append later more)
below_rows-append (other ∷ later) more = below_rows-append later more

opened_rows-append : (records more : List HubRecord) → opened_rows (records ++ more) ≡ opened_rows records ++ opened_rows more
opened_rows-append [] more = refl
opened_rows-append (kinds.Backed r ∷ later) more = ap (λ rows. opened_row r ∷ rows) (opened_rows-append later more)
opened_rows-append (other ∷ later) more = opened_rows-append later more

-- the rows of one record more
pub rows_of-push : (records : List HubRecord) (r : HubRecord) → rows_of (records ++ r ∷ []) ≡ rows_after (rows_of records) r
rows_of-push records (kinds.Routed r) =
    let asked = asked_rows-append records (kinds.Routed r ∷ []) in
    let below = below_rows-append records (kinds.Routed r ∷ []) in
    let opened = opened_rows-append records (kinds.Routed r ∷ []) ∙ append-nil (opened_rows records) in
    λ i. record { asked = asked i; below = below i; opened = opened i }
rows_of-push records (kinds.Backed r) =
    let asked = asked_rows-append records (kinds.Backed r ∷ []) ∙ append-nil (asked_rows records) in
    let below = below_rows-append records (kinds.Backed r ∷ []) ∙ append-nil (below_rows records) in
    let opened = opened_rows-append records (kinds.Backed r ∷ []) in
    λ i. record { asked = asked i; below = below i; opened = opened i }
rows_of-push records (kinds.Spoke r) =
    let asked = asked_rows-append records (kinds.Spoke r ∷ []) ∙ append-nil (asked_rows records) in
    let below = below_rows-append records (kinds.Spoke r ∷ []) ∙ append-nil (below_rows records) in
    let opened = opened_rows-append records (kinds.Spoke r ∷ []) ∙ append-nil (opened_rows records) in
    λ i. record { asked = asked i; below = below i; opened = opened i }

-- the least number above all of one record more
pub next_of-push : (records : List HubRecord) (r : HubRecord) → next_of (records ++ r ∷ []) ≡ max (next_of records) (above (drawn r))
next_of-push = any.next_push hub_rules

-- ---- what the rules say

pub one_byte_more : IsOneByteMore hub_rules
one_byte_more version r = omega arith

pub freshly_drawn : AreFreshlyDrawn hub_rules
freshly_drawn before r is = (parts before r is).fresh

asked_few : (records : List HubRecord) → length (asked_rows records) ≤ length records
asked_few [] = omega arith
asked_few (kinds.Routed r ∷ later) = omega (arith, asked_few later)
asked_few (kinds.Backed r ∷ later) = omega (arith, asked_few later)
asked_few (kinds.Spoke r ∷ later) = omega (arith, asked_few later)

opened_few : (records : List HubRecord) → length (opened_rows records) ≤ length records
opened_few [] = omega arith
opened_few (kinds.Routed r ∷ later) = omega (arith, opened_few later)
opened_few (kinds.Backed r ∷ later) = omega (arith, opened_few later)
opened_few (kinds.Spoke r ∷ later) = omega (arith, opened_few later)

pub rows_of_records : AreRowsOfRecords hub_rules
rows_of_records records (kinds.Routed r) = asked_few records
rows_of_records records (kinds.Backed r) = opened_few records
rows_of_records records (kinds.Spoke r) = tt

pub is_behind : (standing : StandingView) (records : List HubRecord) (r : HubRecord) → AreRowsOf standing records
    → is_next standing.rows standing.next r ≡ is_record records r
is_behind standing records r are =
    ap (λ rows. is_next rows standing.next r) are.rows ∙ ap (λ next. is_next (rows_of records) next r) are.next ∙ sym (is_record-is records r)

pub few_rows : (standing : StandingView) (records : List HubRecord) → AreRowsOf standing records → length records < 4294967295
    → AreFew standing.rows
few_rows standing records are few =
    subst AreFew (sym are.rows) (record { asked = omega (arith, few, asked_few records); opened = omega (arith, few, opened_few records) })

pub one_more : (old new : StandingView) (records : List HubRecord) (r : HubRecord) → AreRowsOf old records → IsAfter old new r
    → AreRowsOf new (records ++ r ∷ [])
one_more old new records r are after = record {
  rows = after.rows ∙ ap (λ rows. rows_after rows r) are.rows ∙ sym (rows_of-push records r);
  next = after.next ∙ ap (λ n. max n (above (drawn r))) are.next ∙ sym (next_of-push records r);
}

pub keeps_itself : KeepsItself hub_row_rules
keeps_itself standing = record { asked = omega arith; opened = omega arith }
