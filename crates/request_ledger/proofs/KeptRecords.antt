-- What is kept of records of a ledger are records of a ledger.
use Rattle.std.proofs.Common.{◌≡◌, true, not, List, [], refl, sym, ◌∙◌}
use Rattle.std.proofs.lemmas.Bool.{and_parts, and_from, not-true, not_from_false}
use Rattle.ledger_records.specs.declared.sp_record.SpRecord.{SpRecord}
use Rattle.ledger_records.specs.declared.sp_record.SpRecord.TheVariants as kinds
use Rattle.request_rows.specs.Rows.{is_spent}
use Rattle.record_ledger.specs.Marks.{all, kept, KeepsAll, StaysRecord}
use Rattle.record_ledger.proofs.KeptRecords as any
use Rattle.request_ledger.specs.Naming.{names, names_asked, names_opened}
use Rattle.record_ledger.proofs.Numbers.{fresh_below}
use Rattle.record_ledger.proofs.KeptMarks.{any_same, none_kept}
use Rattle.request_ledger.specs.RowsOf.{rows_of, asked_rows, opened_rows}
use Rattle.request_ledger.specs.Record.{is_asked, is_free, drawn, next_of, request_rules}
use Rattle.request_ledger.specs.Laws.{KeptAreRecords}
use Rattle.request_ledger.proofs.LawWords.{opens, asked_any, spent_any, parts, from_parts}
use Rattle.record_ledger.proofs.FreeRows.{all_stay_free, keeps_first, stays_free}
use Rattle.request_ledger.proofs.FreeTokens.{first_named, open_tokens, rest_named, waiting_requests}
use Rattle.request_ledger.proofs.KeptMarks.{Marked}

-- the rows that a record names are there and free where all that it names is kept
free_kept : (marks : List Marked) (r : SpRecord) → KeepsAll (names r) marks → is_free (rows_of (all marks)) r ≡ true → is_free (rows_of (kept marks)) r ≡ true
free_kept marks (kinds.Asked r) keeps free = refl
free_kept marks (kinds.Opened r) keeps free =
    let both = and_parts (is_asked (asked_rows (all marks)) r.request) (not (is_spent (opened_rows (all marks)) r.request)) free in
    let unspent = sym (spent_any (all marks) r.request) ∙ not-true (is_spent (opened_rows (all marks)) r.request) both.1 in
    let asked = any_same (names_asked r.request) marks keeps in
    and_from (is_asked (asked_rows (kept marks)) r.request) (not (is_spent (opened_rows (kept marks)) r.request))
    (asked_any (kept marks) r.request ∙ asked ∙ sym (asked_any (all marks) r.request) ∙ both.0)
    (not_from_false (is_spent (opened_rows (kept marks)) r.request)
    (spent_any (kept marks) r.request ∙ none_kept (opens r.request) marks unspent))
free_kept marks (kinds.Left r) keeps free = stays_free open_tokens r.token marks (keeps_first open_tokens names_opened first_named rest_named r.token [] marks keeps) free
free_kept marks (kinds.Ended r) keeps free = all_stay_free open_tokens names_opened first_named rest_named r.tokens marks keeps free
free_kept marks (kinds.Confirmed r) keeps free = stays_free waiting_requests r.request marks keeps free

pub record_kept : StaysRecord request_rules
record_kept marks r are closed keeps is =
    let p = parts (all marks) r is in
    from_parts (kept marks) r (record {
      free = free_kept marks r keeps p.free;
      fresh = fresh_below (next_of (all marks)) (next_of (kept marks)) (drawn r) (any.next_kept request_rules marks) p.fresh;
      texts = p.texts;
      moment = p.moment;
    })

pub kept_are_records : KeptAreRecords
kept_are_records = any.kept_are_records request_rules record_kept
