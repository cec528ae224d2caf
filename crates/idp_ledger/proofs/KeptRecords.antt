-- What is kept of records of a ledger are records of a ledger.
use Rattle.std.proofs.Common.{◌≡◌, ℕ, true, List, Option, None, Some, refl}
use Rattle.ledger_records.specs.declared.idp_record.IdpRecord.{IdpRecord}
use Rattle.ledger_records.specs.declared.idp_record.IdpRecord.TheVariants as kinds
use Rattle.record_ledger.specs.Marks.{all, kept, KeepsAll, StaysRecord}
use Rattle.record_ledger.proofs.KeptRecords as any
use Rattle.idp_ledger.specs.Naming.{names, issue_names, has_session}
use Rattle.record_ledger.proofs.Numbers.{fresh_below}
use Rattle.idp_rows.specs.RowsOf.{rows_of}
use Rattle.idp_ledger.specs.Record.{next_of, idp_rules}
use Rattle.idp_rows.specs.Record.{is_issue_free, is_free, drawn}
use Rattle.idp_ledger.specs.Laws.{KeptAreRecords}
use Rattle.idp_ledger.proofs.LawWords.{parts, from_parts}
use Rattle.record_ledger.proofs.FreeRows.{all_stay_free, stays_free}
use Rattle.idp_ledger.proofs.FreeKeys.{first_named, rest_named, unended_cookies, unused_pendings, waiting_logouts}
use Rattle.idp_ledger.proofs.KeptMarks.{Marked, AreClosed}
use Rattle.idp_ledger.proofs.KeptRounds.{answer_kept}

-- the rows that a record names are there and free where all that it names is kept
issue_kept : (marks : List Marked) (p : Option (List ℕ)) (cookie : List ℕ) → KeepsAll (issue_names p cookie) marks
    → is_issue_free (rows_of (all marks)) p cookie ≡ true → is_issue_free (rows_of (kept marks)) p cookie ≡ true
issue_kept marks None cookie keeps free = stays_free unended_cookies cookie marks keeps free
issue_kept marks (Some pending) cookie keeps free = stays_free unused_pendings pending marks keeps free

free_kept : (marks : List Marked) (r : IdpRecord) → AreClosed marks → KeepsAll (names r) marks → is_free (rows_of (all marks)) r ≡ true → is_free (rows_of (kept marks)) r ≡ true
free_kept marks (kinds.Issued r) closed keeps free = issue_kept marks r.pending r.cookie keeps free
free_kept marks (kinds.Ended r) closed keeps free = all_stay_free unended_cookies has_session first_named rest_named r.cookies marks keeps free
free_kept marks (kinds.Left r) closed keeps free = stays_free unended_cookies r.cookie marks keeps free
free_kept marks (kinds.Confirmed r) closed keeps free = stays_free waiting_logouts r.request marks keeps free
free_kept marks (kinds.Round r) closed keeps free = all_stay_free unended_cookies has_session first_named rest_named r.cookies marks keeps free
free_kept marks (kinds.Told r) closed keeps free = answer_kept marks r closed keeps free
free_kept marks other closed keeps free = refl

pub record_kept : StaysRecord idp_rules
record_kept marks r are closed keeps is =
    let p = parts (all marks) r is in
    from_parts (kept marks) r (record {
      free = free_kept marks r closed keeps p.free;
      fresh = fresh_below (next_of (all marks)) (next_of (kept marks)) (drawn r) (any.next_kept idp_rules marks) p.fresh;
      texts = p.texts;
      dated = p.dated;
    })

pub kept_are_records : KeptAreRecords
kept_are_records = any.kept_are_records idp_rules record_kept
