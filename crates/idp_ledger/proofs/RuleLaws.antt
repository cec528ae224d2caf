-- The laws of the records of an identity provider, and of their rows.
use Rattle.std.proofs.Common.{◌≡◌, ℕ, suc, ◌+◌, ◌<◌, ◌≤◌, max, List, [], ◌∷◌, ◌++◌, length, slice_get, Option, None, Some, sym, ap, ◌∙◌, subst, arith}
use Rattle.std.specs.List.{list_any}
use Rattle.ledger_records.specs.declared.idp_record.Issued.{Issued}
use Rattle.ledger_records.specs.declared.idp_record.IdpRecord.{IdpRecord}
use Rattle.ledger_records.specs.declared.idp_record.IdpRecord.TheVariants as kinds
use Rattle.ledger_records.specs.IdpRecord.{idp_bytes}
use Rattle.ledger_rules.specs.Numbers.{Drawn, above}
use Rattle.record_ledger.specs.Laws.{AreFreshlyDrawn, AreRowsOfRecords, IsOneByteMore, KeepsItself}
use Rattle.record_ledger.specs.Linking.{LinkLaws}
use Rattle.idp_rows.specs.declared.row.SessionRow.{SessionRow}
use Rattle.idp_rows.specs.RowsOf.{if_pending, ends, pending_rows, issued_rows, session_row, session_rows, left_rows, rows_of, rows_after}
use Rattle.idp_ledger.specs.Record.{is_record, idp_rules}
use Rattle.idp_rows.specs.Record.{drawn, next_drawn, is_next}
use Rattle.idp_ledger.specs.Standing.{AreRowsOf, idp_row_rules}
use Rattle.idp_rows.specs.Kept.{StandingView, AreFew, IsAfter}
use Rattle.idp_ledger.specs.Linking.{row_found, next_found, session_found, idp_links}
use Rattle.idp_ledger.proofs.RowLaws.{is_record-is, rows_of-push, next_of-push}
use Rattle.idp_ledger.proofs.RoundRows.{rounds_few, counted}
use Rattle.idp_ledger.proofs.LawWords.{parts}
use Rattle.idp_rows.proofs.StandingRows.{assertion_of, message_of, cookie_of, index_of}
use Rattle.idp_ledger.proofs.LinkFree.{names_has, free_row, within_row, within_names, within_none}

no_longer : (n : ℕ) → n ≤ n + 1
no_longer n = omega arith

pub one_byte_more : IsOneByteMore idp_rules
one_byte_more version r = no_longer (length (idp_bytes r))

pub freshly_drawn : AreFreshlyDrawn idp_rules
freshly_drawn before r is = (parts before r is).fresh

-- ---- how many rows there are

pendings_few : (records : List IdpRecord) → length (pending_rows records) ≤ length records
pendings_few [] = omega arith
pendings_few (kinds.Pending r ∷ later) = omega (arith, pendings_few later)
pendings_few (kinds.Issued r ∷ later) = omega (arith, pendings_few later)
pendings_few (kinds.Ended r ∷ later) = omega (arith, pendings_few later)
pendings_few (kinds.Left r ∷ later) = omega (arith, pendings_few later)
pendings_few (kinds.Confirmed r ∷ later) = omega (arith, pendings_few later)
pendings_few (kinds.Spoke r ∷ later) = omega (arith, pendings_few later)
pendings_few (kinds.Round r ∷ later) = omega (arith, pendings_few later)
pendings_few (kinds.Told r ∷ later) = omega (arith, pendings_few later)

issues_few : (records : List IdpRecord) → length (issued_rows records) ≤ length records
issues_few [] = omega arith
issues_few (kinds.Pending r ∷ later) = omega (arith, issues_few later)
issues_few (kinds.Issued r ∷ later) = omega (arith, issues_few later)
issues_few (kinds.Ended r ∷ later) = omega (arith, issues_few later)
issues_few (kinds.Left r ∷ later) = omega (arith, issues_few later)
issues_few (kinds.Confirmed r ∷ later) = omega (arith, issues_few later)
issues_few (kinds.Spoke r ∷ later) = omega (arith, issues_few later)
issues_few (kinds.Round r ∷ later) = omega (arith, issues_few later)
issues_few (kinds.Told r ∷ later) = omega (arith, issues_few later)

begun_few : (pending : Option (List ℕ)) (row : SessionRow) (rows : List SessionRow) → length (if_pending pending (row ∷ []) ++ rows) ≤ suc (length rows)
begun_few None row rows = omega arith
begun_few (Some pending) row rows = omega arith

sessions_few : (records : List IdpRecord) → length (session_rows records) ≤ length records
sessions_few [] = omega arith
sessions_few (kinds.Pending r ∷ later) = omega (arith, sessions_few later)
sessions_few (kinds.Issued r ∷ later) = omega (arith, begun_few r.pending (session_row (list_any (ends r.cookie) later) r) (session_rows later), sessions_few later)
sessions_few (kinds.Ended r ∷ later) = omega (arith, sessions_few later)
sessions_few (kinds.Left r ∷ later) = omega (arith, sessions_few later)
sessions_few (kinds.Confirmed r ∷ later) = omega (arith, sessions_few later)
sessions_few (kinds.Spoke r ∷ later) = omega (arith, sessions_few later)
sessions_few (kinds.Round r ∷ later) = omega (arith, sessions_few later)
sessions_few (kinds.Told r ∷ later) = omega (arith, sessions_few later)

lefts_few : (records : List IdpRecord) → length (left_rows records) ≤ length records
lefts_few [] = omega arith
lefts_few (kinds.Pending r ∷ later) = omega (arith, lefts_few later)
lefts_few (kinds.Issued r ∷ later) = omega (arith, lefts_few later)
lefts_few (kinds.Ended r ∷ later) = omega (arith, lefts_few later)
lefts_few (kinds.Left r ∷ later) = omega (arith, lefts_few later)
lefts_few (kinds.Confirmed r ∷ later) = omega (arith, lefts_few later)
lefts_few (kinds.Spoke r ∷ later) = omega (arith, lefts_few later)
lefts_few (kinds.Round r ∷ later) = omega (arith, lefts_few later)
lefts_few (kinds.Told r ∷ later) = omega (arith, lefts_few later)

pub rows_of_records : AreRowsOfRecords idp_rules
rows_of_records records (kinds.Pending r) = pendings_few records
rows_of_records records (kinds.Issued r) = issues_few records
rows_of_records records (kinds.Left r) = lefts_few records
rows_of_records records (kinds.Round r) = rounds_few records
rows_of_records records other = tt

-- ---- one record more

pub is_behind : (standing : StandingView) (records : List IdpRecord) (r : IdpRecord) → AreRowsOf standing records → is_next standing.rows standing.next r ≡ is_record records r
is_behind standing records r are =
    ap (λ rows. is_next rows standing.next r) are.rows ∙ ap (λ next. is_next (rows_of records) next r) are.next ∙ sym (is_record-is records r)

pub few_rows : (standing : StandingView) (records : List IdpRecord) → AreRowsOf standing records → length records < 4294967295 → AreFew standing.rows
few_rows standing records are few =
    subst AreFew (sym are.rows) (record {
      pendings = omega (arith, few, pendings_few records);
      issues = omega (arith, few, issues_few records);
      sessions = omega (arith, few, sessions_few records);
      lefts = omega (arith, few, lefts_few records);
      rounds = record {
        rows_are = omega (arith, few, rounds_few records);
        told = λ k row there. omega (arith, few, (counted records k row there).told);
        confirmed = λ k row there. omega (arith, few, (counted records k row there).confirmed);
      };
    })

pub one_more : (old new : StandingView) (records : List IdpRecord) (r : IdpRecord) → AreRowsOf old records → IsAfter old new r → AreRowsOf new (records ++ r ∷ [])
one_more old new records r are after = record {
  rows = after.rows ∙ ap (λ rows. rows_after rows r) are.rows ∙ sym (rows_of-push records r);
  next = after.next ∙ ap (λ n. max n (above (drawn r))) are.next ∙ sym (next_of-push records r);
}

pub keeps_itself : KeepsItself idp_row_rules
keeps_itself standing = record { pendings = omega arith; issues = omega arith; lefts = omega arith; rounds = omega arith }

-- ---- how records are linked

issued_drawn : (r : Issued) (p : Option (List ℕ)) (d : Drawn) → session_found p r.first r.cookie ≡ Some d
    → slice_get (assertion_of r ∷ message_of r ∷ if_pending p (cookie_of r ∷ index_of r ∷ [])) 2 ≡ Some d
issued_drawn r None d is = absurd (cc)
issued_drawn r (Some pending) d is = is

told_drawn : (first : ℕ) (next : Option (List ℕ)) (d : Drawn) → next_found first next ≡ Some d → (k : ℕ) × (slice_get (next_drawn first next) k ≡ Some d)
told_drawn first None d is = absurd (cc)
told_drawn first (Some next) d is = (0, is)

found_drawn : (r : IdpRecord) (d : Drawn) → row_found r ≡ Some d → (k : ℕ) × (slice_get (drawn r) k ≡ Some d)
found_drawn (kinds.Pending r) d is = (0, is)
found_drawn (kinds.Issued r) d is = (2, issued_drawn r r.pending d is)
found_drawn (kinds.Ended r) d is = absurd (cc)
found_drawn (kinds.Left r) d is = (0, is)
found_drawn (kinds.Confirmed r) d is = absurd (cc)
found_drawn (kinds.Spoke r) d is = absurd (cc)
found_drawn (kinds.Round r) d is = (1, is)
found_drawn (kinds.Told r) d is = told_drawn r.first r.next d is

pub link_laws : LinkLaws idp_rules idp_links
link_laws = record {
  drawn = found_drawn;
  named = names_has;
  free = free_row;
  within = within_row;
  within_names = within_names;
  within_none = within_none;
}
