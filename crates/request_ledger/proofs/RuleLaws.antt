-- The laws of the records of a service provider, and of their rows.
use Rattle.std.proofs.Common.{◌≡◌, ℕ, suc, ◌+◌, ◌<◌, ◌≤◌, List, [], ◌∷◌, ◌++◌, length, slice_get, Some, sym, ap, ◌∙◌, subst, max, arith}
use Rattle.std.proofs.lemmas.List.{length-append}
use Rattle.ledger_records.specs.declared.key_number.KeyNumber.{KeyNumber}
use Rattle.ledger_records.specs.declared.sp_record.SpRecord.{SpRecord}
use Rattle.ledger_records.specs.declared.sp_record.SpRecord.TheVariants as kinds
use Rattle.ledger_records.specs.Fields.{Field, Number, Text, Optional, Attributes, field, bytes_of}
use Rattle.ledger_records.specs.SpRecord.{key_in, sp_bytes}
use Rattle.ledger_rules.specs.Numbers.{Drawn, above}
use Rattle.record_ledger.specs.Laws.{AreFreshlyDrawn, AreRowsOfRecords, IsOneByteMore, KeepsItself}
use Rattle.record_ledger.specs.Linking.{LinkLaws}
use Rattle.request_ledger.specs.RowsOf.{asked_rows, opened_rows, left_rows, rows_of, rows_after}
use Rattle.request_ledger.specs.Record.{drawn, is_next, is_record, request_rules}
use Rattle.request_ledger.specs.Standing.{StandingView, AreFew, AreRowsOf, IsAfter, request_row_rules}
use Rattle.request_ledger.specs.Linking.{row_found, request_links}
use Rattle.request_ledger.proofs.RowLaws.{is_record-is, rows_of-push, next_of-push}
use Rattle.request_ledger.proofs.LawWords.{parts}
use Rattle.request_ledger.proofs.LinkFree.{names_has, free_row}

-- in version 2 the bytes of a record are at most one more than in another version
longer : (fields : List Field) (version : ℕ) (key : KeyNumber) → length (bytes_of (fields ++ key_in 2 key)) ≤ length (bytes_of (fields ++ key_in version key)) + 1
longer [] version key = omega arith
longer (f ∷ fields) version key =
    omega (arith, longer fields version key, length-append (field f) (bytes_of (fields ++ key_in 2 key)), length-append (field f) (bytes_of (fields ++ key_in version key)))

no_longer : (n : ℕ) → n ≤ n + 1
no_longer n = omega arith

more : (n m : ℕ) → n ≤ m + 1 → suc n ≤ suc m + 1
more n m le = omega arith

pub one_byte_more : IsOneByteMore request_rules
one_byte_more version (kinds.Asked r) = no_longer (length (sp_bytes 2 (kinds.Asked r)))
one_byte_more version (kinds.Opened r) =
    let fields : List Field = Number r.first ∷ Number r.moment ∷ Number r.until ∷ Text r.request ∷ Text r.issuer ∷ Text r.assertion
    ∷ Number r.assertion_until ∷ Text r.token ∷ Text r.name ∷ Optional r.index ∷ Attributes r.attributes ∷ [] in
    more (length (bytes_of (fields ++ key_in 2 r.key))) (length (bytes_of (fields ++ key_in version r.key))) (longer fields version r.key)
one_byte_more version (kinds.Left r) = no_longer (length (sp_bytes 2 (kinds.Left r)))
one_byte_more version (kinds.Ended r) = no_longer (length (sp_bytes 2 (kinds.Ended r)))
one_byte_more version (kinds.Confirmed r) = no_longer (length (sp_bytes 2 (kinds.Confirmed r)))

pub freshly_drawn : AreFreshlyDrawn request_rules
freshly_drawn before r is = (parts before r is).fresh

-- ---- how many rows there are

asked_few : (records : List SpRecord) → length (asked_rows records) ≤ length records
asked_few [] = omega arith
asked_few (kinds.Asked r ∷ later) = omega (arith, asked_few later)
asked_few (kinds.Opened r ∷ later) = omega (arith, asked_few later)
asked_few (kinds.Left r ∷ later) = omega (arith, asked_few later)
asked_few (kinds.Ended r ∷ later) = omega (arith, asked_few later)
asked_few (kinds.Confirmed r ∷ later) = omega (arith, asked_few later)

opened_few : (records : List SpRecord) → length (opened_rows records) ≤ length records
opened_few [] = omega arith
opened_few (kinds.Asked r ∷ later) = omega (arith, opened_few later)
opened_few (kinds.Opened r ∷ later) = omega (arith, opened_few later)
opened_few (kinds.Left r ∷ later) = omega (arith, opened_few later)
opened_few (kinds.Ended r ∷ later) = omega (arith, opened_few later)
opened_few (kinds.Confirmed r ∷ later) = omega (arith, opened_few later)

left_few : (records : List SpRecord) → length (left_rows records) ≤ length records
left_few [] = omega arith
left_few (kinds.Asked r ∷ later) = omega (arith, left_few later)
left_few (kinds.Opened r ∷ later) = omega (arith, left_few later)
left_few (kinds.Left r ∷ later) = omega (arith, left_few later)
left_few (kinds.Ended r ∷ later) = omega (arith, left_few later)
left_few (kinds.Confirmed r ∷ later) = omega (arith, left_few later)

pub rows_of_records : AreRowsOfRecords request_rules
rows_of_records records (kinds.Asked r) = asked_few records
rows_of_records records (kinds.Opened r) = opened_few records
rows_of_records records (kinds.Left r) = left_few records
rows_of_records records other = tt

-- ---- one record more

pub is_behind : (standing : StandingView) (records : List SpRecord) (r : SpRecord) → AreRowsOf standing records → is_next standing.rows standing.next r ≡ is_record records r
is_behind standing records r are =
    ap (λ rows. is_next rows standing.next r) are.rows ∙ ap (λ next. is_next (rows_of records) next r) are.next ∙ sym (is_record-is records r)

pub few_rows : (standing : StandingView) (records : List SpRecord) → AreRowsOf standing records → length records < 4294967295 → AreFew standing.rows
few_rows standing records are few =
    subst AreFew (sym are.rows)
    (record { asked = omega (arith, few, asked_few records); opened = omega (arith, few, opened_few records); left = omega (arith, few, left_few records) })

pub one_more : (old new : StandingView) (records : List SpRecord) (r : SpRecord) → AreRowsOf old records → IsAfter old new r → AreRowsOf new (records ++ r ∷ [])
one_more old new records r are after = record {
  rows = after.rows ∙ ap (λ rows. rows_after rows r) are.rows ∙ sym (rows_of-push records r);
  next = after.next ∙ ap (λ n. max n (above (drawn r))) are.next ∙ sym (next_of-push records r);
}

pub keeps_itself : KeepsItself request_row_rules
keeps_itself standing = record { asked = omega arith; opened = omega arith; left = omega arith }

-- ---- how records are linked

found_drawn : (r : SpRecord) (d : Drawn) → row_found r ≡ Some d → (k : ℕ) × (slice_get (drawn r) k ≡ Some d)
found_drawn (kinds.Ended r) d is = absurd (cc)
found_drawn (kinds.Confirmed r) d is = absurd (cc)
found_drawn other d is = (0, is)

pub link_laws : LinkLaws request_rules request_links
link_laws = record {
  drawn = found_drawn;
  named = names_has;
  free = λ before r id are. free_row before r id;
  within = λ before r id is some. absurd (cc);
  within_names = λ r x id some is. absurd (cc);
  within_none = λ r id some. absurd (cc);
}
