-- What an Issued was issued for.
use Rattle.std.proofs.Common.{◌≡◌, ℕ, suc, Bool, true, not, ◌&&◌, List, [], ◌∷◌, ◌++◌, Option, None, Some, slice_get, bytes_eq, refl, sym, subst, inl, inr, append_assoc, append-nil}
use Rattle.std.specs.List.{list_any}
use Rattle.std.proofs.lemmas.Bool.{false≢true, and_parts, or_cases, not-true}
use Rattle.ledger_records.specs.declared.idp_record.IdpRecord.{IdpRecord}
use Rattle.ledger_records.specs.declared.idp_record.IdpRecord.TheVariants as kinds
use Rattle.record_ledger.proofs.Words.{same_text}
use Rattle.idp_rows.specs.declared.row.PendingRow.{PendingRow}
use Rattle.idp_rows.specs.declared.row.SessionRow.{SessionRow}
use Rattle.idp_rows.specs.RowsOf.{rows_of}
use Rattle.idp_ledger.specs.Record.{is_record, AreRecordsAfter}
use Rattle.idp_rows.specs.Record.{is_issue_free}
use Rattle.idp_ledger.specs.Laws.{HasCause, EachIssueHasItsCause}
use Rattle.idp_ledger.proofs.LawWords.{parts}

-- an item at a place
some_at : {X : Type 0} (test : X → Bool) (xs : List X) → list_any test xs ≡ true → (k : ℕ) × ((x : X) × (slice_get xs k ≡ Some x) × (test x ≡ true))
some_at test [] some = absurd (false≢true some)
some_at test (x ∷ xs) some =
    elim (or_cases (test x) (list_any test xs) some) [
      | inl here ↦ (0, (x, refl, here))
      | inr there ↦ let rest = some_at test xs there in (suc rest.0, rest.1)
    ]

-- a record is one of the ledger behind those before it
pub record_there : (front before later : List IdpRecord) (r : IdpRecord) → AreRecordsAfter front (before ++ r ∷ later) → is_record (front ++ before) r ≡ true
record_there front [] later r are = subst (λ b. is_record b r ≡ true) (sym (append-nil front)) are.0
record_there front (x ∷ before) later r are =
    subst (λ b. is_record b r ≡ true) (append_assoc front (x ∷ []) before) (record_there (front ++ x ∷ []) before later r are.1)

cause : (before : List IdpRecord) (p : Option (List ℕ)) (cookie : List ℕ) → is_issue_free (rows_of before) p cookie ≡ true → HasCause (rows_of before) p cookie
cause before None cookie free =
    let at = some_at (λ (row : SessionRow). bytes_eq row.cookie cookie && not row.ended) (rows_of before).sessions free in
    let both = and_parts (bytes_eq at.1.0.cookie cookie) (not at.1.0.ended) at.1.2 in
    record { place = at.0; row = at.1.0; there = at.1.1; is = same_text at.1.0.cookie cookie both.0; unended = not-true at.1.0.ended both.1 }
cause before (Some pending) cookie free =
    let at = some_at (λ (row : PendingRow). bytes_eq row.pending pending && not row.used) (rows_of before).pendings free in
    let both = and_parts (bytes_eq at.1.0.pending pending) (not at.1.0.used) at.1.2 in
    record { place = at.0; row = at.1.0; there = at.1.1; is = same_text at.1.0.pending pending both.0; unused = not-true at.1.0.used both.1 }

pub each_issue_has_its_cause : EachIssueHasItsCause
each_issue_has_its_cause before later r are =
    cause before r.pending r.cookie (parts before (kinds.Issued r) (record_there [] before later (kinds.Issued r) are)).free
