-- A compaction leaves the parts of live sessions as they were.
use Rattle.std.proofs.Common.{◌≡◌, ℕ, Bool, true, false, ◌&&◌, not, cond, List, [], ◌∷◌, Option, None, Some, map, filter, bytes_eq, is_some, refl, sym, ap, ◌∙◌, subst, inl, inr}
use Rattle.std.specs.List.{list_all}
use Rattle.std.proofs.lemmas.Bool.{false≢true, and_parts, or_cases, false_from_ne_true}
use Rattle.ledger_records.specs.declared.idp_record.IdpRecord.{IdpRecord}
use Rattle.ledger_records.specs.declared.idp_record.IdpRecord.TheVariants as kinds
use Rattle.logout_turns.specs.declared.part.Part.{Part}
use Rattle.record_ledger.specs.Marks.{all, kept, KeepsAll}
use Rattle.record_ledger.proofs.Words.{same_text, other_way}
use Rattle.record_ledger.proofs.KeptFlags.{are_marked}
use Rattle.idp_rows.specs.declared.row.IssuedRow.{IssuedRow}
use Rattle.idp_rows.specs.declared.row.SessionRow.{SessionRow}
use Rattle.idp_rows.specs.Finding.{part_of, parts_of, session_found, visible}
use Rattle.idp_rows.specs.RowsOf.{is_among, issued_row, issued_rows, session_rows}
use Rattle.idp_ledger.specs.Record.{AreRecords, idp_rules}
use Rattle.record_ledger.specs.Compacting.{AreKept}
use Rattle.idp_ledger.specs.Drafts.{AreLive}
use Rattle.idp_ledger.proofs.LawWords.{Each}
use Rattle.idp_ledger.proofs.KeptMarks.{Marked}
use Rattle.idp_ledger.proofs.KeptIssues.{is_of, sessions_keep}
use Rattle.idp_ledger.proofs.RowTexts.{found_row}

-- whether a record is an Issued with one of these cookies
abbrev is_in : List (List ℕ) → IdpRecord → Bool
is_in cookies (kinds.Issued r) = is_among r.cookie cookies
is_in cookies other = false

-- with each of these cookies all that was issued is kept
abbrev KeepsEach : List (List ℕ) → List Marked → Type 0
KeepsEach cookies marks = Each (λ (c : List ℕ). KeepsAll (is_of c) marks) cookies

later_marks : (cookies : List (List ℕ)) (m : Marked) (marks : List Marked) → KeepsEach cookies (m ∷ marks) → KeepsEach cookies marks
later_marks [] m marks each = tt
later_marks (c ∷ cookies) m marks each = (each.0.1, later_marks cookies m marks each.1)

issued_kept : (cookies : List (List ℕ)) (own : List ℕ) (flag : Bool) → Each (λ (c : List ℕ). bytes_eq own c ≡ true → flag ≡ true) cookies
    → is_among own cookies ≡ true → flag ≡ true
issued_kept [] own flag each is = absurd (false≢true is)
issued_kept (c ∷ cookies) own flag each is = elim (or_cases (bytes_eq c own) (is_among own cookies) is) [
  | inl here ↦ each.0 (other_way c own here)
  | inr later ↦ issued_kept cookies own flag each.1 later
]

first_marks : (cookies : List (List ℕ)) (m : Marked) (marks : List Marked) → KeepsEach cookies (m ∷ marks)
    → Each (λ (c : List ℕ). is_of c m.1 ≡ true → m.0 ≡ true) cookies
first_marks [] m marks each = tt
first_marks (c ∷ cookies) m marks each = (each.0.0, first_marks cookies m marks each.1)

in_kept : (cookies : List (List ℕ)) (flag : Bool) (r : IdpRecord) → Each (λ (c : List ℕ). is_of c r ≡ true → flag ≡ true) cookies
    → is_in cookies r ≡ true → flag ≡ true
in_kept cookies flag (kinds.Issued r) each is = issued_kept cookies r.cookie flag each is
in_kept cookies flag other each is = absurd (false≢true is)

keeps_in : (cookies : List (List ℕ)) (marks : List Marked) → KeepsEach cookies marks → KeepsAll (is_in cookies) marks
keeps_in cookies [] each = tt
keeps_in cookies (m ∷ marks) each =
    (in_kept cookies m.0 m.1 (first_marks cookies m marks each), keeps_in cookies marks (later_marks cookies m marks each))

-- ---- so the parts are alike

abbrev kept_part : List (List ℕ) → IssuedRow → Bool
kept_part cookies row = is_among row.cookie cookies

part_step : (cookies : List (List ℕ)) (row : IssuedRow) (rows : List IssuedRow)
    → parts_of cookies (row ∷ rows) ≡ cond (is_among row.cookie cookies) (part_of row ∷ parts_of cookies rows) (parts_of cookies rows)
part_step cookies row rows = by_test (is_among row.cookie cookies)
  where
    by_test : (b : Bool) → map part_of (cond b (row ∷ filter (kept_part cookies) rows) (filter (kept_part cookies) rows))
        ≡ cond b (part_of row ∷ parts_of cookies rows) (parts_of cookies rows)
    by_test true = refl
    by_test false = refl

same_parts : (cookies : List (List ℕ)) (marks : List Marked) → KeepsAll (is_in cookies) marks
    → parts_of cookies (issued_rows (kept marks)) ≡ parts_of cookies (issued_rows (all marks))
same_parts cookies [] keeps = refl
same_parts cookies ((true, kinds.Issued r) ∷ marks) keeps =
    part_step cookies (issued_row r) (issued_rows (kept marks))
    ∙ ap (λ (rest : List Part). cond (is_among r.cookie cookies) (part_of (issued_row r) ∷ rest) rest) (same_parts cookies marks keeps.1)
    ∙ sym (part_step cookies (issued_row r) (issued_rows (all marks)))
same_parts cookies ((false, kinds.Issued r) ∷ marks) keeps =
    let other : is_among r.cookie cookies ≡ false = false_from_ne_true (is_among r.cookie cookies) (λ here. false≢true (keeps.0 here)) in
    let rest = parts_of cookies (issued_rows (all marks)) in
    same_parts cookies marks keeps.1
    ∙ sym (part_step cookies (issued_row r) (issued_rows (all marks)) ∙ ap (λ (b : Bool). cond b (part_of (issued_row r) ∷ rest) rest) other)
same_parts cookies ((true, kinds.Pending r) ∷ marks) keeps = same_parts cookies marks keeps.1
same_parts cookies ((true, kinds.Ended r) ∷ marks) keeps = same_parts cookies marks keeps.1
same_parts cookies ((true, kinds.Left r) ∷ marks) keeps = same_parts cookies marks keeps.1
same_parts cookies ((true, kinds.Confirmed r) ∷ marks) keeps = same_parts cookies marks keeps.1
same_parts cookies ((true, kinds.Spoke r) ∷ marks) keeps = same_parts cookies marks keeps.1
same_parts cookies ((true, kinds.Round r) ∷ marks) keeps = same_parts cookies marks keeps.1
same_parts cookies ((true, kinds.Told r) ∷ marks) keeps = same_parts cookies marks keeps.1
same_parts cookies ((false, kinds.Pending r) ∷ marks) keeps = same_parts cookies marks keeps.1
same_parts cookies ((false, kinds.Ended r) ∷ marks) keeps = same_parts cookies marks keeps.1
same_parts cookies ((false, kinds.Left r) ∷ marks) keeps = same_parts cookies marks keeps.1
same_parts cookies ((false, kinds.Confirmed r) ∷ marks) keeps = same_parts cookies marks keeps.1
same_parts cookies ((false, kinds.Spoke r) ∷ marks) keeps = same_parts cookies marks keeps.1
same_parts cookies ((false, kinds.Round r) ∷ marks) keeps = same_parts cookies marks keeps.1
same_parts cookies ((false, kinds.Told r) ∷ marks) keeps = same_parts cookies marks keeps.1

-- ---- the cookies of live sessions

-- what holds of each row holds of the one that is found
at_found : (P : List ℕ → Type 0) (rows : List SessionRow) (test : SessionRow → Bool) (row : SessionRow) → Each (λ (s : SessionRow). P s.cookie) rows
    → Rattle.std.specs.List.find test rows ≡ Some row → P row.cookie
at_found P [] test row each is = absurd (cc)
at_found P (first ∷ rows) test row each is = by_test (test first) is (λ later. at_found P rows test row each.1 later)
  where
    by_test : (b : Bool) → cond b (Some first) (Rattle.std.specs.List.find test rows) ≡ Some row
        → (Rattle.std.specs.List.find test rows ≡ Some row → P row.cookie) → P row.cookie
    by_test true here later =
        let same : first ≡ row = cc in
        subst (λ (s : SessionRow). P s.cookie) same each.0
    by_test false none later = later none

live_has : (P : List ℕ → Type 0) (rows : List SessionRow) (cookie : List ℕ) (now horizon : ℕ) → Each (λ (s : SessionRow). P s.cookie) rows
    → (o : Option SessionRow) → session_found rows cookie now horizon ≡ o → is_some o ≡ true → P cookie
live_has P rows cookie now horizon each None found some = absurd (false≢true some)
live_has P rows cookie now horizon each (Some row) found some =
    let test : SessionRow → Bool = λ s. bytes_eq s.cookie cookie && not s.ended && visible s.until now horizon in
    let passes = (found_row test (λ s. true) rows row found (all_pass rows)).0 in
    let first = (and_parts (bytes_eq row.cookie cookie && not row.ended) (visible row.until now horizon) passes).0 in
    let here = (and_parts (bytes_eq row.cookie cookie) (not row.ended) first).0 in
    subst P (same_text row.cookie cookie here) (at_found P rows test row each found)
  where
    all_pass : (rows : List SessionRow) → list_all (λ (s : SessionRow). true) rows ≡ true
    all_pass [] = refl
    all_pass (s ∷ rows) = all_pass rows

each_live : (P : List ℕ → Type 0) (rows : List SessionRow) (cookies : List (List ℕ)) (now horizon : ℕ) → Each (λ (s : SessionRow). P s.cookie) rows
    → AreLive rows cookies now horizon → Each P cookies
each_live P rows [] now horizon each live = tt
each_live P rows (c ∷ cookies) now horizon each live =
    let both = and_parts (is_some (session_found rows c now horizon)) (list_all (λ cookie. is_some (session_found rows cookie now horizon)) cookies) live in
    (live_has P rows c now horizon each (session_found rows c now horizon) refl both.0, each_live P rows cookies now horizon each both.1)

-- the parts of sessions that live among what is kept
pub parts_alike : (now horizon later other : ℕ) (records some : List IdpRecord) (cookies : List (List ℕ)) → AreRecords records → AreKept idp_rules now horizon records some
    → AreLive (session_rows some) cookies later other → parts_of cookies (issued_rows some) ≡ parts_of cookies (issued_rows records)
parts_alike now horizon later other records some cookies are are_kept live =
    let m = are_marked idp_rules now horizon records some are_kept in
    let each = subst (λ rs. Each (λ (row : SessionRow). KeepsAll (is_of row.cookie) m.marks) (session_rows rs)) m.are_kept
    (sessions_keep m.marks (subst AreRecords (sym m.are_all) are) m.closed) in
    let keeps = keeps_in cookies m.marks (each_live (λ (c : List ℕ). KeepsAll (is_of c) m.marks) (session_rows some) cookies later other each live) in
    subst (λ rs. parts_of cookies (issued_rows rs) ≡ parts_of cookies (issued_rows records)) m.are_kept
    (subst (λ rs. parts_of cookies (issued_rows (kept m.marks)) ≡ parts_of cookies (issued_rows rs)) m.are_all (same_parts cookies m.marks keeps))
