-- That no two sessions in the records of a ledger have one cookie, so that a session is found by its own.
use Rattle.std.specs.Prelude.{Contains}
use Rattle.std.specs.List.{AllByRecursion, find, list_any}
use Rattle.std.specs.Str.{bytes_eq}
use Rattle.std.proofs.Common.{◌≡◌, ℕ, zero, suc, ◌+◌, ◌<◌, ◌≤◌, max, Bool, true, false, cond, not, ◌&&◌, ◌||◌, List, [], ◌∷◌, ◌++◌}
use Rattle.std.proofs.Common.{Option, None, Some, refl, sym, ap, ◌∙◌, subst, arith}
use Rattle.std.proofs.lemmas.Bool.{and_parts, lt-ltb, or_left, or_right, true≢false}
use Rattle.ledger_records.specs.declared.idp_record.Issued.{Issued}
use Rattle.ledger_records.specs.declared.idp_record.IdpRecord.{IdpRecord}
use Rattle.ledger_records.specs.declared.idp_record.IdpRecord.TheVariants as kinds
use Rattle.ledger_rules.specs.Numbers.{NUMBER_END, has_number}
use Rattle.record_ledger.proofs.Numbers.{IsNumbered, numbered_above, one_number}
use Rattle.record_ledger.proofs.Words.{other_way, same_text, text_itself}
use Rattle.idp_rows.specs.declared.row.SessionRow.{SessionRow}
use Rattle.idp_rows.specs.Finding.{session_found, visible}
use Rattle.idp_rows.specs.RowsOf.{ends, if_pending, rows_of, session_row, session_rows}
use Rattle.idp_rows.proofs.StandingRows.{above_some, fresh_cookie}
use Rattle.idp_ledger.specs.Record.{AreRecords, AreRecordsAfter, is_record, next_of}
use Rattle.idp_ledger.proofs.RowLaws.{is_record-is, next_of-push}

-- ---- the numbers of cookies

-- each cookie begins with a number that is this one or greater
abbrev AreNumbered : (least : ℕ) → List SessionRow → Type 0
AreNumbered least rows = AllByRecursion (λ (row : SessionRow). IsNumbered least row.cookie) rows

lower : (least less : ℕ) (rows : List SessionRow) → less ≤ least → AreNumbered least rows → AreNumbered less rows
lower least less [] le all = tt
lower least less (row ∷ rows) le all =
    (numbered_above least less row.cookie le all.0, lower least less rows le all.1)

-- the cookie that a record draws
drawn_cookie : (before : List IdpRecord) (r : Issued) (pending : List ℕ) → r.pending ≡ Some pending
    → is_record before (kinds.Issued r) ≡ true → IsNumbered (next_of before) r.cookie
drawn_cookie before r pending has is =
    let fresh =
    fresh_cookie (rows_of before) (next_of before) r pending has (sym (is_record-is before (kinds.Issued r)) ∙ is) in
    record { number = r.first + 2; greater = fresh.least_is; small = fresh.below; begins = fresh.has }

-- behind records those of later sessions have numbers above all that were drawn
behind : (before : List IdpRecord) (r : IdpRecord) (rows : List SessionRow) → AreNumbered (next_of (before ++ r ∷ [])) rows
    → AreNumbered (next_of before) rows
behind before r rows all =
    lower (next_of (before ++ r ∷ [])) (next_of before) rows (omega (arith, next_of-push before r)) all

begun_numbered : (before : List IdpRecord) (r : Issued) (p : Option (List ℕ)) (ended : Bool) (rows : List SessionRow)
    → r.pending ≡ p → is_record before (kinds.Issued r) ≡ true → AreNumbered (next_of before) rows
    → AreNumbered (next_of before) (if_pending p (session_row ended r ∷ []) ++ rows)
begun_numbered before r None ended rows has is all = all
begun_numbered before r (Some pending) ended rows has is all = (drawn_cookie before r pending has is, all)

numbered : (before later : List IdpRecord) → AreRecordsAfter before later
    → AreNumbered (next_of before) (session_rows later)
numbered before [] are = tt
numbered before (kinds.Issued r ∷ later) are =
    begun_numbered before r r.pending (list_any (ends r.cookie) later) (session_rows later) refl are.0
    (behind before (kinds.Issued r) (session_rows later) (numbered (before ++ kinds.Issued r ∷ []) later are.1))
numbered before (other ∷ later) are =
    behind before other (session_rows later) (numbered (before ++ other ∷ []) later are.1)

-- ---- rows with cookies of their own

-- no row has the cookie of one before it
abbrev AreApart : List SessionRow → Type 0
AreApart [] = Unit {0}
AreApart (row ∷ rows) =
    (list_any (λ (other : SessionRow). bytes_eq other.cookie row.cookie) rows ≡ false) × AreApart rows

none_same : (number least : ℕ) (cookie : List ℕ) (rows : List SessionRow) → number < least → number < NUMBER_END
    → has_number number cookie ≡ true → AreNumbered least rows
    → list_any (λ (other : SessionRow). bytes_eq other.cookie cookie) rows ≡ false
none_same number least cookie [] less small begins all = refl
none_same number least cookie (row ∷ rows) less small begins all =
    by_test (bytes_eq row.cookie cookie) refl (none_same number least cookie rows less small begins all.1)
  where
    by_test : (b : Bool) → bytes_eq row.cookie cookie ≡ b
        → list_any (λ (other : SessionRow). bytes_eq other.cookie cookie) rows ≡ false
        → (b || list_any (λ (other : SessionRow). bytes_eq other.cookie cookie) rows) ≡ false
    by_test true is rest =
        let own = all.0 in
        let begins_too =
        subst (λ (c : List ℕ). has_number own.number c ≡ true) (same_text row.cookie cookie is) own.begins in
        let same = one_number own.number number cookie own.small small begins_too begins in
        absurd (omega (arith, same, own.greater, less))
    by_test false is rest = rest

begun_apart : (before : List IdpRecord) (r : Issued) (p : Option (List ℕ)) (ended : Bool) (rows : List SessionRow)
    → r.pending ≡ p → is_record before (kinds.Issued r) ≡ true → AreNumbered (next_of (before ++ kinds.Issued r ∷ [])) rows
    → AreApart rows → AreApart (if_pending p (session_row ended r ∷ []) ++ rows)
begun_apart before r None ended rows has is all apart = apart
begun_apart before r (Some pending) ended rows has is all apart =
    let own = fresh_cookie (rows_of before) (next_of before) r pending has
    (sym (is_record-is before (kinds.Issued r)) ∙ is) in (
      none_same (r.first + 2) (next_of (before ++ kinds.Issued r ∷ [])) r.cookie rows
          (omega (arith, next_of-push before (kinds.Issued r), above_some r pending has)) own.below own.has all,
      apart,
    )

apart_behind : (before later : List IdpRecord) → AreRecordsAfter before later → AreApart (session_rows later)
apart_behind before [] are = tt
apart_behind before (kinds.Issued r ∷ later) are =
    begun_apart before r r.pending (list_any (ends r.cookie) later) (session_rows later) refl are.0
    (numbered (before ++ kinds.Issued r ∷ []) later are.1) (apart_behind (before ++ kinds.Issued r ∷ []) later are.1)
apart_behind before (other ∷ later) are = apart_behind (before ++ other ∷ []) later are.1

-- ---- the row that is found

any_there : (test : SessionRow → Bool) (rows : List SessionRow) (row : SessionRow) → Contains rows row
    → test row ≡ true → list_any test rows ≡ true
any_there test [] row there is = absurd (omega (arith, there.1))
any_there test (x ∷ xs) row (zero, less, same) is = or_left (test x) (list_any test xs) (ap test same ∙ is)
any_there test (x ∷ xs) row (suc k, less, same) is =
    or_right (test x) (list_any test xs) (any_there test xs row (k, omega (arith, less), same) is)

-- a row is found where only one with its cookie passes
found_alone : (test : SessionRow → Bool) (rows : List SessionRow) (row : SessionRow)
    → ((other : SessionRow) → test other ≡ true → bytes_eq other.cookie row.cookie ≡ true) → AreApart rows
    → Contains rows row → test row ≡ true → find test rows ≡ Some row
found_alone test [] row only apart there is = absurd (omega (arith, there.1))
found_alone test (x ∷ xs) row only apart (zero, less, same) is =
    ap (λ (b : Bool). cond b (Some x) (find test xs)) (ap test same ∙ is) ∙ ap Some same
found_alone test (x ∷ xs) row only apart (suc k, less, same) is =
    let there : Contains xs row = (k, omega (arith, less), same) in
    by_test (test x) refl there (found_alone test xs row only apart.1 there is)
  where
    by_test : (b : Bool) → test x ≡ b → Contains xs row → find test xs ≡ Some row
        → cond b (Some x) (find test xs) ≡ Some row
    by_test true here there later = absurd (true≢false
        (sym (any_there (λ (other : SessionRow). bytes_eq other.cookie x.cookie) xs row there
        (other_way x.cookie row.cookie (only x here))) ∙ apart.0))
    by_test false here there later = later

-- a session that was not ended and has not ended is found by its cookie
pub live_row : (records : List IdpRecord) (row : SessionRow) (now horizon : ℕ) → AreRecords records
    → Contains (session_rows records) row → row.ended ≡ false → now < row.until → horizon < row.until
    → session_found (session_rows records) row.cookie now horizon ≡ Some row
live_row records row now horizon are there unended less also =
    let later = lt-ltb (max now horizon) row.until (omega (arith, less, also)) in
    found_alone (λ (other : SessionRow). bytes_eq other.cookie row.cookie && not other.ended
    && visible other.until now horizon) (session_rows records) row
    (λ other passes. (and_parts (bytes_eq other.cookie row.cookie) (not other.ended)
    (and_parts (bytes_eq other.cookie row.cookie && not other.ended) (visible other.until now horizon) passes).0).0)
    (apart_behind [] records are) there (λ i. text_itself row.cookie i && not (unended i) && later i)
