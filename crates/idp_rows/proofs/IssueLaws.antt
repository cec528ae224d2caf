-- The assertions of a session, from the last one back.
use Rattle.std.specs.Prelude.{IfSome}
use Rattle.std.proofs.Common.{◌≡◌, ℕ, zero, suc, ◌+◌, ◌<◌, ◌≤◌, Bool, true, false, cond, not, ◌&&◌, ◌||◌, List, [], ◌∷◌, ◌++◌, reverse, set, length, take, slice_index, get_or, Option, None, Some, sym, refl, ap, ◌∙◌, subst, inl, inr, ◌⊎◌, arith}
use Rattle.std.specs.List.{list_any, find, slice_get}
use Rattle.std.specs.Option.{option_or}
use Rattle.std.specs.Str.{bytes_eq}
use Rattle.std.proofs.lemmas.Bool.{cases_eq, and_parts, or_parts, false_from_ne_true, true≢false}
use Rattle.std.proofs.Math.Seq.{take-append_seam, take-length}
use Rattle.std.proofs.lemmas.List.{length_push, length-map, length-set, take-append-le, get_or_append_left, get_or_push, get_or-set_same, get_or-set_other, get_or_default, reverse-append}
use Rattle.std.proofs.lemmas.Option.{slice_get_within}
use Rattle.std.proofs.lemmas.List.Folds.{find-append, list_any-append}
use Rattle.std.proofs.lemmas.Slice.Eq.{bytes_eq-Decides}
use Rattle.idp_rows.specs.declared.row.IssuedRow.{IssuedRow}
use Rattle.idp_rows.specs.declared.row.SessionRow.{SessionRow}
use Rattle.idp_rows.specs.Finding.{is_that_peer, has_issued, last_issue, last_peer, peer_of}
use Rattle.idp_rows.specs.RowsOf.{ended_if, ended_where}
use Rattle.idp_rows.specs.Kept.{here_or_later, last_place, cookies, ArePrevious, AreLast, IsRowAt}
use Rattle.idp_rows.proofs.RowPlaces.{no_row_has}

-- ---- one issued row more

later_of : (here b : Bool) (n : ℕ) (o : Option ℕ) → here_or_later here (cond b (Some n) o) ≡ cond b (Some (suc n)) (here_or_later here o)
later_of here true n o = refl
later_of here false n o = refl

pub last_place-push : (rows : List IssuedRow) (row : IssuedRow) (cookie : List ℕ)
    → last_place (rows ++ row ∷ []) cookie ≡ cond (bytes_eq row.cookie cookie) (Some (length rows)) (last_place rows cookie)
last_place-push [] row cookie = refl
last_place-push (x ∷ xs) row cookie =
    ap (here_or_later (bytes_eq x.cookie cookie)) (last_place-push xs row cookie)
    ∙ later_of (bytes_eq x.cookie cookie) (bytes_eq row.cookie cookie) (length xs) (last_place xs cookie)

-- ---- the last one

pub record IsLast (rows : List IssuedRow) (cookie : List ℕ) (place : ℕ) : Type 0 where
  pub row : IssuedRow
  pub there : slice_get rows place ≡ Some row
  pub cookie_is : row.cookie ≡ cookie
  pub within : place < length rows

last_of_two : (x : IssuedRow) (xs : List IssuedRow) (cookie : List ℕ) (p : ℕ) (o : Option ℕ) (here : Bool) → bytes_eq x.cookie cookie ≡ here
    → ((k : ℕ) → o ≡ Some k → IsLast xs cookie k) → here_or_later here o ≡ Some p → IsLast (x ∷ xs) cookie p
last_of_two x xs cookie p (Some k) here b later is =
    let at = later k refl in
    let same : suc k ≡ p = cc in
    subst (IsLast (x ∷ xs) cookie) same (record { row = at.row; there = at.there; cookie_is = at.cookie_is; within = omega (arith, at.within) })
last_of_two x xs cookie p None true b later is =
    let same : 0 ≡ p = cc in
    subst (IsLast (x ∷ xs) cookie) same (record { row = x; there = refl; cookie_is = (bytes_eq-Decides x.cookie cookie).0 b; within = omega arith })
last_of_two x xs cookie p None false b later is = absurd (cc)

pub is_last : (rows : List IssuedRow) (cookie : List ℕ) (p : ℕ) → last_place rows cookie ≡ Some p → IsLast rows cookie p
is_last [] cookie p is = absurd (cc)
is_last (x ∷ xs) cookie p is = last_of_two x xs cookie p (last_place xs cookie) (bytes_eq x.cookie cookie) refl (is_last xs cookie) is

-- none
none_of_two : (here : Bool) (o : Option ℕ) → here_or_later here o ≡ None → (here ≡ false) × (o ≡ None)
none_of_two here (Some k) is = absurd (cc)
none_of_two true None is = absurd (cc)
none_of_two false None is = (refl, refl)

or_false_of : (a b : Bool) → a ≡ false → b ≡ false → (a || b) ≡ false
or_false_of true b p q = p
or_false_of false b p q = q

-- where only rows of a cookie pass a test
pub record IsOfCookie (cookie : List ℕ) (test : IssuedRow → Bool) : Type 0 where
  pub of_cookie : (row : IssuedRow) → test row ≡ true → row.cookie ≡ cookie

fails_else : (cookie : List ℕ) (test : IssuedRow → Bool) → IsOfCookie cookie test → (row : IssuedRow) → bytes_eq row.cookie cookie ≡ false → test row ≡ false
fails_else cookie test of row other =
    false_from_ne_true (test row) (λ passes. true≢false (sym ((bytes_eq-Decides row.cookie cookie).1 (of.of_cookie row passes)) ∙ other))

pub none_passes : (rows : List IssuedRow) (cookie : List ℕ) (test : IssuedRow → Bool) → IsOfCookie cookie test → last_place rows cookie ≡ None → list_any test rows ≡ false
none_passes [] cookie test of is = refl
none_passes (x ∷ xs) cookie test of is =
    let parts = none_of_two (bytes_eq x.cookie cookie) (last_place xs cookie) is in
    or_false_of (test x) (list_any test xs) (fails_else cookie test of x parts.0) (none_passes xs cookie test of parts.1)

-- the last one passes, or one before it
or_swap : (a b c : Bool) → (a || (b || c)) ≡ (b || (a || c))
or_swap true true c = refl
or_swap true false c = refl
or_swap false b c = refl

last_or_two : (x : IssuedRow) (xs : List IssuedRow) (cookie : List ℕ) (test : IssuedRow → Bool) → IsOfCookie cookie test → (p : ℕ) (row : IssuedRow) (o : Option ℕ) (here : Bool)
    → last_place xs cookie ≡ o
    → ((k : ℕ) → o ≡ Some k → slice_get xs k ≡ Some row → list_any test xs ≡ (test row || list_any test (take k xs)))
    → here_or_later here o ≡ Some p → slice_get (x ∷ xs) p ≡ Some row → list_any test (x ∷ xs) ≡ (test row || list_any test (take p (x ∷ xs)))
last_or_two x xs cookie test of p row (Some k) here last later is there =
    let same : p ≡ suc k = cc in
    let at : slice_get xs k ≡ Some row = subst (λ n. slice_get (x ∷ xs) n ≡ Some row) same there in
    ap (λ b. test x || b) (later k refl at) ∙ or_swap (test x) (test row) (list_any test (take k xs)) ∙ ap (λ n. test row || list_any test (take n (x ∷ xs))) (sym same)
last_or_two x xs cookie test of p row None true last later is there =
    let same : p ≡ 0 = cc in
    let at : slice_get (x ∷ xs) 0 ≡ Some row = subst (λ n. slice_get (x ∷ xs) n ≡ Some row) same there in
    let is_row : x ≡ row = cc in
    ap (λ b. test x || b) (none_passes xs cookie test of last) ∙ ap (λ r. test r || false) is_row ∙ ap (λ n. test row || list_any test (take n (x ∷ xs))) (sym same)
last_or_two x xs cookie test of p row None false last later is there = absurd (cc)

pub last_or_before : (rows : List IssuedRow) (cookie : List ℕ) (test : IssuedRow → Bool) → IsOfCookie cookie test → (p : ℕ) (row : IssuedRow)
    → last_place rows cookie ≡ Some p → slice_get rows p ≡ Some row → list_any test rows ≡ (test row || list_any test (take p rows))
last_or_before [] cookie test of p row is there = absurd (cc)
last_or_before (x ∷ xs) cookie test of p row is there =
    last_or_two x xs cookie test of p row (last_place xs cookie) (bytes_eq x.cookie cookie) refl (λ k e at. last_or_before xs cookie test of k row e at) is there

-- the last one, found from the end
last_found : (rows : List IssuedRow) (cookie : List ℕ) → last_place rows cookie ≡ None → find (λ r. bytes_eq r.cookie cookie) (reverse rows) ≡ None
last_found [] cookie is = refl
last_found (x ∷ xs) cookie is =
    let test : IssuedRow → Bool = λ r. bytes_eq r.cookie cookie in
    let parts = none_of_two (bytes_eq x.cookie cookie) (last_place xs cookie) is in
    ap (find test) (reverse-append (x ∷ []) xs) ∙ find-append test (reverse xs) (x ∷ [])
    ∙ ap (λ o. option_or o (find test (x ∷ []))) (last_found xs cookie parts.1) ∙ ap (λ b. cond b (Some x) None) parts.0

found_of_two : (x : IssuedRow) (xs : List IssuedRow) (cookie : List ℕ) (p : ℕ) (row : IssuedRow) (o : Option ℕ) (here : Bool) → bytes_eq x.cookie cookie ≡ here → last_place xs cookie ≡ o
    → ((k : ℕ) → o ≡ Some k → slice_get xs k ≡ Some row → find (λ r. bytes_eq r.cookie cookie) (reverse xs) ≡ Some row)
    → here_or_later here o ≡ Some p → slice_get (x ∷ xs) p ≡ Some row
    → option_or (find (λ r. bytes_eq r.cookie cookie) (reverse xs)) (cond (bytes_eq x.cookie cookie) (Some x) None) ≡ Some row
found_of_two x xs cookie p row (Some k) here b last later is there =
    let same : p ≡ suc k = cc in
    let at : slice_get xs k ≡ Some row = subst (λ n. slice_get (x ∷ xs) n ≡ Some row) same there in
    ap (λ o. option_or o (cond (bytes_eq x.cookie cookie) (Some x) None)) (later k refl at)
found_of_two x xs cookie p row None true b last later is there =
    let same : p ≡ 0 = cc in
    let at : slice_get (x ∷ xs) 0 ≡ Some row = subst (λ n. slice_get (x ∷ xs) n ≡ Some row) same there in
    ap (λ o. option_or o (cond (bytes_eq x.cookie cookie) (Some x) None)) (last_found xs cookie last) ∙ ap (λ t. cond t (Some x) None) b ∙ at
found_of_two x xs cookie p row None false b last later is there = absurd (cc)

pub last_issue_at : (rows : List IssuedRow) (cookie : List ℕ) (p : ℕ) (row : IssuedRow) → last_place rows cookie ≡ Some p → slice_get rows p ≡ Some row → last_issue rows cookie ≡ Some row
last_issue_at [] cookie p row is there = absurd (cc)
last_issue_at (x ∷ xs) cookie p row is there =
    let test : IssuedRow → Bool = λ r. bytes_eq r.cookie cookie in
    ap (find test) (reverse-append (x ∷ []) xs) ∙ find-append test (reverse xs) (x ∷ [])
    ∙ found_of_two x xs cookie p row (last_place xs cookie) (bytes_eq x.cookie cookie) refl refl (λ k e at. last_issue_at xs cookie k row e at) is there

pub last_peer_at : (rows : List IssuedRow) (cookie : List ℕ) (p : ℕ) (row : IssuedRow) → last_place rows cookie ≡ Some p → slice_get rows p ≡ Some row → row.peer ≡ last_peer rows cookie
last_peer_at rows cookie p row is there = sym (ap peer_of (last_issue_at rows cookie p row is there))

-- ---- going back

-- how far there is to go
abbrev pub after : Option ℕ → ℕ
after None = 0
after (Some p) = p + 1

pub issued_of : (beside : Bool) (cookie peer : List ℕ) → IsOfCookie cookie (λ row. bytes_eq row.cookie cookie && is_that_peer beside peer row.peer)
issued_of beside cookie peer = record {
  of_cookie = λ row passes. (bytes_eq-Decides row.cookie cookie).0 (and_parts (bytes_eq row.cookie cookie) (is_that_peer beside peer row.peer) passes).0;
}

-- so far back nothing passed
pub record GoesBack (beside : Bool) (rows : List IssuedRow) (cookie peer : List ℕ) (next : Option ℕ) : Type 0 where
  pub until : ℕ
  pub next_is : last_place (take until rows) cookie ≡ next
  pub rest : has_issued beside (take until rows) cookie peer ≡ has_issued beside rows cookie peer

-- ---- rows that come

pub push_cases : {X : Type 0} (xs : List X) (x y : X) (k : ℕ) → slice_get (xs ++ x ∷ []) k ≡ Some y → (slice_get xs k ≡ Some y) ⊎ ((k ≡ length xs) × (y ≡ x))
push_cases [] x y zero there = inr (refl, cc)
push_cases [] x y (suc k) there = absurd (cc)
push_cases (z ∷ zs) x y zero there = inl there
push_cases (z ∷ zs) x y (suc k) there = elim (push_cases zs x y k there) [ inl old ↦ inl old | inr new ↦ inr (ap suc new.0, new.1) ]

pub previous_more : (rows : List IssuedRow) (previous : List (Option ℕ)) → ArePrevious rows previous → (row : IssuedRow) (place : Option ℕ) → place ≡ last_place rows row.cookie
    → ArePrevious (rows ++ row ∷ []) (previous ++ place ∷ [])
previous_more rows previous are row place is = record {
  long = omega (arith, length_push rows row, length_push previous place, are.long);
  each = λ k r there. elim (push_cases rows row r k there) [
    | inl old ↦
        let within = slice_get_within rows k r old in
        get_or_append_left previous (place ∷ []) None k (omega (arith, within, are.long))
        ∙ are.each k r old
        ∙ ap (λ rs. last_place rs r.cookie) (sym (take-append-le k rows (row ∷ []) (omega (arith, within))))
    | inr new ↦
        get_or_push previous place None k (omega (arith, are.long, new.0))
        ∙ is ∙ ap (λ (s : IssuedRow). last_place rows s.cookie) (sym new.1)
        ∙ ap (λ rs. last_place rs r.cookie) (sym (ap (λ n. take n (rows ++ row ∷ [])) new.0 ∙ take-append_seam rows (row ∷ [])))
  ];
}

abbrev cookie_key : SessionRow → List ℕ
cookie_key row = row.cookie

eq_false : (a b : List ℕ) → (a ≡ b → ⊥) → bytes_eq a b ≡ false
eq_false a b differs = false_from_ne_true (bytes_eq a b) (λ is. differs ((bytes_eq-Decides a b).0 is))

not_here : (issues : List IssuedRow) (issue : IssuedRow) (cookie : List ℕ) → (issue.cookie ≡ cookie → ⊥) → last_place (issues ++ issue ∷ []) cookie ≡ last_place issues cookie
not_here issues issue cookie differs =
    last_place-push issues issue cookie ∙ ap (λ b. cond b (Some (length issues)) (last_place issues cookie)) (eq_false issue.cookie cookie differs)

is_here : (issues : List IssuedRow) (issue : IssuedRow) (cookie : List ℕ) → issue.cookie ≡ cookie → last_place (issues ++ issue ∷ []) cookie ≡ Some (length issues)
is_here issues issue cookie same =
    last_place-push issues issue cookie ∙ ap (λ b. cond b (Some (length issues)) (last_place issues cookie)) ((bytes_eq-Decides issue.cookie cookie).1 same)

-- a session that is begun
pub last_begun : (sessions : List SessionRow) (last : List ℕ) (issues : List IssuedRow) → AreLast sessions last issues → (row : SessionRow) (issue : IssuedRow) → issue.cookie ≡ row.cookie
    → list_any (λ (r : SessionRow). bytes_eq (cookie_key r) row.cookie) sessions ≡ false → AreLast (sessions ++ row ∷ []) (last ++ length issues ∷ []) (issues ++ issue ∷ [])
last_begun sessions last issues are row issue same fresh = record {
  long = omega (arith, length_push sessions row, length_push last (length issues), are.long);
  each = λ k r there. elim (push_cases sessions row r k there) [
    | inl old ↦
        let within = slice_get_within sessions k r old in
        not_here issues issue r.cookie (λ e. no_row_has cookie_key sessions row.cookie fresh k r old (sym e ∙ same))
        ∙ are.each k r old ∙ ap Some (sym (get_or_append_left last (length issues ∷ []) 0 k (omega (arith, within, are.long))))
    | inr new ↦
        is_here issues issue r.cookie (same ∙ sym (ap cookie_key new.1))
        ∙ ap Some (sym (get_or_push last (length issues) 0 k (omega (arith, are.long, new.0))))
  ];
  none = λ cookie no.
      let parts = or_parts (list_any (λ (r : SessionRow). bytes_eq r.cookie cookie) sessions) (bytes_eq row.cookie cookie || false) (sym (list_any-append (λ (r : SessionRow). bytes_eq r.cookie cookie) sessions (row ∷ [])) ∙ no) in
      let other = (or_parts (bytes_eq row.cookie cookie) false parts.1).0 in
      not_here issues issue cookie (λ e. true≢false (sym ((bytes_eq-Decides row.cookie cookie).1 (sym same ∙ e)) ∙ other)) ∙ are.none cookie parts.0;
}

-- an assertion that is issued in a session
pub last_issued : (sessions : List SessionRow) (last : List ℕ) (issues : List IssuedRow) → AreLast sessions last issues → (cookie : List ℕ) (p : ℕ) → IsRowAt cookie_key sessions cookie p
    → (issue : IssuedRow) → issue.cookie ≡ cookie → AreLast sessions (set last p (length issues)) (issues ++ issue ∷ [])
last_issued sessions last issues are cookie p at issue same =
    let within = slice_get_within sessions p at.row at.there in
    record {
      long = length-set last p (length issues) ∙ are.long;
      each = λ k r there. elim (cases_eq k p) [
        | inl here ↦
            let at_p : slice_get sessions p ≡ Some r = subst (λ n. slice_get sessions n ≡ Some r) here there in
            let is : ◌≡◌ {A = Option SessionRow} (Some at.row) (Some r) = sym at.there ∙ at_p in
            let row_is : at.row ≡ r = cc in
            is_here issues issue r.cookie (same ∙ sym at.id_is ∙ ap cookie_key row_is)
            ∙ ap Some (sym (ap (λ n. slice_index (set last p (length issues)) n) here ∙ get_or-set_same last p (length issues) 0 (omega (arith, within, are.long))))
        | inr other ↦
            not_here issues issue r.cookie (λ e. other (at.only k r there (sym e ∙ same)))
            ∙ are.each k r there ∙ ap Some (sym (get_or-set_other last p k (length issues) 0 other))
      ];
      none = λ c no. not_here issues issue c (λ e. no_row_has cookie_key sessions c no p at.row at.there (at.id_is ∙ sym same ∙ e)) ∙ are.none c no;
    }

-- sessions that are ended keep their cookies
pub ended_cookies : (test : SessionRow → Bool) (sessions : List SessionRow) → cookies (ended_where test sessions) ≡ cookies sessions
ended_cookies test [] = refl
ended_cookies test (x ∷ xs) = ap (λ rest. x.cookie ∷ rest) (ended_cookies test xs)

ended_get : (test : SessionRow → Bool) (sessions : List SessionRow) (k : ℕ) (row : SessionRow) → slice_get (ended_where test sessions) k ≡ Some row
    → (old : SessionRow) × (slice_get sessions k ≡ Some old) × (old.cookie ≡ row.cookie)
ended_get test [] k row there = absurd (cc)
ended_get test (x ∷ xs) zero row there =
    let is : ended_if (test x) x ≡ row = cc in
    (x, refl, ap cookie_key is)
ended_get test (x ∷ xs) (suc k) row there = ended_get test xs k row there

ended_any : (test : SessionRow → Bool) (sessions : List SessionRow) (cookie : List ℕ)
    → list_any (λ (r : SessionRow). bytes_eq r.cookie cookie) (ended_where test sessions) ≡ list_any (λ (r : SessionRow). bytes_eq r.cookie cookie) sessions
ended_any test [] cookie = refl
ended_any test (x ∷ xs) cookie = ap (λ b. bytes_eq x.cookie cookie || b) (ended_any test xs cookie)

pub last_ended : (test : SessionRow → Bool) (sessions : List SessionRow) (last : List ℕ) (issues : List IssuedRow) → AreLast sessions last issues → AreLast (ended_where test sessions) last issues
last_ended test sessions last issues are = record {
  long = are.long ∙ sym (length-map sessions (λ row. ended_if (test row) row));
  each = λ k row there.
      let old = ended_get test sessions k row there in
      ap (last_place issues) (sym old.2) ∙ are.each k old.0 old.1;
  none = λ cookie no. are.none cookie (sym (ended_any test sessions cookie) ∙ no);
}

-- what is read of the last assertion of a session
pub last_read : (sessions : List SessionRow) (last : List ℕ) (issues : List IssuedRow) → AreLast sessions last issues → (cookie : List ℕ) (p : ℕ) → IsRowAt cookie_key sessions cookie p
    → (n : ℕ) → n ≡ get_or last p n → last_place issues cookie ≡ Some n
last_read sessions last issues are cookie p at n read =
    let within = slice_get_within sessions p at.row at.there in
    ap (last_place issues) (sym at.id_is) ∙ are.each p at.row at.there
    ∙ ap Some (get_or_default last p 0 n (omega (arith, within, are.long)) ∙ sym read)

pub last_of_row : (sessions : List SessionRow) (last : List ℕ) (issues : List IssuedRow) → AreLast sessions last issues → (p : ℕ) (row : SessionRow) → slice_get sessions p ≡ Some row
    → (n : ℕ) → n ≡ get_or last p n → last_place issues row.cookie ≡ Some n
last_of_row sessions last issues are p row there n read =
    let within = slice_get_within sessions p row there in
    are.each p row there ∙ ap Some (get_or_default last p 0 n (omega (arith, within, are.long)) ∙ sym read)

take_get : {X : Type 0} (n : ℕ) (xs : List X) (k : ℕ) (x : X) → slice_get (take n xs) k ≡ Some x → (slice_get xs k ≡ Some x) × (k < n)
take_get zero xs k x there = absurd (cc)
take_get (suc n) [] k x there = absurd (cc)
take_get (suc n) (y ∷ ys) zero x there = (there, omega arith)
take_get (suc n) (y ∷ ys) (suc k) x there = let later = take_get n ys k x there in (later.0, omega (arith, later.1))

take_less : {X : Type 0} (k n : ℕ) (xs : List X) → k ≤ n → take k (take n xs) ≡ take k xs
take_less zero n xs le = refl
take_less (suc k) zero xs le = absurd (omega (arith, le))
take_less (suc k) (suc n) [] le = refl
take_less (suc k) (suc n) (x ∷ xs) le = ap (λ rest. x ∷ rest) (take_less k n xs (omega (arith, le)))

-- whether an answer about a peer is the one that is asked for
pub that_peer : (beside : Bool) (peer issued : List ℕ) (is answer : Bool) → is ≡ bytes_eq issued peer → not (mathlib.Core.Bool.beq is beside) ≡ answer
    → is_that_peer beside peer issued ≡ answer
that_peer true peer issued true answer same test = ap not (sym same) ∙ test
that_peer true peer issued false answer same test = ap not (sym same) ∙ test
that_peer false peer issued true answer same test = sym same ∙ test
that_peer false peer issued false answer same test = sym same ∙ test

pub goes_start : (beside : Bool) (rows : List IssuedRow) (cookie peer : List ℕ) (last : ℕ) → last_place rows cookie ≡ Some last → GoesBack beside rows cookie peer (Some last)
goes_start beside rows cookie peer last is = record {
  until = length rows;
  next_is = ap (λ rs. last_place rs cookie) (take-length rows) ∙ is;
  rest = ap (λ rs. has_issued beside rs cookie peer) (take-length rows);
}

pub goes_end : (beside : Bool) (rows : List IssuedRow) (cookie peer : List ℕ) → GoesBack beside rows cookie peer None → has_issued beside rows cookie peer ≡ false
goes_end beside rows cookie peer back =
    sym back.rest ∙ none_passes (take back.until rows) cookie (λ row. bytes_eq row.cookie cookie && is_that_peer beside peer row.peer) (issued_of beside cookie peer) back.next_is

module _ (beside : Bool) (rows : List IssuedRow) (cookie peer : List ℕ) (p : ℕ) (back : GoesBack beside rows cookie peer (Some p)) (row : IssuedRow) (there : slice_get rows p ≡ Some row) where
  abbrev front : List IssuedRow
  front = take back.until rows

  abbrev test : IssuedRow → Bool
  test r = bytes_eq r.cookie cookie && is_that_peer beside peer r.peer

  in_front : (slice_get front p ≡ Some row) × (row.cookie ≡ cookie) × (p < back.until)
  in_front =
      let at = is_last front cookie p back.next_is in
      let both = take_get back.until rows p at.row at.there in
      let same : ◌≡◌ {A = Option IssuedRow} (Some at.row) (Some row) = sym both.0 ∙ there in
      let is : at.row ≡ row = cc in
      (at.there ∙ ap Some is, sym (ap (λ (r : IssuedRow). r.cookie) is) ∙ at.cookie_is, both.1)

  test_is : test row ≡ is_that_peer beside peer row.peer
  test_is = ap (λ b. b && is_that_peer beside peer row.peer) ((bytes_eq-Decides row.cookie cookie).1 in_front.1)

  step : has_issued beside rows cookie peer ≡ (is_that_peer beside peer row.peer || list_any test (take p rows))
  step =
      sym back.rest ∙ last_or_before front cookie test (issued_of beside cookie peer) p row back.next_is in_front.0
      ∙ ap (λ rs. test row || list_any test rs) (take_less p back.until rows (omega (arith, in_front.2)))
      ∙ ap (λ b. b || list_any test (take p rows)) test_is

  pub goes_found : is_that_peer beside peer row.peer ≡ true → has_issued beside rows cookie peer ≡ true
  goes_found is = step ∙ ap (λ b. b || list_any test (take p rows)) is

  pub goes_on : (previous : List (Option ℕ)) → ArePrevious rows previous → (next : Option ℕ) → next ≡ get_or previous p next → is_that_peer beside peer row.peer ≡ false
      → GoesBack beside rows cookie peer next
  goes_on previous are next read is =
      let within = slice_get_within rows p row there in
      let read_is : next ≡ last_place (take p rows) row.cookie = read ∙ get_or_default previous p next None (omega (arith, within, are.long)) ∙ are.each p row there in
      record {
        until = p;
        next_is = sym (read_is ∙ ap (last_place (take p rows)) in_front.1);
        rest = sym (step ∙ ap (λ b. b || list_any test (take p rows)) is);
      }

-- the one before stands before
pub previous_less : (rows : List IssuedRow) (previous : List (Option ℕ)) → ArePrevious rows previous → (p : ℕ) (row : IssuedRow) → slice_get rows p ≡ Some row
    → (next : Option ℕ) → next ≡ get_or previous p next → (after next < p + 1) × IfSome next (λ q. q < length rows)
previous_less rows previous are p row there next read =
    let within = slice_get_within rows p row there in
    let is : next ≡ last_place (take p rows) row.cookie = read ∙ get_or_default previous p next None (omega (arith, within, are.long)) ∙ are.each p row there in
    by_next next is
  where
    by_next : (n : Option ℕ) → n ≡ last_place (take p rows) row.cookie → (after n < p + 1) × IfSome n (λ q. q < length rows)
    by_next None is = (omega arith, tt)
    by_next (Some q) is =
        let at = is_last (take p rows) row.cookie q (sym is) in
        let less = take_get p rows q at.row at.there in
        let within = slice_get_within rows q at.row less.0 in
        (omega (arith, less.1), within)

pub row_with : {X : Type 0} (xs : List X) (k : ℕ) → k < length xs → (x : X) × (slice_get xs k ≡ Some x)
row_with [] k within = absurd (omega (arith, within))
row_with (x ∷ xs) zero within = (x, refl)
row_with (x ∷ xs) (suc k) within = row_with xs k (omega (arith, within))
