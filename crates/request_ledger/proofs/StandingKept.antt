-- What is kept beside the rows, where rows come and change.
use Rattle.std.proofs.Common.{◌≡◌, ℕ, ◌+◌, ◌<◌, ◌≤◌, ◌^◌, Bool, true, List, [], ◌∷◌, ◌++◌, map, length, take, get_or, sym, ap, ◌∙◌, subst, arith}
use Rattle.std.specs.Str.{bytes_eq}
use Rattle.std.proofs.lemmas.List.{map_push, length_push, take_more, take_all}
use Rattle.ledger_rules.specs.Numbers.{has_number}
use Rattle.request_rows.specs.declared.row.AskedRow.{AskedRow}
use Rattle.request_rows.specs.declared.row.OpenedRow.{OpenedRow}
use Rattle.request_rows.specs.declared.row.LeftRow.{LeftRow}
use Rattle.request_rows.specs.Rows.{RowsView, Spare, closed_at, confirmed_at}
use Rattle.request_ledger.specs.RowsOf.{SpRows, is_among, closed_where, confirmed_where}
use Rattle.request_ledger.specs.Standing.{StandingView, rows_in, HaveNumbers, AreCounted, IsWaitingAt}
use Rattle.request_ledger.proofs.StandingPlaces.{HaveNumbers-later, HaveNumbers-push}
use Rattle.request_ledger.proofs.StandingRows.{closed_tokens, length-closed_at, confirmed_requests, length-confirmed_at, confirms_waiting, closes_more}

-- the numbers are those of the rows, and the places of the rows fit
abbrev pub AreKept : ℕ → (asked opened left : List ℕ) → RowsView → Type 0
AreKept next asked opened left rows = HaveNumbers next asked (map (λ row. row.request) rows.asked)
    × HaveNumbers next opened (map (λ row. row.token) rows.opened)
    × HaveNumbers next left (map (λ row. row.request) rows.left)
    × (next ≤ 2 ^ 63) × AreCounted rows

pub kept_later : (next later : ℕ) (asked opened left : List ℕ) (rows : RowsView) → AreKept next asked opened left rows → next ≤ later → later ≤ 2 ^ 63
    → AreKept later asked opened left rows
kept_later next later asked opened left rows kept less end = (
  HaveNumbers-later next later asked (map (λ row. row.request) rows.asked) less kept.0,
  HaveNumbers-later next later opened (map (λ row. row.token) rows.opened) less kept.1,
  HaveNumbers-later next later left (map (λ row. row.request) rows.left) less kept.2,
  end,
  kept.4,
)

pub kept_asked : (next later : ℕ) (asked opened left : List ℕ) (rows : RowsView) → AreKept next asked opened left rows
    → (number : ℕ) (row : AskedRow) → next ≤ number → number < later → later ≤ 2 ^ 63 → has_number number row.request ≡ true → length rows.asked < 4294967295
    → (numbers : List ℕ) → numbers ≡ asked ++ number ∷ [] → (spare : Spare) (new : RowsView) → new ≡ record rows { asked = rows.asked ++ row ∷ []; spare = spare }
    → AreKept later numbers opened left new
kept_asked next later asked opened left rows kept number row least below end has few numbers listed spare new same =
    let others = kept_later next later asked opened left rows kept (omega arith) end in
    let more : HaveNumbers later (asked ++ number ∷ []) (map (λ r. r.request) (rows.asked ++ row ∷ [])) =
    subst (HaveNumbers later (asked ++ number ∷ [])) (sym (map_push (λ (r : AskedRow). r.request) rows.asked row))
    (HaveNumbers-push next later number asked (map (λ r. r.request) rows.asked) row.request least below has kept.0) in
    let counted : AreCounted (record rows { asked = rows.asked ++ row ∷ []; spare = spare }) =
    record { asked = omega (arith, length_push rows.asked row); opened = kept.4.opened; left = kept.4.left } in
    subst (AreKept later numbers opened left) (sym same)
    (subst (λ ns. AreKept later ns opened left (record rows { asked = rows.asked ++ row ∷ []; spare = spare })) (sym listed) (more, others.1, others.2, end, counted))

pub kept_opened : (next later : ℕ) (asked opened left : List ℕ) (rows : RowsView) → AreKept next asked opened left rows
    → (number : ℕ) (row : OpenedRow) → next ≤ number → number < later → later ≤ 2 ^ 63 → has_number number row.token ≡ true → length rows.opened < 4294967295
    → (numbers : List ℕ) → numbers ≡ opened ++ number ∷ [] → (spare : Spare) (new : RowsView) → new ≡ record rows { opened = rows.opened ++ row ∷ []; spare = spare }
    → AreKept later asked numbers left new
kept_opened next later asked opened left rows kept number row least below end has few numbers listed spare new same =
    let others = kept_later next later asked opened left rows kept (omega arith) end in
    let more : HaveNumbers later (opened ++ number ∷ []) (map (λ r. r.token) (rows.opened ++ row ∷ [])) =
    subst (HaveNumbers later (opened ++ number ∷ [])) (sym (map_push (λ (r : OpenedRow). r.token) rows.opened row))
    (HaveNumbers-push next later number opened (map (λ r. r.token) rows.opened) row.token least below has kept.1) in
    let counted : AreCounted (record rows { opened = rows.opened ++ row ∷ []; spare = spare }) =
    record { asked = kept.4.asked; opened = omega (arith, length_push rows.opened row); left = kept.4.left } in
    subst (AreKept later asked numbers left) (sym same)
    (subst (λ ns. AreKept later asked ns left (record rows { opened = rows.opened ++ row ∷ []; spare = spare })) (sym listed) (others.0, more, others.2, end, counted))

pub kept_left : (next later : ℕ) (asked opened left : List ℕ) (rows : RowsView) → AreKept next asked opened left rows
    → (number : ℕ) (row : LeftRow) → next ≤ number → number < later → later ≤ 2 ^ 63 → has_number number row.request ≡ true → length rows.left < 4294967295
    → (numbers : List ℕ) → numbers ≡ left ++ number ∷ [] → (spare : Spare) (new : RowsView) → new ≡ record rows { left = rows.left ++ row ∷ []; spare = spare }
    → AreKept later asked opened numbers new
kept_left next later asked opened left rows kept number row least below end has few numbers listed spare new same =
    let others = kept_later next later asked opened left rows kept (omega arith) end in
    let more : HaveNumbers later (left ++ number ∷ []) (map (λ r. r.request) (rows.left ++ row ∷ [])) =
    subst (HaveNumbers later (left ++ number ∷ [])) (sym (map_push (λ (r : LeftRow). r.request) rows.left row))
    (HaveNumbers-push next later number left (map (λ r. r.request) rows.left) row.request least below has kept.2) in
    let counted : AreCounted (record rows { left = rows.left ++ row ∷ []; spare = spare }) =
    record { asked = kept.4.asked; opened = kept.4.opened; left = omega (arith, length_push rows.left row) } in
    subst (AreKept later asked opened numbers) (sym same)
    (subst (λ ns. AreKept later asked opened ns (record rows { left = rows.left ++ row ∷ []; spare = spare })) (sym listed) (others.0, others.1, more, end, counted))

pub kept_closed : (next : ℕ) (asked opened left : List ℕ) (rows : RowsView) → AreKept next asked opened left rows
    → (place : ℕ) (new : RowsView) → new ≡ record rows { opened = closed_at rows.opened place } → AreKept next asked opened left new
kept_closed next asked opened left rows kept place new same =
    subst (AreKept next asked opened left) (sym same) (
      kept.0,
      subst (HaveNumbers next opened) (sym (closed_tokens rows.opened place)) kept.1,
      kept.2,
      kept.3,
      record { asked = kept.4.asked; opened = omega (arith, length-closed_at rows.opened place, kept.4.opened); left = kept.4.left },
    )

pub kept_confirmed : (next : ℕ) (asked opened left : List ℕ) (rows : RowsView) → AreKept next asked opened left rows
    → (place : ℕ) (new : RowsView) → new ≡ record rows { left = confirmed_at rows.left place } → AreKept next asked opened left new
kept_confirmed next asked opened left rows kept place new same =
    subst (AreKept next asked opened left) (sym same) (
      kept.0,
      kept.1,
      subst (HaveNumbers next left) (sym (confirmed_requests rows.left place)) kept.2,
      kept.3,
      record { asked = kept.4.asked; opened = kept.4.opened; left = omega (arith, length-confirmed_at rows.left place, kept.4.left) },
    )

-- what stands with other sessions
pub with_opened : (view now : StandingView) → view ≡ now → (opened other : List OpenedRow) → opened ≡ other
    → ◌≡◌ {A = StandingView} (record view { rows = record view.rows { opened = opened } }) (record now { rows = record now.rows { opened = other } })
with_opened view now e opened other same = λ i. record (e i) { rows = record ((e i).rows) { opened = same i } }

-- the rows where a logout was confirmed
pub rows_confirmed : (rows new : RowsView) (old : SpRows) → rows_in rows ≡ old → (place : ℕ) → new ≡ record rows { left = confirmed_at rows.left place }
    → (request : List ℕ) → IsWaitingAt old.left request place → rows_in new ≡ record old { left = confirmed_where (λ row. bytes_eq request row.request) old.left }
rows_confirmed rows new old e place same request is =
    let left = ap (λ (r : SpRows). confirmed_at r.left place) e ∙ confirms_waiting old.left request place is in
    let after : record (rows_in rows) { left = confirmed_at rows.left place } ≡ record old { left = confirmed_where (λ row. bytes_eq request row.request) old.left } =
    λ i. record (e i) { left = left i } in
    ap rows_in same ∙ after

-- what stands where sessions were closed
abbrev pub with_closed : (OpenedRow → Bool) → StandingView → StandingView
with_closed test view = record view { rows = record (view.rows) { opened = closed_where test view.rows.opened } }

pub closed_more : (old now new : StandingView) (tokens : List (List ℕ)) (i : ℕ) (token text : List ℕ) → i < length tokens → token ≡ get_or tokens i token → text ≡ token
    → now ≡ with_closed (λ row. is_among row.token (take i tokens)) old → new ≡ with_closed (λ row. bytes_eq text row.token) now
    → new ≡ with_closed (λ row. is_among row.token (take (i + 1) tokens)) old
closed_more old now new tokens i token text within read same before after =
    let more : take (i + 1) tokens ≡ take i tokens ++ token ∷ [] =
    take_more tokens i token within ∙ ap (λ t. take i tokens ++ t ∷ []) (sym read) in
    after ∙ ap (with_closed (λ row. bytes_eq text row.token)) before
    ∙ ap (λ t. with_closed (λ row. bytes_eq t row.token) (with_closed (λ row. is_among row.token (take i tokens)) old)) same
    ∙ ap (λ opened. record old { rows = record (old.rows) { opened = opened } }) (closes_more old.rows.opened (take i tokens) token)
    ∙ ap (λ ts. with_closed (λ row. is_among row.token ts) old) (sym more)

pub closed_all : (old now : StandingView) (tokens : List (List ℕ)) (i : ℕ) → length tokens ≤ i
    → now ≡ with_closed (λ row. is_among row.token (take i tokens)) old → now ≡ with_closed (λ row. is_among row.token tokens) old
closed_all old now tokens i past before = before ∙ ap (λ ts. with_closed (λ row. is_among row.token ts) old) (take_all i tokens past)
