-- What is kept beside the rows, where rows come, and what is looked up.
use Rattle.std.proofs.Common.{◌≡◌, ℕ, zero, suc, ◌+◌, ◌<◌, ◌≤◌, ◌^◌, Bool, true, false, ◌&&◌, cond, List, [], ◌∷◌, ◌++◌, map, length, set, find, slice_index_or, get_or, Option, None, Some, bytes_eq, refl, sym, ap, ◌∙◌, subst, arith}
use Rattle.std.specs.List.{list_any, slice_get}
use Rattle.std.proofs.lemmas.Bool.{and_parts, or_parts, false_from_ne_true}
use Rattle.std.proofs.lemmas.List.{length-map, length_push, map_push}
use Rattle.std.proofs.lemmas.Option.{same_Some, get_or_from_slice_get, slice_get_within, slice_get_read}
use Rattle.std.proofs.lemmas.Slice.Eq.{bytes_eq-Decides}
use Rattle.ledger_records.specs.declared.hub_record.Routed.{Routed}
use Rattle.ledger_records.specs.declared.hub_record.Backed.{Backed}
use Rattle.ledger_records.specs.declared.hub_record.HubRecord.TheVariants as kinds
use Rattle.ledger_rules.specs.Texts.{id_at}
use Rattle.ledger_rules.proofs.Passing.{any_is_at}
use Rattle.record_ledger.proofs.Numbers.{all_fresh}
use Rattle.request_rows.specs.declared.row.AskedRow.{AskedRow}
use Rattle.request_rows.specs.declared.row.OpenedRow.{OpenedRow}
use Rattle.request_rows.specs.Rows.{is_spent, visible}
use Rattle.request_ledger.proofs.SpentMarks.{fresh_not_among, marks_asked, marks_opened, marked}
use Rattle.request_ledger.proofs.StandingPlaces.{HaveNumbers-later, HaveNumbers-push}
use Rattle.hub_ledger.specs.declared.row.BelowRow.{BelowRow}
use Rattle.hub_ledger.specs.RowsOf.{HubRows, Route, asked_row, below_row, opened_row, routes}
use Rattle.hub_ledger.specs.Record.{drawn, goes_to, is_next, is_routed}
use Rattle.hub_ledger.specs.Standing.{AreCounted, AreMarks, AreSpent, HaveNumbers, IsAskedAt}
use Rattle.hub_ledger.proofs.Words.{next_parts}

-- the numbers are those of the requests, the marks say which are spent, and the places of the rows fit
abbrev pub AreKept : ℕ → List ℕ → List Bool → HubRows → Type 0
AreKept next numbers spent rows = HaveNumbers next numbers (map (λ (row : AskedRow). row.request) rows.asked) × AreSpent spent rows
    × (next ≤ 2 ^ 63) × AreCounted rows

abbrev pub no_route : Option Route
no_route = None

-- where there are no rows
pub none_kept : AreKept 0 [] [] (record { asked = []; below = []; opened = [] })
none_kept = (
  record { long = refl; each = λ k within. absurd (omega (arith, within)); below = λ k within. absurd (omega (arith, within)) },
  record { long = refl; each = λ k within. absurd (omega (arith, within)); named = λ id is. is },
  omega arith,
  record { asked = omega arith; opened = omega arith; below = refl },
)

-- one request more that was passed upwards
pub routed_kept : (next : ℕ) (numbers : List ℕ) (spent : List Bool) (rows : HubRows) → AreKept next numbers spent rows
    → (r : Routed) → is_next rows next (kinds.Routed r) ≡ true → length rows.asked < 4294967295
    → AreKept (r.first + 2) (numbers ++ r.first ∷ []) (spent ++ false ∷ [])
    (record rows { asked = rows.asked ++ asked_row r ∷ []; below = rows.below ++ below_row r ∷ [] })
routed_kept next numbers spent rows kept r is few =
    let fresh = all_fresh next (drawn (kinds.Routed r)) (next_parts rows next (kinds.Routed r) is).fresh in
    let own = fresh.0 in
    let other = fresh.1.0 in
    let ids = map (λ (row : AskedRow). row.request) rows.asked in
    let opened = map (λ (row : OpenedRow). row.request) rows.opened in
    let more = map_push (λ (row : AskedRow). row.request) rows.asked (asked_row r) in (
      subst (HaveNumbers (r.first + 2) (numbers ++ r.first ∷ [])) (sym more)
          (HaveNumbers-push next (r.first + 2) r.first numbers ids r.request own.greater (omega arith) own.begins kept.0),
      subst (λ asked. AreMarks (spent ++ false ∷ []) asked opened) (sym more)
          (marks_asked spent ids opened r.request kept.1 (fresh_not_among next r.first numbers ids r.request kept.0 own.greater own.small own.begins)),
      omega (arith, other.small),
      record {
        asked = omega (arith, few, length_push rows.asked (asked_row r));
        opened = kept.3.opened;
        below = length_push rows.below (below_row r) ∙ ap (λ n. n + 1) kept.3.below ∙ sym (length_push rows.asked (asked_row r));
      },
    )

-- one login more that was passed on
pub backed_kept : (next : ℕ) (numbers : List ℕ) (spent : List Bool) (rows : HubRows) → AreKept next numbers spent rows
    → (r : Backed) → is_next rows next (kinds.Backed r) ≡ true → length rows.opened < 4294967295
    → (place : ℕ) → IsAskedAt rows.asked r.request place
    → AreKept (r.first + 3) numbers (set spent place true) (record rows { opened = rows.opened ++ opened_row r ∷ [] })
backed_kept next numbers spent rows kept r is few place at =
    let fresh = all_fresh next (drawn (kinds.Backed r)) (next_parts rows next (kinds.Backed r) is).fresh in
    let ids = map (λ (row : AskedRow). row.request) rows.asked in
    let opened = map (λ (row : OpenedRow). row.request) rows.opened in
    let size = length-map rows.asked (λ (row : AskedRow). row.request) in (
      HaveNumbers-later next (r.first + 3) numbers ids (omega (arith, fresh.0.greater)) kept.0,
      subst (AreMarks (set spent place true) ids) (sym (map_push (λ (row : OpenedRow). row.request) rows.opened (opened_row r)))
          (marks_opened spent ids opened r.request place kept.1 (omega (arith, size, at.within)) at.request_is (λ k within. at.only k (omega (arith, size, within)))),
      omega (arith, fresh.1.1.0.small),
      record { asked = kept.3.asked; opened = omega (arith, few, length_push rows.opened (opened_row r)); below = kept.3.below },
    )

-- what the mark of a request says
pub spent_at : (next : ℕ) (numbers : List ℕ) (spent : List Bool) (rows : HubRows) → AreKept next numbers spent rows → (request : List ℕ) (place : ℕ)
    → IsAskedAt rows.asked request place → (place < length spent) × (slice_index_or spent place false ≡ is_spent rows.opened request)
spent_at next numbers spent rows kept request place at =
    marked spent (record { asked = rows.asked; opened = rows.opened; left = [] }) request place at kept.1

-- ---- routes at places

-- a request that was not asked has no route
pub none_routed : (asked : List AskedRow) (below : List BelowRow) (request : List ℕ) (now horizon : ℕ)
    → list_any (λ (row : AskedRow). bytes_eq row.request request) asked ≡ false
    → find (λ (route : Route). bytes_eq route.asked.request request && visible route.asked.until now horizon) (routes asked below) ≡ None
none_routed [] below request now horizon none = refl
none_routed (a ∷ asked) [] request now horizon none = refl
none_routed (a ∷ asked) (b ∷ below) request now horizon none =
    let both = or_parts (bytes_eq a.request request) (list_any (λ (row : AskedRow). bytes_eq row.request request) asked) none in
    rw both.0 (none_routed asked below request now horizon both.1)

pub either_none : (b : Bool) → cond b no_route no_route ≡ no_route
either_none true = refl
either_none false = refl

pub route_at : (asked : List AskedRow) (below : List BelowRow) (k : ℕ) (row : AskedRow) (to : BelowRow) → slice_get asked k ≡ Some row → slice_get below k ≡ Some to
    → slice_get (routes asked below) k ≡ Some (record { asked = row; below = to })
route_at [] below k row to there other = absurd (cc)
route_at (a ∷ asked) [] k row to there other = absurd (cc)
route_at (a ∷ asked) (b ∷ below) zero row to there other =
    let one : a ≡ row = cc in
    let two : b ≡ to = cc in
    λ i. Some (record { asked = one i; below = two i })
route_at (a ∷ asked) (b ∷ below) (suc k) row to there other = route_at asked below k row to there other

pub route_from : (asked : List AskedRow) (below : List BelowRow) (k : ℕ) (route : Route) → slice_get (routes asked below) k ≡ Some route
    → slice_get asked k ≡ Some route.asked
route_from [] below k route there = absurd (cc)
route_from (a ∷ asked) [] k route there = absurd (cc)
route_from (a ∷ asked) (b ∷ below) zero route there =
    let same : record { asked = a; below = b } ≡ route = cc in ap (λ (r : Route). Some r.asked) same
route_from (a ∷ asked) (b ∷ below) (suc k) route there = route_from asked below k route there

-- what is read at a place where there is something
pub is_there : {X : Type 0} (xs : List X) (k : ℕ) → k < length xs → (x : X) × (slice_get xs k ≡ Some x)
is_there [] k within = absurd (omega (arith, within))
is_there (x ∷ xs) zero within = (x, refl)
is_there (x ∷ xs) (suc k) within = is_there xs k (omega (arith, within))

-- what is found where only the row at a place may pass
find_none : {X : Type 0} (test : X → Bool) (xs : List X) → ((k : ℕ) (other : X) → slice_get xs k ≡ Some other → test other ≡ true → ⊥) → find test xs ≡ None
find_none test [] none = refl
find_none test (x ∷ xs) none =
    ap (λ b. cond b (Some x) (find test xs)) (false_from_ne_true (test x) (none zero x refl)) ∙ find_none test xs (λ k other is. none (suc k) other is)

pub find_there : {X : Type 0} (test : X → Bool) (xs : List X) (p : ℕ) (row : X) → slice_get xs p ≡ Some row
    → ((k : ℕ) (other : X) → slice_get xs k ≡ Some other → test other ≡ true → k ≡ p) → find test xs ≡ cond (test row) (Some row) None
find_there test [] p row there only = absurd (cc)
find_there test (x ∷ xs) zero row there only =
    let same : x ≡ row = cc in
    ap (λ rest. cond (test x) (Some x) rest) (find_none test xs (λ k other is passes. absurd (omega (arith, only (suc k) other is passes))))
    ∙ ap (λ r. cond (test r) (Some r) None) same
find_there test (x ∷ xs) (suc p) row there only =
    ap (λ b. cond b (Some x) (find test xs)) (false_from_ne_true (test x) (λ passes. absurd (omega (arith, only zero x refl passes))))
    ∙ find_there test xs p row there (λ k other is passes. omega (arith, only (suc k) other is passes))

-- the only route of a request
module _ (asked : List AskedRow) (below : List BelowRow) (long : length below ≡ length asked) (request : List ℕ) (place : ℕ)
    (at : IsAskedAt asked request place) (to : BelowRow) (reads : to ≡ get_or below place to) where
  row : (row : AskedRow) × (slice_get asked place ≡ Some row)
  row = is_there asked place at.within

  id_there : (k : ℕ) (other : AskedRow) → slice_get asked k ≡ Some other → id_at (map (λ (r : AskedRow). r.request) asked) k ≡ other.request
  id_there k other there = go asked k other there
    where
      go : (asked : List AskedRow) (k : ℕ) (other : AskedRow) → slice_get asked k ≡ Some other → id_at (map (λ (r : AskedRow). r.request) asked) k ≡ other.request
      go [] k other there = absurd (cc)
      go (a ∷ asked) zero other there = let same : a ≡ other = cc in ap (λ (r : AskedRow). r.request) same
      go (a ∷ asked) (suc k) other there = go asked k other there

  row_request : row.0.request ≡ request
  row_request = sym (id_there place row.0 row.1) ∙ at.request_is

  there : slice_get (routes asked below) place ≡ Some (record { asked = row.0; below = to })
  there = route_at asked below place row.0 to row.1 (slice_get_read below (length below) place to refl (omega (arith, long, at.within)) reads)

  only : (k : ℕ) (other : Route) → slice_get (routes asked below) k ≡ Some other → other.asked.request ≡ request → k ≡ place
  only k other is same =
      let from = route_from asked below k other is in
      at.only k (slice_get_within asked k other.asked from) (id_there k other.asked from ∙ same)

  pub routed_there : (b : Backed) → b.request ≡ request → is_routed asked below b ≡ goes_to b to
  routed_there b same =
      any_is_at (λ (route : Route). bytes_eq route.asked.request b.request && goes_to b route.below) (routes asked below) place
      (record { asked = row.0; below = to }) there
      (λ k other is passes. only k other is
      ((bytes_eq-Decides other.asked.request b.request).0 (and_parts (bytes_eq other.asked.request b.request) (goes_to b other.below) passes).0 ∙ same))
      ∙ ap (λ b'. b' && goes_to b to) ((bytes_eq-Decides row.0.request b.request).1 (row_request ∙ sym same))

  pub route_found : (r : AskedRow) → slice_get asked place ≡ Some r → (now horizon : ℕ)
      → find (λ (route : Route). bytes_eq route.asked.request request && visible route.asked.until now horizon) (routes asked below)
      ≡ cond (visible r.until now horizon) (Some (record { asked = r; below = to })) None
  route_found r is now horizon =
      find_there (λ (route : Route). bytes_eq route.asked.request request && visible route.asked.until now horizon) (routes asked below) place
      (record { asked = row.0; below = to }) there
      (λ k other is passes. only k other is
      ((bytes_eq-Decides other.asked.request request).0 (and_parts (bytes_eq other.asked.request request) (visible other.asked.until now horizon) passes).0))
      ∙ ap (λ b. cond (b && visible row.0.until now horizon) (Some (record { asked = row.0; below = to })) None) ((bytes_eq-Decides row.0.request request).1 row_request)
      ∙ ap (λ (one : AskedRow). cond (visible one.until now horizon) (Some (record { asked = one; below = to })) None) (same_Some row.0 r (sym row.1 ∙ is))

-- a request that is not visible has none
pub unseen_route : (asked : List AskedRow) (below : List BelowRow) → length below ≡ length asked → (request : List ℕ) (place : ℕ) → IsAskedAt asked request place
    → (r : AskedRow) → slice_get asked place ≡ Some r → (now horizon : ℕ) → visible r.until now horizon ≡ false
    → find (λ (route : Route). bytes_eq route.asked.request request && visible route.asked.until now horizon) (routes asked below) ≡ None
unseen_route asked below long request place at r is now horizon unseen =
    let to = is_there below place (omega (arith, long, at.within)) in
    let reads = sym (get_or_from_slice_get below place to.0 to.0 to.1) in
    route_found asked below long request place at to.0 reads r is now horizon
    ∙ ap (λ b. cond b (Some (record { asked = r; below = to.0 })) None) unseen
