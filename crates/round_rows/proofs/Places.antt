-- A row is found by the number of its last request, and decides what asks for that request.
use Rattle.std.proofs.Common.{◌≡◌, ℕ, zero, suc, ◌<◌, ◌≤◌, ◌⊎◌, Bool, true, false, cond, not, ◌&&◌, List, [], ◌∷◌, ◌++◌, map, set, length, slice_index, get_or, Option, None, Some, sym, refl, ap, ◌∙◌, inl, inr, arith}
use Rattle.std.specs.List.{list_any, find, slice_get}
use Rattle.std.specs.Str.{bytes_eq}
use Rattle.std.proofs.lemmas.Bool.{cases_lt, and_parts, false_from_ne_true, true≢false}
use Rattle.std.proofs.lemmas.List.{length-set, length_push, get_or_append_left, get_or_push}
use Rattle.std.proofs.lemmas.Option.{slice_get_within, slice_get_read, get_or_from_slice_get}
use Rattle.std.proofs.lemmas.Slice.Eq.{bytes_eq-Decides}
use Rattle.ledger_rules.specs.Numbers.{has_number, IsPlaceOf}
use Rattle.ledger_rules.proofs.Passing.{any_is_at, any_is_nowhere}
use Rattle.round_rows.specs.declared.row.RoundRow.{RoundRow}
use Rattle.round_rows.specs.Rounds.{is_done, waits_for, after_answer, answered_if, answered}
use Rattle.round_rows.specs.Kept.{IsPlaced, ArePlaced, HasRequestAt}

-- ---- lists

pub find_is_nowhere : {X : Type 0} (test : X → Bool) (rows : List X) → ((k : ℕ) (other : X) → slice_get rows k ≡ Some other → test other ≡ true → ⊥)
    → find test rows ≡ None
find_is_nowhere test [] none = refl
find_is_nowhere test (x ∷ xs) none =
    ap (λ b. cond b (Some x) (find test xs)) (false_from_ne_true (test x) (λ passes. none zero x refl passes))
    ∙ find_is_nowhere test xs (λ k other there passes. none (suc k) other there passes)

pub find_is_at : {X : Type 0} (test : X → Bool) (rows : List X) (p : ℕ) (row : X) → slice_get rows p ≡ Some row
    → ((k : ℕ) (other : X) → slice_get rows k ≡ Some other → test other ≡ true → k ≡ p) → find test rows ≡ cond (test row) (Some row) None
find_is_at test [] p row there only = absurd (cc)
find_is_at test (x ∷ xs) zero row there only =
    let is : x ≡ row = cc in
    let later = find_is_nowhere test xs (λ k other at passes. let past = only (suc k) other at passes in omega (arith, past)) in
    ap (λ rest. cond (test x) (Some x) rest) later ∙ ap (λ r. cond (test r) (Some r) None) is
find_is_at test (x ∷ xs) (suc n) row there only =
    let fails = false_from_ne_true (test x) (λ passes. let past = only zero x refl passes in omega (arith, past)) in
    ap (λ b. cond b (Some x) (find test xs)) fails
    ∙ find_is_at test xs n row there (λ k other at passes. let past = only (suc k) other at passes in omega (arith, past))

pub map_same : {X : Type 0} (f : X → X) (rows : List X) → ((k : ℕ) (other : X) → slice_get rows k ≡ Some other → f other ≡ other) → map f rows ≡ rows
map_same f [] stays = refl
map_same f (x ∷ xs) stays = λ i. stays zero x refl i ∷ map_same f xs (λ k other at. stays (suc k) other at) i

-- one row is changed, and the others stay
pub set_is_map : {X : Type 0} (f : X → X) (rows : List X) (p : ℕ) (row new : X) → slice_get rows p ≡ Some row → new ≡ f row
    → ((k : ℕ) (other : X) → slice_get rows k ≡ Some other → (k ≡ p → ⊥) → f other ≡ other) → set rows p new ≡ map f rows
set_is_map f [] p row new there changed stays = refl
set_is_map f (x ∷ xs) zero row new there changed stays =
    let is : row ≡ x = cc in
    let head : new ≡ f x = changed ∙ ap f is in
    let rest = map_same f xs (λ k other at. stays (suc k) other at (λ e. omega (arith, e))) in
    λ i. head i ∷ sym rest i
set_is_map f (x ∷ xs) (suc n) row new there changed stays =
    let head = stays zero x refl (λ e. omega (arith, e)) in
    let rest = set_is_map f xs n row new there changed (λ k other at differs. stays (suc k) other at (λ e. differs (omega (arith, e)))) in
    λ i. sym head i ∷ rest i

-- what stands at a place behind one row more, and where one was changed
get_pushed : {X : Type 0} (rows : List X) (row : X) (k : ℕ) (other : X) → slice_get (rows ++ row ∷ []) k ≡ Some other
    → ((k ≡ length rows) × (other ≡ row)) ⊎ (slice_get rows k ≡ Some other)
get_pushed [] row zero other is = inl (refl, cc)
get_pushed [] row (suc k) other is = absurd (cc)
get_pushed (x ∷ xs) row zero other is = inr is
get_pushed (x ∷ xs) row (suc k) other is = elim (get_pushed xs row k other is) [
  | inl e ↦ inl (omega (arith, e.0), e.1)
  | inr there ↦ inr there
]

get_changed : {X : Type 0} (rows : List X) (p : ℕ) (new : X) (k : ℕ) (other : X) → slice_get (set rows p new) k ≡ Some other
    → ((k ≡ p) × (other ≡ new)) ⊎ (slice_get rows k ≡ Some other)
get_changed [] p new k other is = inr is
get_changed (x ∷ xs) zero new zero other is = inl (refl, cc)
get_changed (x ∷ xs) zero new (suc k) other is = inr is
get_changed (x ∷ xs) (suc p) new zero other is = inr is
get_changed (x ∷ xs) (suc p) new (suc k) other is = elim (get_changed xs p new k other is) [
  | inl e ↦ inl (omega (arith, e.0), e.1)
  | inr there ↦ inr there
]

default_is : {X : Type 0} (xs : List X) (k : ℕ) (a b : X) → k < length xs → get_or xs k a ≡ get_or xs k b
default_is [] k a b less = absurd (omega arith)
default_is (x ∷ xs) zero a b less = refl
default_is (x ∷ xs) (suc k) a b less = default_is xs k a b (omega arith)

-- ---- where a row stands

module _ (rows : List RoundRow) (numbers places : List ℕ) (are : ArePlaced rows numbers places) (id : List ℕ) where
  -- a row whose last request has an ID is beside the only number with which that may begin
  only_number : (at : Option ℕ) → IsPlaceOf numbers id at → (k : ℕ) (row : RoundRow) (there : slice_get rows k ≡ Some row) → row.request ≡ id → at ≡ Some (are.each k row there).at
  only_number at is k row there same =
      let placed = are.each k row there in
      is.only placed.at placed.within (ap (has_number (slice_index numbers placed.at)) (sym same) ∙ placed.has)

  only_place : (at : ℕ) → IsPlaceOf numbers id (Some at) → (k : ℕ) (row : RoundRow) → slice_get rows k ≡ Some row → row.request ≡ id → k ≡ slice_index places at
  only_place at is k row there same =
      let placed = are.each k row there in
      let e : Some at ≡ Some placed.at = only_number (Some at) is k row there same in
      let at_is : at ≡ placed.at = cc in
      sym placed.place ∙ ap (slice_index places) (sym at_is)

  pub within_rows : (at : ℕ) → IsPlaceOf numbers id (Some at) → slice_index places at < length rows
  within_rows at is = let within = is.within in are.within at (omega (arith, within, are.long))

  read_there : (at : ℕ) → IsPlaceOf numbers id (Some at) → (row : RoundRow) → row ≡ get_or rows (slice_index places at) row → slice_get rows (slice_index places at) ≡ Some row
  read_there at is row read = slice_get_read rows (length rows) (slice_index places at) row refl (within_rows at is) read

  pub row_at : (at : ℕ) → IsPlaceOf numbers id (Some at) → (row : RoundRow) → row ≡ get_or rows (slice_index places at) row → row.request ≡ id → HasRequestAt rows id (slice_index places at)
  row_at at is row read same = record { row = row; there = read_there at is row read; is = same; only = only_place at is }

  pub none_at_all : IsPlaceOf numbers id None → list_any (λ (row : RoundRow). bytes_eq row.request id) rows ≡ false
  none_at_all is = any_is_nowhere (λ (row : RoundRow). bytes_eq row.request id) rows (λ k other there passes.
      let at = only_number None is k other there ((bytes_eq-Decides other.request id).0 passes) in
      absurd (cc))

  pub none_but_other : (at : ℕ) → IsPlaceOf numbers id (Some at) → (row : RoundRow) → row ≡ get_or rows (slice_index places at) row → bytes_eq row.request id ≡ false
      → list_any (λ (row : RoundRow). bytes_eq row.request id) rows ≡ false
  none_but_other at is row read fails =
      any_is_at (λ (row : RoundRow). bytes_eq row.request id) rows (slice_index places at) row (read_there at is row read)
      (λ k other there passes. only_place at is k other there ((bytes_eq-Decides other.request id).0 passes))
      ∙ fails

  -- the place that is read beside the number
  pub read_place : (at : ℕ) → IsPlaceOf numbers id (Some at) → (place : ℕ) → place ≡ get_or places at place → place ≡ slice_index places at
  read_place at is place read = let inside = is.within in read ∙ default_is places at place 0 (omega (arith, inside, are.long))

-- ---- rows that come and change

module _ (rows : List RoundRow) (numbers places : List ℕ) (are : ArePlaced rows numbers places) where
  -- a place more beside a number more
  more_long : (number place : ℕ) → length (places ++ place ∷ []) ≡ length (numbers ++ number ∷ [])
  more_long number place = omega (arith, are.long, length_push places place, length_push numbers number)

  more_within : (place bound : ℕ) → length rows ≤ bound → place < bound → (p : ℕ) → p < length (places ++ place ∷ []) → slice_index (places ++ place ∷ []) p < bound
  more_within place bound less below p within = elim (cases_lt p (length places)) [
    | inl lower ↦ omega (arith, get_or_append_left places (place ∷ []) 0 p lower, are.within p lower)
    | inr upper ↦
        let last : length places ≡ p = omega (arith, length_push places place) in
        omega (arith, get_or_push places place 0 p last)
  ]

  -- a row that was placed stays so
  still : (number place k : ℕ) (row : RoundRow) → IsPlaced numbers places k row → IsPlaced (numbers ++ number ∷ []) (places ++ place ∷ []) k row
  still number place k row placed =
      record {
        at = placed.at;
        within = omega (arith, placed.within, length_push numbers number);
        place = get_or_append_left places (place ∷ []) 0 placed.at (omega (arith, placed.within, are.long)) ∙ placed.place;
        has = ap (λ n. has_number n row.request) (get_or_append_left numbers (number ∷ []) 0 placed.at placed.within) ∙ placed.has;
      }

  -- the row at the last place is placed by the last number
  last_placed : (number place k : ℕ) (row : RoundRow) → k ≡ place → has_number number row.request ≡ true → IsPlaced (numbers ++ number ∷ []) (places ++ place ∷ []) k row
  last_placed number place k row same has =
      record {
        at = length numbers;
        within = omega (arith, length_push numbers number);
        place = get_or_push places place 0 (length numbers) are.long ∙ sym same;
        has = ap (λ n. has_number n row.request) (get_or_push numbers number 0 (length numbers) refl) ∙ has;
      }

  pub one_more : (number : ℕ) (row : RoundRow) (place : ℕ) → place ≡ length rows → has_number number row.request ≡ true
      → ArePlaced (rows ++ row ∷ []) (numbers ++ number ∷ []) (places ++ place ∷ [])
  one_more number row place is has =
      let long = length_push rows row in
      record {
        long = more_long number place;
        within = more_within place (length (rows ++ row ∷ [])) (omega (arith, long)) (omega (arith, long));
        each = λ k other there. elim (get_pushed rows row k other there) [
          | inl e ↦ last_placed number place k other (e.0 ∙ sym is) (ap (λ (r : RoundRow). has_number number r.request) e.1 ∙ has)
          | inr before ↦ still number place k other (are.each k other before)
        ];
      }

  pub asked_next : (number p : ℕ) (new : RoundRow) → p < length rows → has_number number new.request ≡ true
      → ArePlaced (set rows p new) (numbers ++ number ∷ []) (places ++ p ∷ [])
  asked_next number p new inside has =
      let long : length (set rows p new) ≡ length rows = length-set rows p new in
      record {
        long = more_long number p;
        within = more_within p (length (set rows p new)) (omega (arith, long)) (omega (arith, long));
        each = λ k other there. elim (get_changed rows p new k other there) [
          | inl e ↦ last_placed number p k other e.0 (ap (λ (r : RoundRow). has_number number r.request) e.1 ∙ has)
          | inr before ↦ still number p k other (are.each k other before)
        ];
      }

  pub asked_no_more : (p : ℕ) (row new : RoundRow) → slice_get rows p ≡ Some row → new.request ≡ row.request → ArePlaced (set rows p new) numbers places
  asked_no_more p row new at same =
      let long : length (set rows p new) ≡ length rows = length-set rows p new in
      record {
        long = are.long;
        within = λ q within. omega (arith, are.within q within, long);
        each = λ k other there. elim (get_changed rows p new k other there) [
          | inl e ↦
              let placed = are.each p row at in
              record {
                at = placed.at;
                within = placed.within;
                place = placed.place ∙ sym e.0;
                has = ap (λ (r : RoundRow). has_number (slice_index numbers placed.at) r.request) e.1
                    ∙ ap (has_number (slice_index numbers placed.at)) same ∙ placed.has;
              }
          | inr before ↦ are.each k other before
        ];
      }

-- ---- what one row decides

module _ (rows : List RoundRow) (request : List ℕ) where
  its_request : (row : RoundRow) → waits_for request row ≡ true → row.request ≡ request
  its_request row waits = (bytes_eq-Decides row.request request).0 (and_parts (bytes_eq row.request request) (not (is_done row)) waits).0

  pub read_row : (p : ℕ) (at : HasRequestAt rows request p) (row : RoundRow) → row ≡ get_or rows p row → at.row ≡ row
  read_row p at row read = sym (get_or_from_slice_get rows p at.row row at.there) ∙ sym read

  pub at_within : (p : ℕ) → HasRequestAt rows request p → p < length rows
  at_within p at = slice_get_within rows p at.row at.there

  pub there_is : (p : ℕ) (at : HasRequestAt rows request p) (row : RoundRow) → row ≡ get_or rows p row → slice_get rows p ≡ Some row
  there_is p at row read = at.there ∙ ap Some (read_row p at row read)

  waits_is : (p : ℕ) (at : HasRequestAt rows request p) (row : RoundRow) → row ≡ get_or rows p row → waits_for request row ≡ not (is_done row)
  waits_is p at row read =
      ap (λ b. b && not (is_done row)) ((bytes_eq-Decides row.request request).1 (ap (λ (r : RoundRow). r.request) (sym (read_row p at row read)) ∙ at.is))

  -- what is found with a test more
  pub found_at : (p : ℕ) (at : HasRequestAt rows request p) (row : RoundRow) → row ≡ get_or rows p row → (done : Bool) → is_done row ≡ done → (test : RoundRow → Bool)
      → find (λ row. waits_for request row && test row) rows ≡ cond (not done && test row) (Some row) None
  found_at p at row read done is test =
      find_is_at (λ row. waits_for request row && test row) rows p row (there_is p at row read)
      (λ k other there passes. at.only k other there (its_request other (and_parts (waits_for request other) (test other) passes).0))
      ∙ ap (λ b. cond (b && test row) (Some row) None) (waits_is p at row read ∙ ap not is)

  pub found_nowhere : list_any (λ (row : RoundRow). bytes_eq row.request request) rows ≡ false → (test : RoundRow → Bool)
      → find (λ row. waits_for request row && test row) rows ≡ None
  found_nowhere none test = find_is_nowhere (λ row. waits_for request row && test row) rows (λ k other there passes.
      no_row none k other there (its_request other (and_parts (waits_for request other) (test other) passes).0))
    where
      no_row : list_any (λ (row : RoundRow). bytes_eq row.request request) rows ≡ false → (k : ℕ) (other : RoundRow) → slice_get rows k ≡ Some other → other.request ≡ request → ⊥
      no_row none k other there same =
          let within = slice_get_within rows k other there in
          let read = get_or_from_slice_get rows k other other there in
          true≢false (sym (Rattle.std.proofs.lemmas.List.Folds.list_any_at (λ (row : RoundRow). bytes_eq row.request request) rows k other within
          (ap (λ (row : RoundRow). bytes_eq row.request request) read ∙ (bytes_eq-Decides other.request request).1 same)) ∙ none)

  -- where a round waits, one has that request
  pub nowhere_waits : list_any (λ (row : RoundRow). bytes_eq row.request request) rows ≡ false → list_any (waits_for request) rows ≡ true → ⊥
  nowhere_waits none waits = true≢false (sym (Rattle.ledger_rules.proofs.Passing.any_more (waits_for request) (λ (row : RoundRow). bytes_eq row.request request) rows
      (λ row passes. (and_parts (bytes_eq row.request request) (not (is_done row)) passes).0) waits) ∙ none)

  -- the row with that request is the one that waits
  it_waits : (p : ℕ) (at : HasRequestAt rows request p) (row : RoundRow) → row ≡ get_or rows p row → list_any (waits_for request) rows ≡ true → waits_for request row ≡ true
  it_waits p at row read waits =
      sym (any_is_at (waits_for request) rows p row (there_is p at row read) (λ k other there passes. at.only k other there (its_request other passes))) ∙ waits

  -- the answer goes to that row alone
  pub answered_at : (p : ℕ) (at : HasRequestAt rows request p) (row new : RoundRow) → row ≡ get_or rows p row → list_any (waits_for request) rows ≡ true
      → (confirmed : Bool) (next : Option (List ℕ)) → new ≡ after_answer confirmed next row → set rows p new ≡ answered request confirmed next rows
  answered_at p at row new read waits confirmed next is =
      set_is_map (λ row. answered_if (waits_for request row) confirmed next row) rows p row new (there_is p at row read)
      (is ∙ ap (λ b. answered_if b confirmed next row) (sym (it_waits p at row read waits)))
      (λ k other there differs. ap (λ b. answered_if b confirmed next other)
      (false_from_ne_true (waits_for request other) (λ passes. differs (at.only k other there (its_request other passes)))))
