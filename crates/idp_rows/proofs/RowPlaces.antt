-- The row of an ID is found by its number, and decides each test that asks for that ID.
use Rattle.std.proofs.Common.{◌≡◌, ℕ, zero, suc, ◌<◌, ◌≤◌, ◌^◌, Bool, true, false, cond, not, ◌&&◌, ◌||◌, List, [], ◌∷◌, ◌++◌, map, set, length, slice_index, get_or, Option, None, Some, sym, refl, ap, ◌∙◌, subst, inl, inr, arith}
use Rattle.std.specs.Int.{w64, to_be_bytes, from_be_bytes}
use Rattle.std.specs.List.{list_any, find, slice_get, slice_range}
use Rattle.std.specs.Str.{bytes_eq}
use Rattle.std.proofs.lemmas.Bool.{cases_lt, and_parts, false_from_ne_true, true≢false}
use Rattle.std.proofs.lemmas.List.{get_or-map, length-map, length_push, map_push, get_or_append_left, get_or_push}
use Rattle.std.proofs.lemmas.List.Folds.{list_any_at}
use Rattle.std.proofs.lemmas.Nat.{from_be_bytes-to_be_bytes_8}
use Rattle.std.proofs.lemmas.Option.{slice_get_within, slice_get_read, get_or_from_slice_get}
use Rattle.std.proofs.lemmas.Slice.Eq.{bytes_eq-Decides}
use Rattle.ledger_rules.specs.Numbers.{has_number, IsPlaceOf}
use Rattle.ledger_rules.proofs.Fronts.{number_read}
use Rattle.ledger_rules.proofs.Passing.{any_is_at, any_is_nowhere}
use Rattle.idp_rows.specs.Kept.{HaveNumbers, IsRowAt, id_at}

-- ---- where a row stands

module _ {X : Type 0} (key : X → List ℕ) (rows : List X) (numbers : List ℕ) (have : HaveNumbers numbers (map key rows)) (id : List ℕ) where
  -- a row whose key is an ID stands at the only place that its number leaves
  pub only_row : (place : Option ℕ) → IsPlaceOf numbers id place → (k : ℕ) (row : X) → slice_get rows k ≡ Some row → key row ≡ id → place ≡ Some k
  only_row place is k row there same =
      let within = slice_get_within rows k row there in
      let size = length-map rows key in
      let read : id_at (map key rows) k ≡ id =
      get_or-map key rows k row [] within ∙ ap key (get_or_from_slice_get rows k row row there) ∙ same in
      is.only k (omega (arith, have.long, size))
      (ap (has_number (slice_index numbers k)) (sym read) ∙ have.each k (omega (arith, size)))

  pub only_place : (p : ℕ) → IsPlaceOf numbers id (Some p) → (k : ℕ) (row : X) → slice_get rows k ≡ Some row → key row ≡ id → k ≡ p
  only_place p is k row there same =
      let at : Some p ≡ Some k = only_row (Some p) is k row there same in
      cc

  pub row_within : (p : ℕ) → IsPlaceOf numbers id (Some p) → p < length rows
  row_within p is = let within = is.within in omega (arith, within, have.long, length-map rows key)

  -- what is read at that place
  pub read_there : (p : ℕ) → IsPlaceOf numbers id (Some p) → (row : X) → row ≡ get_or rows p row → slice_get rows p ≡ Some row
  read_there p is row read = slice_get_read rows (length rows) p row refl (row_within p is) read

  pub row_at : (p : ℕ) → IsPlaceOf numbers id (Some p) → (row : X) → row ≡ get_or rows p row → key row ≡ id → IsRowAt key rows id p
  row_at p is row read same =
      record { row = row; there = read_there p is row read; id_is = same; only = only_place p is }

-- ---- what one row decides

pub find_is_nowhere : {X : Type 0} (test : X → Bool) (rows : List X) → ((k : ℕ) (other : X) → slice_get rows k ≡ Some other → test other ≡ true → ⊥)
    → find test rows ≡ None
find_is_nowhere test [] none = refl
find_is_nowhere test (x ∷ xs) none =
    ap (λ b. cond b (Some x) (find test xs)) (false_from_ne_true (test x) (λ passes. none zero x refl passes))
    ∙ find_is_nowhere test xs (λ k other there passes. none (suc k) other there passes)

pub find_is_at : {X : Type 0} (test : X → Bool) (rows : List X) (p : ℕ) (row : X) → slice_get rows p ≡ Some row
    → ((k : ℕ) (other : X) → slice_get rows k ≡ Some other → test other ≡ true → k ≡ p) → find test rows ≡ cond (test row) (Some row) None
find_is_at test [] p row there only = absurd (cc)
find_is_at test (x ∷ xs) zero row there only =
    let is : x ≡ row = cc in
    let later = find_is_nowhere test xs (λ k other at passes. let past = only (suc k) other at passes in omega (arith, past)) in
    ap (λ rest. cond (test x) (Some x) rest) later ∙ ap (λ r. cond (test r) (Some r) None) is
find_is_at test (x ∷ xs) (suc n) row there only =
    let fails = false_from_ne_true (test x) (λ passes. let past = only zero x refl passes in omega (arith, past)) in
    ap (λ b. cond b (Some x) (find test xs)) fails
    ∙ find_is_at test xs n row there (λ k other at passes. let past = only (suc k) other at passes in omega (arith, past))

-- only rows of an ID pass a test
pub record IsOfId {X : Type 0} (key : X → List ℕ) (id : List ℕ) (test : X → Bool) : Type 0 where
  pub of_id : (row : X) → test row ≡ true → key row ≡ id

module _ {X : Type 0} (key : X → List ℕ) (test : X → Bool) (rows : List X) (id : List ℕ) (of : IsOfId key id test) where
  pub any_there : (p : ℕ) (at : IsRowAt key rows id p) → list_any test rows ≡ test at.row
  any_there p at = any_is_at test rows p at.row at.there (λ k other there passes. at.only k other there (of.of_id other passes))

  pub find_there : (p : ℕ) (at : IsRowAt key rows id p) → find test rows ≡ cond (test at.row) (Some at.row) None
  find_there p at = find_is_at test rows p at.row at.there (λ k other there passes. at.only k other there (of.of_id other passes))

-- where no row has an ID
none_has : {X : Type 0} (key : X → List ℕ) (rows : List X) (id : List ℕ) → list_any (λ row. bytes_eq (key row) id) rows ≡ false
    → (k : ℕ) (other : X) → slice_get rows k ≡ Some other → key other ≡ id → ⊥
none_has key rows id none k other there same =
    let within = slice_get_within rows k other there in
    let read = get_or_from_slice_get rows k other other there in
    true≢false (sym (list_any_at (λ row. bytes_eq (key row) id) rows k other within (ap (λ row. bytes_eq (key row) id) read ∙ (bytes_eq-Decides (key other) id).1 same)) ∙ none)

pub no_row_has : {X : Type 0} (key : X → List ℕ) (rows : List X) (id : List ℕ) → list_any (λ row. bytes_eq (key row) id) rows ≡ false
    → (k : ℕ) (other : X) → slice_get rows k ≡ Some other → key other ≡ id → ⊥
no_row_has = none_has

module _ {X : Type 0} (key : X → List ℕ) (test : X → Bool) (rows : List X) (id : List ℕ) (of : IsOfId key id test) (none : list_any (λ row. bytes_eq (key row) id) rows ≡ false) where
  pub any_nowhere : list_any test rows ≡ false
  any_nowhere = any_is_nowhere test rows (λ k other there passes. none_has key rows id none k other there (of.of_id other passes))

  pub find_nowhere : find test rows ≡ None
  find_nowhere = find_is_nowhere test rows (λ k other there passes. none_has key rows id none k other there (of.of_id other passes))

-- no row has an ID for whose number there is no place, or whose only place another row has
module _ {X : Type 0} (key : X → List ℕ) (rows : List X) (numbers : List ℕ) (have : HaveNumbers numbers (map key rows)) (id : List ℕ) where
  pub none_at_all : IsPlaceOf numbers id None → list_any (λ row. bytes_eq (key row) id) rows ≡ false
  none_at_all is = any_is_nowhere (λ row. bytes_eq (key row) id) rows (λ k other there passes.
      let at : None ≡ Some k = only_row key rows numbers have id None is k other there ((bytes_eq-Decides (key other) id).0 passes) in
      absurd (cc))

  pub none_but_other : (p : ℕ) → IsPlaceOf numbers id (Some p) → (row : X) → row ≡ get_or rows p row → bytes_eq (key row) id ≡ false
      → list_any (λ row. bytes_eq (key row) id) rows ≡ false
  none_but_other p is row read fails =
      any_is_at (λ row. bytes_eq (key row) id) rows p row (read_there key rows numbers have id p is row read)
      (λ k other there passes. only_place key rows numbers have id p is k other there ((bytes_eq-Decides (key other) id).0 passes))
      ∙ fails

-- ---- rows that change and come

-- one row is changed, and the others stay
pub set_is_map : {X : Type 0} (f : X → X) (rows : List X) (p : ℕ) (row new : X) → slice_get rows p ≡ Some row → new ≡ f row
    → ((k : ℕ) (other : X) → slice_get rows k ≡ Some other → (k ≡ p → ⊥) → f other ≡ other) → set rows p new ≡ map f rows
set_is_map f [] p row new there changed stays = refl
set_is_map f (x ∷ xs) zero row new there changed stays =
    let is : row ≡ x = cc in
    let head : new ≡ f x = changed ∙ ap f is in
    let rest = map_stays f xs (λ k other at. stays (suc k) other at (λ e. omega (arith, e))) in
    λ i. head i ∷ sym rest i
  where
    map_stays : {X : Type 0} (f : X → X) (rows : List X) → ((k : ℕ) (other : X) → slice_get rows k ≡ Some other → f other ≡ other) → map f rows ≡ rows
    map_stays f [] stays = refl
    map_stays f (x ∷ xs) stays = λ i. stays zero x refl i ∷ map_stays f xs (λ k other at. stays (suc k) other at) i
set_is_map f (x ∷ xs) (suc n) row new there changed stays =
    let head = stays zero x refl (λ e. omega (arith, e)) in
    let rest = set_is_map f xs n row new there changed (λ k other at differs. stays (suc k) other at (λ e. differs (omega (arith, e)))) in
    λ i. sym head i ∷ rest i

pub map_same : {X : Type 0} (f : X → X) (rows : List X) → ((k : ℕ) (other : X) → slice_get rows k ≡ Some other → f other ≡ other) → map f rows ≡ rows
map_same f [] stays = refl
map_same f (x ∷ xs) stays = λ i. stays zero x refl i ∷ map_same f xs (λ k other at. stays (suc k) other at) i

-- one row more
pub have_more : {X : Type 0} (key : X → List ℕ) (rows : List X) (numbers : List ℕ) → HaveNumbers numbers (map key rows)
    → (number : ℕ) (row : X) → has_number number (key row) ≡ true → HaveNumbers (numbers ++ number ∷ []) (map key (rows ++ row ∷ []))
have_more key rows numbers have number row has =
    let ids = map key rows in
    let id = key row in
    let size = length_push numbers number in
    let sizes = length_push ids id in
    subst (HaveNumbers (numbers ++ number ∷ [])) (sym (map_push key rows row)) (record {
      long = omega (arith, size, sizes, have.long);
      each = λ k within. elim (cases_lt k (length ids)) [
        | inl lower ↦
            ap (has_number (slice_index (numbers ++ number ∷ []) k)) (get_or_append_left ids (id ∷ []) [] k lower)
            ∙ ap (λ n. has_number n (id_at ids k)) (get_or_append_left numbers (number ∷ []) 0 k (omega (arith, have.long)))
            ∙ have.each k lower
        | inr upper ↦
            let last : length ids ≡ k = omega (arith, sizes) in
            let lasts : length numbers ≡ k = omega (arith, last, have.long) in
            ap (has_number (slice_index (numbers ++ number ∷ []) k)) (get_or_push ids id [] k last)
            ∙ ap (λ n. has_number n id) (get_or_push numbers number 0 k lasts)
            ∙ has
      ];
    })

-- numbers below one are below a greater one
pub below_more : (next later number : ℕ) (numbers : List ℕ) → Rattle.ledger_rules.specs.Numbers.AreBelow next numbers → next ≤ number → number < later
    → Rattle.ledger_rules.specs.Numbers.AreBelow later (numbers ++ number ∷ [])
below_more next later number numbers below least less k within =
    let size = length_push numbers number in
    elim (cases_lt k (length numbers)) [
      | inl lower ↦ omega (arith, get_or_append_left numbers (number ∷ []) 0 k lower, below k lower)
      | inr upper ↦
          let lasts : length numbers ≡ k = omega (arith, size) in
          omega (arith, get_or_push numbers number 0 k lasts)
    ]

pub below_later : (next later : ℕ) (numbers : List ℕ) → Rattle.ledger_rules.specs.Numbers.AreBelow next numbers → next ≤ later
    → Rattle.ledger_rules.specs.Numbers.AreBelow later numbers
below_later next later numbers below less k within = omega (arith, below k within)

-- ---- rows that are marked: used, ended or confirmed

or_false : (b : Bool) → (b || false) ≡ b
or_false true = refl
or_false false = refl

pub unmarked_or : (b now : Bool) → now ≡ false → (b || now) ≡ b
unmarked_or b now is = ap (λ n. b || n) is ∙ or_false b

pub marked_or : (b now : Bool) → now ≡ true → (b || now) ≡ true
marked_or true now is = refl
marked_or false now is = is

pub differs_so : (a b : List ℕ) → (b ≡ a → ⊥) → bytes_eq a b ≡ false
differs_so a b differs = false_from_ne_true (bytes_eq a b) (λ is. differs (sym ((bytes_eq-Decides a b).0 is)))

pub same_so : (a b : List ℕ) → b ≡ a → bytes_eq a b ≡ true
same_so a b same = (bytes_eq-Decides a b).1 (sym same)

module _ {X : Type 0} (key : X → List ℕ) (mark : X → Bool) (rows : List X) (id : List ℕ) where
  abbrev pub is_free : X → Bool
  is_free row = bytes_eq (key row) id && not (mark row)

  abbrev pub is_live : (X → Bool) → X → Bool
  is_live more row = bytes_eq (key row) id && not (mark row) && more row

  free_of : IsOfId key id is_free
  free_of = record { of_id = λ row passes. (bytes_eq-Decides (key row) id).0 (and_parts (bytes_eq (key row) id) (not (mark row)) passes).0 }

  live_of : (more : X → Bool) → IsOfId key id (is_live more)
  live_of more = record {
    of_id = λ row passes.
        (bytes_eq-Decides (key row) id).0 (and_parts (bytes_eq (key row) id) (not (mark row)) (and_parts (bytes_eq (key row) id && not (mark row)) (more row) passes).0).0;
  }

  read_row : (p : ℕ) (at : IsRowAt key rows id p) (row : X) → row ≡ get_or rows p row → at.row ≡ row
  read_row p at row read = sym (get_or_from_slice_get rows p at.row row at.there) ∙ sym read

  has_id : (p : ℕ) (at : IsRowAt key rows id p) (row : X) → row ≡ get_or rows p row → bytes_eq (key row) id ≡ true
  has_id p at row read = (bytes_eq-Decides (key row) id).1 (ap key (sym (read_row p at row read)) ∙ at.id_is)

  pub free_at : (p : ℕ) (at : IsRowAt key rows id p) (row : X) → row ≡ get_or rows p row → list_any is_free rows ≡ not (mark row)
  free_at p at row read =
      any_there key is_free rows id free_of p at ∙ ap is_free (read_row p at row read) ∙ ap (λ b. b && not (mark row)) (has_id p at row read)

  pub free_nowhere : list_any (λ row. bytes_eq (key row) id) rows ≡ false → list_any is_free rows ≡ false
  free_nowhere none = any_nowhere key is_free rows id free_of none

  live_is : (more : X → Bool) (p : ℕ) (at : IsRowAt key rows id p) (row : X) → row ≡ get_or rows p row → is_live more at.row ≡ (not (mark row) && more row)
  live_is more p at row read = ap (is_live more) (read_row p at row read) ∙ ap (λ b. b && not (mark row) && more row) (has_id p at row read)

  pub live_at : (more : X → Bool) (p : ℕ) (at : IsRowAt key rows id p) (row : X) → row ≡ get_or rows p row → list_any (is_live more) rows ≡ (not (mark row) && more row)
  live_at more p at row read = any_there key (is_live more) rows id (live_of more) p at ∙ live_is more p at row read

  pub live_nowhere : (more : X → Bool) → list_any (λ row. bytes_eq (key row) id) rows ≡ false → list_any (is_live more) rows ≡ false
  live_nowhere more none = any_nowhere key (is_live more) rows id (live_of more) none

  pub live_found : (more : X → Bool) (p : ℕ) (at : IsRowAt key rows id p) (row : X) → row ≡ get_or rows p row
      → find (is_live more) rows ≡ cond (not (mark row) && more row) (Some row) None
  live_found more p at row read =
      find_there key (is_live more) rows id (live_of more) p at ∙ ap (λ b. cond b (Some at.row) None) (live_is more p at row read)
      ∙ ap (λ r. cond (not (mark row) && more row) (Some r) None) (read_row p at row read)

  pub live_unfound : (more : X → Bool) → list_any (λ row. bytes_eq (key row) id) rows ≡ false → find (is_live more) rows ≡ None
  live_unfound more none = find_nowhere key (is_live more) rows id (live_of more) none

  pub at_within : (p : ℕ) → IsRowAt key rows id p → p < length rows
  at_within p at = slice_get_within rows p at.row at.there

  -- the row of an ID is marked, and no other
  pub marked_at : (f : X → X) (p : ℕ) (at : IsRowAt key rows id p) (row new : X) → row ≡ get_or rows p row → (key row ≡ id → new ≡ f row)
      → ((other : X) → (key other ≡ id → ⊥) → f other ≡ other) → set rows p new ≡ map f rows
  marked_at f p at row new read changed stays =
      let is = read_row p at row read in
      let there : slice_get rows p ≡ Some row = at.there ∙ ap Some is in
      set_is_map f rows p row new there (changed (ap key (sym is) ∙ at.id_is))
      (λ k other k_there differs. stays other (λ same. differs (at.only k other k_there same)))

  pub marked_nowhere : (f : X → X) → list_any (λ row. bytes_eq (key row) id) rows ≡ false → ((other : X) → (key other ≡ id → ⊥) → f other ≡ other) → map f rows ≡ rows
  marked_nowhere f none stays = map_same f rows (λ k other there. stays other (no_row_has key rows id none k other there))

-- an ID begins with one number alone
one_number : (m n : ℕ) (id : List ℕ) → m < 2 ^ 64 → n < 2 ^ 64 → has_number m id ≡ true → has_number n id ≡ true → m ≡ n
one_number m n id fits fits_too is is_too =
    let digits = slice_range id 1 17 in
    let both = sym (number_read m id digits is refl) ∙ number_read n id digits is_too refl in
    let bytes : to_be_bytes w64 m ≡ to_be_bytes w64 n = cc in
    sym (from_be_bytes-to_be_bytes_8 m (omega arith)) ∙ ap (from_be_bytes w64) bytes ∙ from_be_bytes-to_be_bytes_8 n (omega arith)

-- no row has an ID whose number is greater than those of the rows
pub fresh_id : {X : Type 0} (key : X → List ℕ) (rows : List X) (numbers : List ℕ) → HaveNumbers numbers (map key rows) → (number : ℕ) (id : List ℕ)
    → ((k : ℕ) → k < length numbers → slice_index numbers k < number) → number < 2 ^ 64 → has_number number id ≡ true
    → list_any (λ row. bytes_eq (key row) id) rows ≡ false
fresh_id key rows numbers have number id below end has = any_is_nowhere (λ row. bytes_eq (key row) id) rows (λ k other there passes.
    let within = slice_get_within rows k other there in
    let size = length-map rows key in
    let less = below k (omega (arith, within, size, have.long)) in
    let read : id_at (map key rows) k ≡ id =
    get_or-map key rows k other [] within ∙ ap key (get_or_from_slice_get rows k other other there) ∙ (bytes_eq-Decides (key other) id).0 passes in
    let its = ap (has_number (slice_index numbers k)) (sym read) ∙ have.each k (omega (arith, within, size)) in
    let same = one_number (slice_index numbers k) number id (omega (arith, less, end)) end its has in
    absurd (omega (arith, same, less)))
