-- The row of an ID is found by its number.
use Rattle.std.proofs.Common.{◌≡◌, ℕ, ◌<◌, ◌≤◌, Bool, true, false, List, [], ◌∷◌, ◌++◌, map, length, slice_index, get_or, Option, None, Some, sym, refl, ap, ◌∙◌, inl, inr, arith}
use Rattle.std.specs.List.{list_any, slice_get}
use Rattle.std.proofs.lemmas.Bool.{cases_lt}
use Rattle.std.proofs.lemmas.List.{get_or-map, length-map, length_push, get_or_append_left, get_or_push}
use Rattle.std.proofs.lemmas.Option.{slice_get_within, slice_get_read, get_or_from_slice_get}
use Rattle.ledger_rules.specs.Numbers.{has_number, IsPlaceOf}
use Rattle.ledger_rules.proofs.Passing.{any_is_at, any_is_nowhere}
use Rattle.request_ledger.specs.Standing.{HaveNumbers, id_at}

-- a row whose key is an ID stands at the only place that its number leaves
pub only_row : {X : Type 0} (key : X → List ℕ) (rows : List X) (next : ℕ) (numbers : List ℕ) → HaveNumbers next numbers (map key rows)
    → (id : List ℕ) (place : Option ℕ) → IsPlaceOf numbers id place → (k : ℕ) (row : X) → slice_get rows k ≡ Some row → key row ≡ id → place ≡ Some k
only_row key rows next numbers have id place is k row there same =
    let within = slice_get_within rows k row there in
    let size = length-map rows key in
    let read : id_at (map key rows) k ≡ id =
    get_or-map key rows k row [] within ∙ ap key (get_or_from_slice_get rows k row row there) ∙ same in
    is.only k (omega (arith, have.long, size))
    (ap (has_number (slice_index numbers k)) (sym read) ∙ have.each k (omega (arith, size)))

-- where the numbers are kept below a greater one
pub HaveNumbers-later : (next later : ℕ) (numbers : List ℕ) (ids : List (List ℕ)) → next ≤ later → HaveNumbers next numbers ids → HaveNumbers later numbers ids
HaveNumbers-later next later numbers ids less have =
    record { long = have.long; each = have.each; below = λ k within. omega (arith, have.below k within) }

-- one row more
pub HaveNumbers-push : (next later number : ℕ) (numbers : List ℕ) (ids : List (List ℕ)) (id : List ℕ) → next ≤ number → number < later
    → has_number number id ≡ true → HaveNumbers next numbers ids → HaveNumbers later (numbers ++ number ∷ []) (ids ++ id ∷ [])
HaveNumbers-push next later number numbers ids id least below has have =
    let size = length_push numbers number in
    let sizes = length_push ids id in
    record {
      long = omega (arith, size, sizes, have.long);
      each = λ k within. elim (cases_lt k (length ids)) [
        | inl lower ↦
            ap (has_number (slice_index (numbers ++ number ∷ []) k)) (get_or_append_left ids (id ∷ []) [] k lower)
            ∙ ap (λ n. has_number n (id_at ids k)) (get_or_append_left numbers (number ∷ []) 0 k (omega (arith, have.long)))
            ∙ have.each k lower
        | inr upper ↦
            let last : length ids ≡ k = omega (arith, sizes) in
            let lasts : length numbers ≡ k = omega (arith, last, have.long) in
            ap (has_number (slice_index (numbers ++ number ∷ []) k)) (get_or_push ids id [] k last)
            ∙ ap (λ n. has_number n id) (get_or_push numbers number 0 k lasts)
            ∙ has
      ];
      below = λ k within. elim (cases_lt k (length numbers)) [
        | inl lower ↦ omega (arith, get_or_append_left numbers (number ∷ []) 0 k lower, have.below k lower)
        | inr upper ↦
            let lasts : length numbers ≡ k = omega (arith, size) in
            omega (arith, get_or_push numbers number 0 k lasts)
      ];
    }

-- the only place of an ID's row, and none
pub only_place : {X : Type 0} (key : X → List ℕ) (rows : List X) (next : ℕ) (numbers : List ℕ) → HaveNumbers next numbers (map key rows)
    → (id : List ℕ) (p : ℕ) → IsPlaceOf numbers id (Some p) → (k : ℕ) (row : X) → slice_get rows k ≡ Some row → key row ≡ id → k ≡ p
only_place key rows next numbers have id p is k row there same =
    let at : Some p ≡ Some k = only_row key rows next numbers have id (Some p) is k row there same in
    cc

pub no_place : {X : Type 0} (key : X → List ℕ) (rows : List X) (next : ℕ) (numbers : List ℕ) → HaveNumbers next numbers (map key rows)
    → (id : List ℕ) → IsPlaceOf numbers id None → (k : ℕ) (row : X) → slice_get rows k ≡ Some row → key row ≡ id → ⊥
no_place key rows next numbers have id is k row there same =
    let at : None ≡ Some k = only_row key rows next numbers have id None is k row there same in
    cc

-- what is read at the only place of an ID
pub read_there : {X : Type 0} (key : X → List ℕ) (rows : List X) (next : ℕ) (numbers : List ℕ) → HaveNumbers next numbers (map key rows)
    → (id : List ℕ) (p : ℕ) → IsPlaceOf numbers id (Some p) → (row : X) → row ≡ get_or rows p row → slice_get rows p ≡ Some row
read_there key rows next numbers have id p is row read =
    let within = is.within in
    slice_get_read rows (length rows) p row refl (omega (arith, within, have.long, length-map rows key)) read

-- where only rows of an ID pass a test
pub record IsOfId {X : Type 0} (key : X → List ℕ) (id : List ℕ) (test : X → Bool) : Type 0 where
  pub of_id : (row : X) → test row ≡ true → key row ≡ id

pub any_there : {X : Type 0} (key : X → List ℕ) (test : X → Bool) (rows : List X) (next : ℕ) (numbers : List ℕ) → HaveNumbers next numbers (map key rows)
    → (id : List ℕ) → IsOfId key id test → (p : ℕ) → IsPlaceOf numbers id (Some p) → (row : X) → row ≡ get_or rows p row → list_any test rows ≡ test row
any_there key test rows next numbers have id of p is row read =
    any_is_at test rows p row (read_there key rows next numbers have id p is row read)
    (λ k other at passes. only_place key rows next numbers have id p is k other at (of.of_id other passes))

pub any_nowhere : {X : Type 0} (key : X → List ℕ) (test : X → Bool) (rows : List X) (next : ℕ) (numbers : List ℕ) → HaveNumbers next numbers (map key rows)
    → (id : List ℕ) → IsOfId key id test → IsPlaceOf numbers id None → list_any test rows ≡ false
any_nowhere key test rows next numbers have id of is =
    any_is_nowhere test rows (λ k other at passes. no_place key rows next numbers have id is k other at (of.of_id other passes))
