-- The record that made the request for which a round waits, which no other record answers.
use Rattle.std.proofs.Common.{◌≡◌, ℕ, zero, suc, ◌+◌, ◌<◌, ◌≤◌, ◌⊎◌, inl, inr, Bool, true, false, not, ◌&&◌, ◌||◌, List, [], ◌∷◌, ◌++◌, map, length, slice_get, Option, None, Some, bytes_eq, refl, sym, ap, ◌∙◌, arith}
use Rattle.std.specs.Prelude.{◌==◌}
use Rattle.std.specs.List.{list_any, list_all}
use Rattle.std.proofs.lemmas.Bool.{false≢true, cases_Bool, and_parts, or_cases, not-true, ltb-false, le-leb, lt-ltb}
use Rattle.ledger_records.specs.declared.idp_round.Round.{Round}
use Rattle.ledger_records.specs.declared.idp_round.Told.{Told}
use Rattle.ledger_records.specs.declared.idp_record.IdpRecord.{IdpRecord}
use Rattle.ledger_records.specs.declared.idp_record.IdpRecord.TheVariants as kinds
use Rattle.round_rows.specs.declared.row.RoundRow.{RoundRow}
use Rattle.round_rows.specs.Rounds.{is_done, is_turn_left, waits_for, after_answer, answered_if}
use Rattle.record_ledger.proofs.Words.{same_text, text_itself}
use Rattle.record_ledger.proofs.LinkRows.{other_not, at_front, at_last}
use Rattle.idp_rows.specs.RoundsOf.{round_row, round_after, round_behind, round_rows}
use Rattle.idp_ledger.specs.Record.{is_record, AreRecordsAfter}
use Rattle.idp_rows.specs.Record.{has_its_next, fits_where_waiting}
use Rattle.idp_ledger.specs.Naming.{has_request}
use Rattle.idp_ledger.proofs.LawWords.{parts}
use Rattle.idp_ledger.proofs.RoundRows.{round_rows-push}
use Rattle.owned_values.specs.Options.{is_there}
use Rattle.std.specs.Option.{unwrap_or}

-- ---- lists

all_at : {X : Type 0} (test : X → Bool) (xs : List X) (k : ℕ) (x : X) → list_all test xs ≡ true → slice_get xs k ≡ Some x → test x ≡ true
all_at test [] k x all there = absurd (cc)
all_at test (y ∷ xs) zero x all there =
    let same : y ≡ x = cc in
    ap test (sym same) ∙ (and_parts (test y) (list_all test xs) all).0
all_at test (y ∷ xs) (suc k) x all there = all_at test xs k x (and_parts (test y) (list_all test xs) all).1 there

get_map : {X Y : Type 0} (f : X → Y) (xs : List X) (k : ℕ) (x : X) → slice_get xs k ≡ Some x → slice_get (map f xs) k ≡ Some (f x)
get_map f [] k x there = absurd (cc)
get_map f (y ∷ xs) zero x there =
    let same : y ≡ x = cc in ap (λ z. Some (f z)) same
get_map f (y ∷ xs) (suc k) x there = get_map f xs k x there

map_length : {X Y : Type 0} (f : X → Y) (xs : List X) → length (map f xs) ≡ length xs
map_length f [] = refl
map_length f (x ∷ xs) = omega (arith, map_length f xs)

-- ---- a round that is done

no_more : (b : Bool) → (b && false) ≡ false
no_more true = refl
no_more false = refl

pub done_waits : (q : List ℕ) (row : RoundRow) → is_done row ≡ true → waits_for q row ≡ false
done_waits q row done = ap (λ d. bytes_eq row.request q && not d) done ∙ no_more (bytes_eq row.request q)

done_stays : (row : RoundRow) (later : List IdpRecord) → is_done row ≡ true → round_behind row later ≡ row
done_stays row [] done = refl
done_stays row (kinds.Told t ∷ later) done =
    ap (λ b. round_behind (answered_if b t.confirmed t.next row) later) (done_waits t.request row done) ∙ done_stays row later done
done_stays row (other ∷ later) done = done_stays row later done

-- ---- what answers a request, and what makes one

abbrev pub answers_it : List ℕ → IdpRecord → Bool
answers_it q (kinds.Told r) = bytes_eq r.request q
answers_it q other = false

-- a Told that makes this request, which no later record answers
record IsAskedIn (later : List IdpRecord) (q : List ℕ) : Type 0 where
  place : ℕ
  told : Told
  there : slice_get later place ≡ Some (kinds.Told told)
  next : told.next ≡ Some q
  free : (l : ℕ) (y : IdpRecord) → place < l → slice_get later l ≡ Some y → answers_it q y ≡ false

asked_later : (r : IdpRecord) (later : List IdpRecord) (q : List ℕ) → IsAskedIn later q → IsAskedIn (r ∷ later) q
asked_later r later q a = record { place = suc a.place; told = a.told; there = a.there; next = a.next; free = free }
  where
    free : (l : ℕ) (y : IdpRecord) → suc a.place < l → slice_get (r ∷ later) l ≡ Some y → answers_it q y ≡ false
    free zero y less there = absurd (omega arith)
    free (suc l) y less there = a.free l y (omega arith) there

asked_here : (t : Told) (later : List IdpRecord) (q : List ℕ) → t.next ≡ Some q → ((l : ℕ) (y : IdpRecord) → slice_get later l ≡ Some y → answers_it q y ≡ false)
    → IsAskedIn (kinds.Told t ∷ later) q
asked_here t later q next none = record { place = 0; told = t; there = refl; next = next; free = free }
  where
    free : (l : ℕ) (y : IdpRecord) → 0 < l → slice_get (kinds.Told t ∷ later) l ≡ Some y → answers_it q y ≡ false
    free zero y less there = absurd (omega arith)
    free (suc l) y less there = none l y there

-- the request for which a round waits behind records is its own, and none of them answers it, or one of them made it
Outcome : RoundRow → List IdpRecord → List ℕ → Type 0
Outcome row later q = ((row.request ≡ q) × ((l : ℕ) (y : IdpRecord) → slice_get later l ≡ Some y → answers_it q y ≡ false)) ⊎ IsAskedIn later q

none_more : (r : IdpRecord) (later : List IdpRecord) (q : List ℕ) → answers_it q r ≡ false → ((l : ℕ) (y : IdpRecord) → slice_get later l ≡ Some y → answers_it q y ≡ false)
    → (l : ℕ) (y : IdpRecord) → slice_get (r ∷ later) l ≡ Some y → answers_it q y ≡ false
none_more r later q here none zero y there =
    let same : r ≡ y = cc in ap (answers_it q) (sym same) ∙ here
none_more r later q here none (suc l) y there = none l y there

other_record : (row : RoundRow) (r : IdpRecord) (later : List IdpRecord) (q : List ℕ) → answers_it q r ≡ false → Outcome row later q → Outcome row (r ∷ later) q
unfolding Outcome
other_record row r later q here (inl same) = inl (same.0, none_more r later q here same.1)
other_record row r later q here (inr asked) = inr (asked_later r later q asked)

-- ---- the answers fit the round

unfoldable pub FitsOne : RoundRow → IdpRecord → Type 0
FitsOne row (kinds.Pending r) = Unit {0}
FitsOne row (kinds.Issued r) = Unit {0}
FitsOne row (kinds.Ended r) = Unit {0}
FitsOne row (kinds.Left r) = Unit {0}
FitsOne row (kinds.Confirmed r) = Unit {0}
FitsOne row (kinds.Spoke r) = Unit {0}
FitsOne row (kinds.Round r) = Unit {0}
FitsOne row (kinds.Told r) = fits_where_waiting r row ≡ true

unfoldable pub FitsAll : RoundRow → List IdpRecord → Type 0
FitsAll row [] = Unit {0}
FitsAll row (r ∷ later) = FitsOne row r × FitsAll (round_after row r) later

pub after_there : (before : List IdpRecord) (r : IdpRecord) (k : ℕ) (row : RoundRow) → slice_get (round_rows before) k ≡ Some row
    → slice_get (round_rows (before ++ r ∷ [])) k ≡ Some (round_after row r)
after_there before r k row there =
    ap (λ rows. slice_get rows k) (round_rows-push before r)
    ∙ at_front (map (λ row. round_after row r) (round_rows before)) (round_rows (r ∷ [])) k (round_after row r) (get_map (λ row. round_after row r) (round_rows before) k row there)

fits_one : (before : List IdpRecord) (r : IdpRecord) (k : ℕ) (row : RoundRow) → is_record before r ≡ true → slice_get (round_rows before) k ≡ Some row → FitsOne row r
unfolding FitsOne
fits_one before (kinds.Pending r) k row is there = tt
fits_one before (kinds.Issued r) k row is there = tt
fits_one before (kinds.Ended r) k row is there = tt
fits_one before (kinds.Left r) k row is there = tt
fits_one before (kinds.Confirmed r) k row is there = tt
fits_one before (kinds.Spoke r) k row is there = tt
fits_one before (kinds.Round r) k row is there = tt
fits_one before (kinds.Told r) k row is there =
    all_at (fits_where_waiting r) (round_rows before) k row
    (and_parts (list_any (waits_for r.request) (round_rows before)) (list_all (fits_where_waiting r) (round_rows before)) (parts before (kinds.Told r) is).free).1 there

pub fits_all : (before later : List IdpRecord) → AreRecordsAfter before later → (k : ℕ) (row : RoundRow) → slice_get (round_rows before) k ≡ Some row → FitsAll row later
unfolding FitsAll
fits_all before [] are k row there = tt
fits_all before (r ∷ later) are k row there =
    (fits_one before r k row are.0 there, fits_all (before ++ r ∷ []) later are.1 k (round_after row r) (after_there before r k row there))

-- an answer without a next request, which fits, is the last one
pub last_answer : (t : Told) (row : RoundRow) → waits_for t.request row ≡ true → t.next ≡ None → fits_where_waiting t row ≡ true → is_done (after_answer t.confirmed t.next row) ≡ true
last_answer t row waits none fits =
    let fit : has_its_next (is_turn_left row) t.first None ≡ true =
    sym (ap (λ b. not b || has_its_next (is_turn_left row) t.first t.next) waits ∙ ap (has_its_next (is_turn_left row) t.first) none) ∙ fits in
    let not_left = not-true (is_turn_left row) (and_parts (not (is_turn_left row)) (t.first == 0) fit).0 in
    let past : length row.turns ≤ row.told + 1 = ltb-false (row.told + 1) (length row.turns) not_left in
    rw (lt-ltb 0 (row.told + 1) (omega arith), le-leb (length row.turns) (row.told + 1) past) refl

-- ---- where the request was made

chain_told : (row : RoundRow) (t : Told) (later : List IdpRecord) (q : List ℕ) (b : Bool) → waits_for t.request row ≡ b → fits_where_waiting t row ≡ true
    → Outcome (answered_if b t.confirmed t.next row) later q → waits_for q (round_behind (answered_if b t.confirmed t.next row) later) ≡ true → Outcome row (kinds.Told t ∷ later) q
unfolding Outcome
chain_told row t later q true takes fits (inr asked) waits = inr (asked_later (kinds.Told t) later q asked)
chain_told row t later q true takes fits (inl same) waits = by_next t.next refl
  where
    by_next : (next : Option (List ℕ)) → t.next ≡ next → Outcome row (kinds.Told t ∷ later) q
    by_next None none =
        let done = last_answer t row takes none fits in
        absurd (false≢true (sym (done_waits q (after_answer t.confirmed t.next row) done)
        ∙ ap (waits_for q) (sym (done_stays (after_answer t.confirmed t.next row) later done)) ∙ waits))
    by_next (Some id) some =
        let is : id ≡ q = sym (ap (λ n. unwrap_or n row.request) some) ∙ same.0 in
        inr (asked_here t later q (some ∙ ap Some is) same.1)
chain_told row t later q false takes fits (inr asked) waits = inr (asked_later (kinds.Told t) later q asked)
chain_told row t later q false takes fits (inl same) waits = elim (cases_Bool (is_done row)) [
  | inl done ↦ absurd (false≢true (sym (done_waits q row done) ∙ ap (waits_for q) (sym (done_stays row later done)) ∙ waits))
  | inr not_done ↦
      let differs : bytes_eq row.request t.request ≡ false = sym (and_true (bytes_eq row.request t.request)) ∙ sym (ap (λ d. bytes_eq row.request t.request && not d) not_done) ∙ takes in
      inl (same.0, none_more (kinds.Told t) later q (other_not q t.request (ap (λ x. bytes_eq x t.request) (sym same.0) ∙ differs)) same.1)
]
  where
    and_true : (b : Bool) → (b && true) ≡ b
    and_true true = refl
    and_true false = refl

chain : (row : RoundRow) (later : List IdpRecord) (q : List ℕ) → FitsAll row later → waits_for q (round_behind row later) ≡ true → Outcome row later q
unfolding FitsAll FitsOne Outcome
chain row [] q fits waits = inl (same_text row.request q (and_parts (bytes_eq row.request q) (not (is_done row)) waits).0, λ l y there. absurd (cc))
chain row (kinds.Pending r ∷ later) q fits waits = other_record row (kinds.Pending r) later q refl (chain row later q fits.1 waits)
chain row (kinds.Issued r ∷ later) q fits waits = other_record row (kinds.Issued r) later q refl (chain row later q fits.1 waits)
chain row (kinds.Ended r ∷ later) q fits waits = other_record row (kinds.Ended r) later q refl (chain row later q fits.1 waits)
chain row (kinds.Left r ∷ later) q fits waits = other_record row (kinds.Left r) later q refl (chain row later q fits.1 waits)
chain row (kinds.Confirmed r ∷ later) q fits waits = other_record row (kinds.Confirmed r) later q refl (chain row later q fits.1 waits)
chain row (kinds.Spoke r ∷ later) q fits waits = other_record row (kinds.Spoke r) later q refl (chain row later q fits.1 waits)
chain row (kinds.Round r ∷ later) q fits waits = other_record row (kinds.Round r) later q refl (chain row later q fits.1 waits)
chain row (kinds.Told t ∷ later) q fits waits =
    chain_told row t later q (waits_for t.request row) refl fits.0 (chain (answered_if (waits_for t.request row) t.confirmed t.next row) later q fits.1 waits) waits

-- the record that made the request for which some round waits, which no later one answers
pub record IsHolderIn (records : List IdpRecord) (q : List ℕ) : Type 0 where
  pub place : ℕ
  pub row : IdpRecord
  pub there : slice_get records place ≡ Some row
  pub has : has_request q row ≡ true
  pub free : (l : ℕ) (y : IdpRecord) → place < l → slice_get records l ≡ Some y → answers_it q y ≡ false

holder_later : (r : IdpRecord) (later : List IdpRecord) (q : List ℕ) → IsHolderIn later q → IsHolderIn (r ∷ later) q
holder_later r later q h = record { place = suc h.place; row = h.row; there = h.there; has = h.has; free = free }
  where
    free : (l : ℕ) (y : IdpRecord) → suc h.place < l → slice_get (r ∷ later) l ≡ Some y → answers_it q y ≡ false
    free zero y less there = absurd (omega arith)
    free (suc l) y less there = h.free l y (omega arith) there

holder_of : (r : Round) (later : List IdpRecord) (q : List ℕ) → Outcome (round_row r) later q → IsHolderIn (kinds.Round r ∷ later) q
unfolding Outcome
holder_of r later q (inl same) = record { place = 0; row = kinds.Round r; there = refl; has = ap (λ x. bytes_eq x q) same.0 ∙ text_itself q; free = free }
  where
    free : (l : ℕ) (y : IdpRecord) → 0 < l → slice_get (kinds.Round r ∷ later) l ≡ Some y → answers_it q y ≡ false
    free zero y less there = absurd (omega arith)
    free (suc l) y less there = same.1 l y there
holder_of r later q (inr asked) =
    holder_later (kinds.Round r) later q
    (record { place = asked.place; row = kinds.Told asked.told; there = asked.there; has = ap (is_there q) asked.next ∙ text_itself q; free = asked.free })

pub new_round : (before : List IdpRecord) (r : Round) → slice_get (round_rows (before ++ kinds.Round r ∷ [])) (length (round_rows before)) ≡ Some (round_row r)
new_round before r =
    let rows = map (λ row. round_after row (kinds.Round r)) (round_rows before) in
    ap (λ all. slice_get all (length (round_rows before))) (round_rows-push before (kinds.Round r))
    ∙ ap (λ k. slice_get (rows ++ round_row r ∷ []) k) (sym (map_length (λ row. round_after row (kinds.Round r)) (round_rows before)))
    ∙ at_last rows (round_row r)

pub holder_at : (before records : List IdpRecord) → AreRecordsAfter before records → (q : List ℕ) → list_any (waits_for q) (round_rows records) ≡ true → IsHolderIn records q
holder_at before [] are q waits = absurd (false≢true waits)
holder_at before (kinds.Pending r ∷ later) are q waits = holder_later (kinds.Pending r) later q (holder_at (before ++ kinds.Pending r ∷ []) later are.1 q waits)
holder_at before (kinds.Issued r ∷ later) are q waits = holder_later (kinds.Issued r) later q (holder_at (before ++ kinds.Issued r ∷ []) later are.1 q waits)
holder_at before (kinds.Ended r ∷ later) are q waits = holder_later (kinds.Ended r) later q (holder_at (before ++ kinds.Ended r ∷ []) later are.1 q waits)
holder_at before (kinds.Left r ∷ later) are q waits = holder_later (kinds.Left r) later q (holder_at (before ++ kinds.Left r ∷ []) later are.1 q waits)
holder_at before (kinds.Confirmed r ∷ later) are q waits = holder_later (kinds.Confirmed r) later q (holder_at (before ++ kinds.Confirmed r ∷ []) later are.1 q waits)
holder_at before (kinds.Spoke r ∷ later) are q waits = holder_later (kinds.Spoke r) later q (holder_at (before ++ kinds.Spoke r ∷ []) later are.1 q waits)
holder_at before (kinds.Told r ∷ later) are q waits = holder_later (kinds.Told r) later q (holder_at (before ++ kinds.Told r ∷ []) later are.1 q waits)
holder_at before (kinds.Round r ∷ later) are q waits =
    elim (or_cases (waits_for q (round_behind (round_row r) later)) (list_any (waits_for q) (round_rows later)) waits) [
      | inl here ↦
          holder_of r later q (chain (round_row r) later q
          (fits_all (before ++ kinds.Round r ∷ []) later are.1 (length (round_rows before)) (round_row r) (new_round before r)) here)
      | inr there ↦ holder_later (kinds.Round r) later q (holder_at (before ++ kinds.Round r ∷ []) later are.1 q there)
    ]
