-- The round that waits for the answer to a request, where it is looked for with a test more.
use Rattle.std.proofs.Common.{◌≡◌, ℕ, Bool, true, false, cond, not, ◌&&◌, ◌||◌, List, [], ◌∷◌, Option, None, Some, find, refl, ap, ◌∙◌}
use Rattle.std.specs.List.{list_any, list_all}
use Rattle.std.specs.Option.{is_some}
use Rattle.ledger_records.specs.declared.idp_round.Told.{Told}
use Rattle.round_rows.specs.declared.row.RoundRow.{RoundRow}
use Rattle.round_rows.specs.Rounds.{is_turn_left, waits_for}
use Rattle.round_rows.specs.Kept.{IsRoundOf, passing}
use Rattle.idp_rows.specs.Record.{has_its_next, fits_where_waiting, is_answer_free}

any_either : {X : Type 0} (b any : Bool) (x : X) (later : Option X) → any ≡ is_some later → (b || any) ≡ is_some (cond b (Some x) later)
any_either true any x later rest = refl
any_either false any x later rest = rest

any_is_found : {X : Type 0} (test : X → Bool) (xs : List X) → list_any test xs ≡ is_some (find test xs)
any_is_found test [] = refl
any_is_found test (x ∷ xs) = any_either (test x) (list_any test xs) x (find test xs) (any_is_found test xs)

all_either : (a b all any : Bool) → all ≡ not any → ((not a || b) && all) ≡ not ((a && not b) || any)
all_either true true all any rest = rest
all_either true false all any rest = refl
all_either false b all any rest = rest

all_is_none : {X : Type 0} (w g : X → Bool) (xs : List X) → list_all (λ x. not (w x) || g x) xs ≡ not (list_any (λ x. w x && not (g x)) xs)
all_is_none w g [] = refl
all_is_none w g (x ∷ xs) =
    all_either (w x) (g x) (list_all (λ x. not (w x) || g x) xs) (list_any (λ x. w x && not (g x)) xs) (all_is_none w g xs)

and_true : (b : Bool) → b ≡ (b && true)
and_true true = refl
and_true false = refl

any_same : {X : Type 0} (test : X → Bool) (xs : List X) → list_any test xs ≡ list_any (λ x. test x && true) xs
any_same test [] = refl
any_same test (x ∷ xs) = λ i. and_true (test x) i || any_same test xs i

-- some round waits exactly where one is found
pub any_waits : (rows : List RoundRow) (q : List ℕ) (found : Option RoundRow) → IsRoundOf rows q found → list_any (waits_for q) rows ≡ is_some found
any_waits rows q found is =
    any_same (waits_for q) rows ∙ any_is_found (λ row. waits_for q row && true) rows ∙ ap is_some (is (λ row. true)) ∙ all_pass found
  where
    all_pass : (o : Option RoundRow) → is_some (passing (λ row. true) o) ≡ is_some o
    all_pass None = refl
    all_pass (Some row) = refl

-- whether a Told has its next request in the round that is found
abbrev pub fits_in : Told → Option RoundRow → Bool
fits_in r None = false
fits_in r (Some row) = has_its_next (is_turn_left row) r.first r.next

pub answer_free : (rows : List RoundRow) (r : Told) (found : Option RoundRow) → IsRoundOf rows r.request found → is_answer_free rows r ≡ fits_in r found
answer_free rows r None is = ap (λ b. b && list_all (fits_where_waiting r) rows) (any_waits rows r.request None is)
answer_free rows r (Some row) is =
    ap (λ b. b && list_all (fits_where_waiting r) rows) (any_waits rows r.request (Some row) is)
    ∙ all_is_none (waits_for r.request) g rows
    ∙ ap not (any_is_found (λ row. waits_for r.request row && not (g row)) rows)
    ∙ ap (λ o. not (is_some o)) (is (λ row. not (g row)))
    ∙ twice (g row)
  where
    g : RoundRow → Bool
    g row = has_its_next (is_turn_left row) r.first r.next

    twice : (b : Bool) → not (is_some (cond (not b) (Some row) None)) ≡ b
    twice true = refl
    twice false = refl
