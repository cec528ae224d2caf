-- Rounds behind answers.
use Rattle.std.proofs.Common.{◌≡◌, ℕ, suc, ◌+◌, ◌≤◌, Bool, true, false, not, ◌||◌, cond, nat_lt, List, [], ◌∷◌, length, refl, sym, ap, ◌∙◌, inl, inr, arith}
use Rattle.std.specs.List.{list_all}
use Rattle.std.proofs.lemmas.Bool.{cases_lt, lt-ltb, le-ltb}
use Rattle.logout_fanout.specs.declared.round.Next.TheVariants.{Ask, Done}
use Rattle.logout_fanout.specs.Round.{AsksInOrder, SucceedsWhereEachConfirms, after_answers, next, round_at}

-- how many of some answers confirm
abbrev confirming : List Bool → ℕ
confirming [] = 0
confirming (true ∷ answers) = suc (confirming answers)
confirming (false ∷ answers) = confirming answers

few : (answers : List Bool) → confirming answers ≤ length answers
few [] = omega arith
few (true ∷ answers) = omega (arith, few answers)
few (false ∷ answers) = omega (arith, few answers)

-- one more on both sides changes no order
shifted : (m n : ℕ) → nat_lt (suc m) (suc n) ≡ nat_lt m n
shifted m n = elim (cases_lt m n) [
  | inl less ↦ lt-ltb (suc m) (suc n) (omega (arith, less)) ∙ sym (lt-ltb m n less)
  | inr more ↦ le-ltb (suc m) (suc n) (omega (arith, more)) ∙ sym (le-ltb m n more)
]

-- fewer confirm than answer exactly where one does not
fewer : (answers : List Bool) → nat_lt (confirming answers) (length answers) ≡ not (list_all (λ confirms. confirms) answers)
fewer [] = refl
fewer (true ∷ answers) = shifted (confirming answers) (length answers) ∙ fewer answers
fewer (false ∷ answers) = lt-ltb (confirming answers) (suc (length answers)) (omega (arith, few answers))

-- a round behind answers has taken so many, of which so many confirmed
counted : (answers : List Bool) (turns : ℕ) (skipped : Bool) (told confirmed : ℕ)
    → after_answers answers (round_at turns skipped told confirmed) ≡ round_at turns skipped (told + length answers) (confirmed + confirming answers)
counted [] turns skipped told confirmed =
    let one : told ≡ told + 0 = omega arith in
    let other : confirmed ≡ confirmed + 0 = omega arith in
    λ i. round_at turns skipped (one i) (other i)
counted (true ∷ answers) turns skipped told confirmed =
    let one : told + 1 + length answers ≡ told + suc (length answers) = omega arith in
    let other : confirmed + 1 + confirming answers ≡ confirmed + suc (confirming answers) = omega arith in
    counted answers turns skipped (told + 1) (confirmed + 1) ∙ λ i. round_at turns skipped (one i) (other i)
counted (false ∷ answers) turns skipped told confirmed =
    let one : told + 1 + length answers ≡ told + suc (length answers) = omega arith in
    counted answers turns skipped (told + 1) confirmed ∙ λ i. round_at turns skipped (one i) (confirmed + confirming answers)

-- from the start on
from_start : (answers : List Bool) (turns : ℕ) (skipped : Bool)
    → after_answers answers (round_at turns skipped 0 0) ≡ round_at turns skipped (length answers) (confirming answers)
from_start answers turns skipped =
    let one : 0 + length answers ≡ length answers = omega arith in
    let other : 0 + confirming answers ≡ confirming answers = omega arith in
    counted answers turns skipped 0 0 ∙ λ i. round_at turns skipped (one i) (other i)

pub succeeds : SucceedsWhereEachConfirms
succeeds skipped answers =
    let done : nat_lt (length answers) (length answers) ≡ false = le-ltb (length answers) (length answers) (omega arith) in
    ap next (from_start answers (length answers) skipped)
    ∙ ap (λ b. cond b (Ask (length answers)) (Done (skipped || nat_lt (confirming answers) (length answers)))) done
    ∙ ap (λ b. Done (skipped || b)) (fewer answers)

pub asks_in_order : AsksInOrder
asks_in_order turns skipped answers less =
    ap next (from_start answers turns skipped)
    ∙ ap (λ b. cond b (Ask (length answers)) (Done (skipped || nat_lt (confirming answers) turns))) (lt-ltb (length answers) turns less)
