-- Schedules of many logins are made one behind the other.
use Rattle.std.proofs.Common.{◌≡◌, ℕ, zero, suc, ◌+◌, ◌*◌, ◌%◌, ◌<◌, ◌≤◌, Bool, true, false, cond, ◌==◌, List, [], ◌∷◌, ◌++◌, length, sym, ap, ◌∙◌, arith, append_assoc}
use Rattle.std.proofs.lemmas.List.{length-append}
use Rattle.schedules.specs.declared.step.Step.{Step}
use Rattle.post_agent.specs.declared.site.Site.TheVariants.{Sp}
use Rattle.schedules.specs.declared.step.Step.TheVariants.{Submit, Restart}
use Rattle.schedules.specs.Made.{the_agent, next, drawn, login_at, more_by, login_steps, made}

-- the numbers so far
pub record AreMade (n start number : ℕ) (steps : List Step) : Type 0 where
  pub number_is : number ≡ drawn start n
  pub small : number ≤ 2147483647
  pub steps_are : steps ≡ made n start

pub one_made : (n start number new : ℕ) (steps with_login with_more : List Step) → AreMade n start number steps →
    new ≡ next number →
    with_login ≡ steps ++ login_at (1704067200000 + 1000 * (n + 1)) new → with_more ≡ with_login ++ more_by new →
    AreMade (n + 1) start new with_more
one_made n start number new steps with_login with_more so_far is_new is_login is_more =
    let one : n + 1 ≡ suc n = omega arith in
    let drawn_is : new ≡ drawn start (suc n) = is_new ∙ ap next so_far.number_is in
    let login : List Step = login_at (1704067200000 + 1000 * (n + 1)) new in
    record {
      number_is = drawn_is ∙ ap (drawn start) (sym one);
      small = (let below : next number < 2147483648 = omega arith in omega arith);
      steps_are =
          (is_more ∙ ap (λ xs. xs ++ more_by new) (is_login ∙ ap (λ xs. xs ++ login) so_far.steps_are)
          ∙ append_assoc (made n start) login (more_by new)
          ∙ (λ i. made n start ++ login_steps (one i) (drawn_is i))
          ∙ ap (λ k. made k start) (sym one));
    }

-- ---- how many steps there are

few_again : (t : Bool) (step : Step) → length (cond t (step ∷ []) []) ≤ 1
few_again true step = omega arith
few_again false step = omega arith

few_restarts : (t : Bool) (one two : Step) → length (cond t (one ∷ two ∷ []) []) ≤ 2
few_restarts true one two = omega arith
few_restarts false one two = omega arith

few_steps : (i number : ℕ) → length (login_steps i number) ≤ 9
few_steps i number =
    omega (
      arith,
      length-append (cond (number % 5 == 0) (Submit the_agent ∷ []) [])
          (cond (number % 4 == 2) (Restart Sp ∷ Submit the_agent ∷ []) []),
      few_again (number % 5 == 0) (Submit the_agent),
      few_restarts (number % 4 == 2) (Restart Sp) (Submit the_agent),
    )

pub few_made : (n start : ℕ) → length (made n start) ≤ 9 * n
few_made zero start = omega arith
few_made (suc n) start =
    omega (
      arith,
      few_made n start,
      few_steps (suc n) (drawn start (suc n)),
      length-append (made n start) (login_steps (suc n) (drawn start (suc n))),
    )
