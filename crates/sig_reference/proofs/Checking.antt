-- A form that was put into a place that takes so many bytes: whole, or where the call failed, in part.
use Rattle.std.proofs.Common.{◌≡◌, ℕ, ◌≤◌, List, length, take, Option, None, Result, Ok, Err, OnOk, OnErr, subst, arith}
use Rattle.std.specs.Option.{SomeIff}
use Rattle.std.proofs.lemmas.List.{length-take}

module _ {A E : Type 0} (Took : List ℕ → Type 0) (limit : ℕ) (gives : List ℕ → List ℕ) (form : List ℕ) (r : Result A E)
    (whole : OnOk r (Took form)) (part : OnErr r ((n : ℕ) × Took (take n form))) where
  -- where it gives no answer, the form is too long
  pub too_long : (answer : Option (List ℕ)) →
      ((bytes : List ℕ) → Took bytes → SomeIff answer (length bytes ≤ limit) (gives bytes)) →
      answer ≡ None → ¬ (length form ≤ limit)
  too_long answer finish none = by_call r whole part
    where
      none_of : (bytes : List ℕ) → Took bytes → ¬ (length bytes ≤ limit)
      none_of bytes took =
          subst (λ (o : Option (List ℕ)). SomeIff o (length bytes ≤ limit) (gives bytes)) none (finish bytes took)

      by_call : (s : Result A E) → OnOk s (Took form) → OnErr s ((n : ℕ) × Took (take n form)) → ¬ (length form ≤ limit)
      by_call (Ok a) whole part = none_of form whole
      by_call (Err e) whole part =
          λ short. none_of (take part.0 form) part.1 (omega (arith, short, length-take part.0 form))
