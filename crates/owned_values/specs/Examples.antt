-- The definitions at worked examples.
use Rattle.std.specs.Prelude.{◌≡◌, ℕ, Option, None, Some, Result, Ok, Err, refl}
use Rattle.owned_values.specs.Gives.{Gives}

-- An error that is Some n stands for the fault n, and None for want of memory. Where the definition gives 4, the call
-- may return 4 or have no memory; where it gives the fault 9, it may refuse with 9 or have no memory.
given : Gives {X = ℕ} {E = Option ℕ} (λ n. n) (λ e. e) (Ok 4) (Ok 4)
given = refl

no_memory : (expected : Result ℕ ℕ) → Gives {X = ℕ} {E = Option ℕ} (λ n. n) (λ e. e) (Err None) expected
no_memory expected = tt

refused : Gives {X = ℕ} {Y = ℕ} {E = Option ℕ} (λ n. n) (λ e. e) (Err (Some 9)) (Err 9)
refused = refl
