-- Lists of texts that are kept elsewhere.
use Rattle.std.specs.Prelude.{ℕ, List, map}
use Rattle.std.specs.Borrow.{Bor}

-- the bytes of each text
abbrev pub texts : List (Bor (List ℕ)) → List (List ℕ)
texts kept = map (λ (text : Bor (List ℕ)). text.now) kept
