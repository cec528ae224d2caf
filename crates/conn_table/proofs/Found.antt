-- What is read of the bytes of a connection.
use Rattle.std.proofs.Common.{◌≡◌, ℕ, false, List, [], ◌++◌, Result, Ok, Err, refl, subst, arith, if◌then◌else◌}
use Rattle.std.specs.Result.{is_ok, is_err}
use Rattle.http_wire.specs.Requests.{Request, Whole, Reads}
use Rattle.http_wire.proofs.Deciding.{not_come}
use Rattle.http_wire.proofs.Keeping.{not_more}

-- no bytes are no whole request
pub nothing_brought : (bytes : List ℕ) (request : Request) → bytes ≡ [] → Reads bytes (Whole request) → ⊥
nothing_brought bytes request none whole = not_more [] request (not_come [] refl (omega arith)) (subst (λ xs. Reads xs (Whole request)) none whole)

-- what a list is to which others were put, if that did not fail
pub brought : {E : Type 0} (result : Result (Unit {0}) E) (old new more : List ℕ) → new ≡ (if is_ok result then old ++ more else old) → is_err result ≡ false → new ≡ old ++ more
brought (Ok x) old new more is holds = is
brought (Err e) old new more is holds = absurd (cc)
