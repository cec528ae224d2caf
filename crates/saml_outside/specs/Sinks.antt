-- What a sink has taken.
use Rattle.std.specs.Prelude.{◌≡◌, ℕ, ◌≤◌, List, ◌++◌, length, take, Option, Result, Ok, Err}
use Rattle.std.specs.Option.{option_map}
use Rattle.saml_outside.specs.declared.writing.SinkFailed.{SinkFailed}

-- What was taken, with these bytes at its end. A sink that does not tell goes on not telling.
abbrev pub then_bytes : Option (List ℕ) → List ℕ → Option (List ℕ)
then_bytes taken bytes = option_map (λ before. before ++ bytes) taken

-- What a `put` of a piece did: after Ok all of the piece was appended, after an error the first `sent` bytes of it. An
-- error asks for a count that rose too, which is a clause of its own.
abbrev pub Puts : {X : Type 0} → Option (List ℕ) → List ℕ → Result X SinkFailed → Option (List ℕ) → Type 0
Puts before piece (Ok _) after = after ≡ then_bytes before piece
Puts before piece (Err e) after = (e.sent ≤ length piece) × (after ≡ then_bytes before (take e.sent piece))
