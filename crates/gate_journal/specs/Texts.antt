-- What is read of a file of a journal where it lies.
use Rattle.std.specs.Prelude.{ℕ, List, [], Result, Ok, Err}
use Rattle.gate_journal.specs.Format.{Committed, payloads_from}
use Rattle.gate_journal.specs.declared.header.Header.{Header}

-- The payloads that are still to come, and the place of the length of the first of them: behind the last one, that of the
-- end.
pub record Coming : Type 0 where
  pub place : ℕ
  pub payloads : List (List ℕ)

-- the payloads, where no fault comes
abbrev pub sound_payloads : Result (List (List ℕ)) ℕ → List (List ℕ)
sound_payloads (Ok payloads) = payloads
sound_payloads (Err place) = []

-- What is still to come behind a gate, where these bodies stand at this place.
abbrev pub coming : ℕ → ℕ → ℕ → List ℕ → Coming
coming longest place gate bodies =
    record { place = place; payloads = sound_payloads (payloads_from longest place gate bodies) }

-- a committed file with these payloads
abbrev pub committed : ℕ → Header → Coming → Committed
committed version header payloads = record { version = version; header = header; payloads = payloads.payloads }
