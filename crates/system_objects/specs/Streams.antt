-- What the adapters do to a reader and to a writer, where those know their bytes.
use Rattle.std.specs.Prelude.{◌≡◌, ℕ, ◌<◌, ◌≤◌, List, [], length, take, Option, Result, Ok, Err, IfSome}
use Rattle.std.specs.Io.KnownBytes.{Appends}
use Rattle.saml_outside.specs.declared.reading.FileRead.{FileRead}
use Rattle.saml_outside.specs.declared.reading.FileRead.TheVariants as answers
use Rattle.saml_outside.specs.declared.writing.SinkFailed.{SinkFailed}

-- What reading to the end answers and leaves in `into`, by the bytes that the reader had left. A reader is there, so it
-- never answers Absent.
abbrev pub ReadsToEnd : Option (List ℕ) → ℕ → FileRead → List ℕ → Type 0
ReadsToEnd left limit answers.Whole into = (length into ≤ limit) × IfSome left (λ bytes. into ≡ bytes)
ReadsToEnd left limit answers.TooLong into = (into ≡ []) × IfSome left (λ bytes. limit < length bytes)
ReadsToEnd left limit answers.Failed into = into ≡ []
ReadsToEnd left limit answers.NoMemory into = into ≡ []
ReadsToEnd left limit answers.Absent into = ⊥

-- What sending a piece does to the bytes that the writer holds: after Ok all of the piece is behind them, after an error
-- the first `sent` bytes of it.
abbrev pub Sends : {X : Type 0} → Option (List ℕ) → Option (List ℕ) → List ℕ → Result X SinkFailed → Type 0
Sends old new piece (Ok _) = Appends old new piece
Sends old new piece (Err e) = (e.sent ≤ length piece) × Appends old new (take e.sent piece)
