-- What reading a file leads to.
use Rattle.std.specs.Prelude.{◌≡◌, ℕ, ◌⊎◌, List, Option}
use Rattle.saml_outside.specs.Files.{File, IsUnread, Reads}
use Rattle.saml_outside.specs.declared.reading.FileRead.TheVariants as reads
use Rattle.saml_commands.specs.Answers.{Answer, BadFile}

-- A file of at most this many bytes is answered with what its bytes ask for, by what the files tell; one that is absent or
-- too long can't be used.
abbrev pub OfFile : (List ℕ → Answer → Type 0) → Option (List File) → List ℕ → ℕ → Answer → Type 0
OfFile meaning told file limit answer =
    ((bytes : List ℕ) × Reads told file limit reads.Whole bytes × meaning bytes answer)
    ⊎ (IsUnread told file limit × (answer ≡ BadFile file 0))
