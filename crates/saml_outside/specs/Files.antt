-- Files, and what reading one of them answers.
use Rattle.std.specs.Prelude.{◌≡◌, ℕ, ◌<◌, ◌≤◌, ◌⊎◌, List, [], length, Option, None, Some, IfSome, IsSomeAnd, nat_lt, if◌then◌else◌}
use Rattle.std.specs.List.{find}
use Rattle.std.specs.Option.{option_map}
use Rattle.std.specs.Str.{bytes_eq}
use Rattle.saml_outside.specs.declared.reading.FileRead.{FileRead}
use Rattle.saml_outside.specs.declared.reading.FileRead.TheVariants.{Whole, Absent, TooLong, Failed, NoMemory}

-- a file: its name, in UTF-8, and what it holds
pub record File : Type 0 where
  pub name : List ℕ
  pub bytes : List ℕ

-- What the file of that name holds: the first of that name in the list. None where no file has it.
abbrev pub bytes_of : List File → List ℕ → Option (List ℕ)
bytes_of files name = option_map (λ f. f.bytes) (find (λ f. bytes_eq f.name name) files)

-- What `read_all` may answer and leave in `into`, by what the object tells that it holds. A Failed asks for a count
-- that rose too, which is a clause of its own. So where the object tells and its count did not rise, the answer is the
-- one that the content determines, or NoMemory.
abbrev pub Reads : Option (List File) → List ℕ → ℕ → FileRead → List ℕ → Type 0
Reads told name limit Whole into = (length into ≤ limit) × IfSome told (λ files. bytes_of files name ≡ Some into)
Reads told name limit Absent into = (into ≡ []) × IfSome told (λ files. bytes_of files name ≡ None)
Reads told name limit TooLong into =
    (into ≡ []) × IfSome told (λ files. IsSomeAnd (bytes_of files name) (λ bytes. limit < length bytes))
Reads told name limit Failed into = into ≡ []
Reads told name limit NoMemory into = into ≡ []

-- reading this file of at most this many bytes answered that it can't be used
abbrev pub IsUnread : Option (List File) → List ℕ → ℕ → Type 0
IsUnread told name limit = Reads told name limit Absent [] ⊎ Reads told name limit TooLong []

-- The answer that the content determines, and what it leaves in `into`.
abbrev pub answer_of : Option (List ℕ) → ℕ → FileRead × List ℕ
answer_of None limit = (Absent, [])
answer_of (Some bytes) limit = if nat_lt limit (length bytes) then (TooLong, []) else (Whole, bytes)
