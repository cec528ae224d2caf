-- What the readers of the pieces of an instant promise. A piece stands in front of a text, and a reader
-- gives what it means and the text behind it.
use Rattle.std.specs.Prelude.{◌≡◌, ℕ, List, ◌++◌, All, Option, Some, option_map}
use Rattle.std.specs.Char.{IsAsciiDigit}
use Rattle.std.specs.Borrow.{Bor}
use Rattle.saml_time.specs.Instant.{Clock, Day, IsFraction, milliseconds_of, print_digits}

-- what was read, with the text behind the reference
abbrev pub read_of : {V : Type 0} → Option (V × Bor (List ℕ)) → Option (V × List ℕ)
read_of r = option_map (λ p. (p.0, p.1.now)) r

-- the value is what some valid piece means, and the text is that piece and the rest
abbrev pub Found : {A V : Type 0} → (A → Type 0) → (A → List ℕ) → (A → V) → List ℕ → V → List ℕ → Type 0
Found {A} IsPiece print meaning text value rest =
    (a : A) × IsPiece a × (text ≡ print a ++ rest) × (meaning a ≡ value)

-- whatever valid piece the text begins with, it was found
abbrev pub FindsEach : {A V : Type 0} → (A → Type 0) → (A → List ℕ) → (A → V) → List ℕ → Option (V × List ℕ) → Type 0
FindsEach {A} IsPiece print meaning text r =
    (a : A) (rest : List ℕ) → IsPiece a → text ≡ print a ++ rest → r ≡ Some (meaning a, rest)

-- bytes that are decimal digits
abbrev pub AllDigits : List ℕ → Type 0
AllDigits bytes = All IsAsciiDigit bytes

-- the bytes show the digits of a valid fraction with these milliseconds
abbrev pub ShowsDigits : List ℕ → ℕ → Type 0
ShowsDigits bytes ms =
    (digits : List ℕ) × IsFraction (Some digits) × (bytes ≡ print_digits digits)
    × (milliseconds_of (Some digits) ≡ ms)

-- the date with these numbers
abbrev pub day_of : ℕ → ℕ → ℕ → Day
day_of year month day = record { year = year; month = month; day = day }

-- the time of day with these numbers
abbrev pub clock_of : ℕ → ℕ → ℕ → Clock
clock_of hour minute second = record { hour = hour; minute = minute; second = second }
