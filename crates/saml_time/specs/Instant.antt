-- The written form of an instant, as a grammar: the syntax, the bytes that it prints, which syntax is
-- valid, and the moment that it means. It is `dateTime` of XML Schema 1.1 Part 2, 3.3.7, as SAML narrows
-- it (SAML Core 2.0, 1.3.3): in UTC, without leap seconds. This project narrows it further: from 1970 to
-- 9999, always with `Z`, at most nine digits of a fraction, no 24:00:00, and milliseconds in the meaning.
use Rattle.std.specs.Prelude.{◌≡◌, ℕ, ◌+◌, ◌*◌, ◌/◌, ◌%◌, ◌≤◌, List, [], ◌∷◌, ◌++◌, map, length, slice_index, All, codes, Option, Some, None}
use Rattle.std.specs.Char.{IsAsciiGraphic}
use Rattle.saml_time.specs.declared.TheConstants.{LAST}
use Rattle.saml_time.specs.Calendar.{days_in_month, days_before}

-- a date: `YYYY-MM-DD`
pub record Day : Type 0 where
  pub year : ℕ
  pub month : ℕ
  pub day : ℕ

-- a time of day: `hh:mm:ss`
pub record Clock : Type 0 where
  pub hour : ℕ
  pub minute : ℕ
  pub second : ℕ

-- an instant: a date, a time of day, and the digits behind the point where there is one
pub record Instant : Type 0 where
  pub day : Day
  pub clock : Clock
  pub fraction : Option (List ℕ)

-- THE BYTES

-- the digit of n at the place that counts `place`
abbrev pub digit : ℕ → ℕ → ℕ
digit n place = 48 + n / place % 10

abbrev pub two_digits : ℕ → List ℕ
two_digits n = digit n 10 ∷ digit n 1 ∷ []

abbrev pub four_digits : ℕ → List ℕ
four_digits n = digit n 1000 ∷ digit n 100 ∷ digit n 10 ∷ digit n 1 ∷ []

-- `YYYY-MM-DD`
abbrev pub print_day : Day → List ℕ
print_day d =
    four_digits d.year ++ codes "-" ++ two_digits d.month ++ codes "-" ++ two_digits d.day

-- `hh:mm:ss`
abbrev pub print_clock : Clock → List ℕ
print_clock c =
    two_digits c.hour ++ codes ":" ++ two_digits c.minute ++ codes ":" ++ two_digits c.second

abbrev pub print_digits : List ℕ → List ℕ
print_digits digits = map (λ n. digit n 1) digits

-- nothing, or a point and the digits
abbrev pub print_fraction : Option (List ℕ) → List ℕ
print_fraction None = []
print_fraction (Some digits) = codes "." ++ print_digits digits

-- `YYYY-MM-DDThh:mm:ss`, the fraction, and `Z`
abbrev pub print : Instant → List ℕ
print i =
    print_day i.day ++ codes "T" ++ print_clock i.clock ++ print_fraction i.fraction ++ codes "Z"

-- WHAT IS VALID

-- a date of the civil calendar, from 1970 to 9999
pub record IsDay (d : Day) : Type 0 where
  pub first_year : 1970 ≤ d.year
  pub last_year : d.year ≤ 9999
  pub first_month : 1 ≤ d.month
  pub last_month : d.month ≤ 12
  pub first_day : 1 ≤ d.day
  pub last_day : d.day ≤ days_in_month d.year d.month

-- from 00:00:00 to 23:59:59
pub record IsClock (c : Clock) : Type 0 where
  pub hour : c.hour ≤ 23
  pub minute : c.minute ≤ 59
  pub second : c.second ≤ 59

-- one to nine digits, where there is a point
abbrev pub IsFraction : Option (List ℕ) → Type 0
IsFraction None = Unit {0}
IsFraction (Some digits) =
    (1 ≤ length digits) × (length digits ≤ 9) × All (λ n. n ≤ 9) digits

pub record IsInstant (i : Instant) : Type 0 where
  pub day : IsDay i.day
  pub clock : IsClock i.clock
  pub fraction : IsFraction i.fraction

-- a valid instant that prints these bytes
pub record Spells (bytes : List ℕ) (i : Instant) : Type 0 where
  pub valid : IsInstant i
  pub printed : bytes ≡ print i

-- WHAT IT MEANS

-- days since 1970-01-01
abbrev pub days_of : Day → ℕ
days_of d = days_before d.year d.month d.day

-- seconds since midnight
abbrev pub seconds_of : Clock → ℕ
seconds_of c = c.hour * 3600 + c.minute * 60 + c.second

-- the milliseconds of a fraction: its first three digits, where a digit that is not written is 0,
-- and the digits behind them are dropped
abbrev pub milliseconds_of : Option (List ℕ) → ℕ
milliseconds_of None = 0
milliseconds_of (Some digits) =
    100 * slice_index digits 0 + 10 * slice_index digits 1 + slice_index digits 2

-- milliseconds since 1970-01-01T00:00:00Z, each day having 86,400 seconds
abbrev pub moment : Instant → ℕ
moment i =
    (days_of i.day * 86400 + seconds_of i.clock) * 1000 + milliseconds_of i.fraction

-- some valid instant prints these bytes and means this moment
pub record Tells (bytes : List ℕ) (ms : ℕ) : Type 0 where
  pub instant : Instant
  pub spells : Spells bytes instant
  pub means : moment instant ≡ ms

-- THE FORM THAT IS WRITTEN

-- just three digits of a fraction
abbrev pub HasThreeDigits : Option (List ℕ) → Type 0
HasThreeDigits None = ⊥
HasThreeDigits (Some digits) = length digits ≡ 3

-- some valid instant with three digits of a fraction prints these bytes and means this moment
pub record TellsInFull (bytes : List ℕ) (ms : ℕ) : Type 0 where
  pub tells : Tells bytes ms
  pub three : HasThreeDigits tells.instant.fraction

-- THE LAWS

-- no bytes are printed by two valid instants
abbrev pub OneInstant : Type 0
OneInstant = (bytes : List ℕ) (one other : Instant) → Spells bytes one → Spells bytes other → one ≡ other

-- reading what was written gives the moment: each valid instant that prints it means that moment
abbrev pub ReadsBack : Type 0
ReadsBack = (bytes : List ℕ) (ms : ℕ) → TellsInFull bytes ms → (i : Instant) → Spells bytes i → moment i ≡ ms

-- each moment up to the last one is told in full by some text, in graphic characters of ASCII
abbrev pub EachIsTold : Type 0
EachIsTold = (ms : ℕ) → ms ≤ LAST → (text : List ℕ) × TellsInFull text ms × All IsAsciiGraphic text
