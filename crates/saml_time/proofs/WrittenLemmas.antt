-- The form that is written tells the moment.
use Rattle.std.proofs.Common.{◌≡◌, ℕ, ◌+◌, ◌*◌, ◌/◌, ◌%◌, ◌<◌, ◌≤◌, List, [], ◌∷◌, Some, refl, arith}
use Rattle.std.proofs.lemmas.List.Elements.{All-from_recursion}
use Rattle.saml_time.specs.Instant.{Instant, IsDay, IsFraction, TellsInFull, days_of, digit, print}
use Rattle.saml_time.specs.Pieces.{clock_of, day_of}

-- three digits of a number below 1,000
abbrev pub three_digits : ℕ → List ℕ
three_digits n = (n / 100 % 10) ∷ (n / 10 % 10) ∷ (n / 1 % 10) ∷ []

IsFraction-three_digits : (n : ℕ) → IsFraction (Some (three_digits n))
IsFraction-three_digits n = (
  omega arith,
  omega arith,
  All-from_recursion (λ d. d ≤ 9) (three_digits n) (omega arith, (omega arith, (omega arith, tt))),
)

-- the instant with these numbers
abbrev pub instant_of : (year month day hour minute second fraction : ℕ) → Instant
instant_of year month day hour minute second fraction = record {
  day = day_of year month day;
  clock = clock_of hour minute second;
  fraction = Some (three_digits fraction);
}

-- its 24 bytes
abbrev pub written : (year month day hour minute second fraction : ℕ) → List ℕ
written year month day hour minute second fraction =
    digit year 1000 ∷ digit year 100 ∷ digit year 10 ∷ digit year 1 ∷ 45
    ∷ digit month 10 ∷ digit month 1 ∷ 45 ∷ digit day 10 ∷ digit day 1 ∷ 84
    ∷ digit hour 10 ∷ digit hour 1 ∷ 58 ∷ digit minute 10 ∷ digit minute 1 ∷ 58
    ∷ digit second 10 ∷ digit second 1 ∷ 46
    ∷ digit fraction 100 ∷ digit fraction 10 ∷ digit fraction 1 ∷ 90 ∷ []

written-print : (year month day hour minute second fraction : ℕ) → written year month day hour minute second fraction ≡ print (instant_of year month day hour minute second fraction)
written-print year month day hour minute second fraction =
    let hundreds : digit (fraction / 100 % 10) 1 ≡ digit fraction 100 = omega arith in
    let tens : digit (fraction / 10 % 10) 1 ≡ digit fraction 10 = omega arith in
    let ones : digit (fraction / 1 % 10) 1 ≡ digit fraction 1 = omega arith in
    rw (hundreds, tens, ones)

clock_sum : (seconds : ℕ) → seconds / 3600 * 3600 + seconds / 60 % 60 * 60 + seconds % 60 ≡ seconds
clock_sum seconds = omega arith

fraction_sum : (n : ℕ) → n < 1000 → 100 * (n / 100 % 10) + 10 * (n / 10 % 10) + n / 1 % 10 ≡ n
fraction_sum n h = omega arith

moment_sum : (ms : ℕ) → (ms / 86400000 * 86400 + ms % 86400000 / 1000) * 1000 + ms % 1000 ≡ ms
moment_sum ms = omega arith

pub tells : (year month day ms : ℕ) → IsDay (day_of year month day) → days_of (day_of year month day) ≡ ms / 86400000 → TellsInFull (written year month day (ms % 86400000 / 1000 / 3600) (ms % 86400000 / 1000 / 60 % 60) (ms % 86400000 / 1000 % 60) (ms % 1000)) ms
tells year month day ms valid days =
    let seconds = ms % 86400000 / 1000 in
    record {
      tells = record {
        instant = instant_of year month day (seconds / 3600) (seconds / 60 % 60) (seconds % 60) (ms % 1000);
        spells = record {
          valid = record {
            day = valid;
            clock = record { hour = omega arith; minute = omega arith; second = omega arith };
            fraction = IsFraction-three_digits (ms % 1000);
          };
          printed = written-print year month day (seconds / 3600) (seconds / 60 % 60) (seconds % 60) (ms % 1000);
        };
        means = rw (days, clock_sum seconds, fraction_sum (ms % 1000) (omega arith)) (moment_sum ms);
      };
      three = refl;
    }
