-- The count of days since 1970 is jiff's, which counts from the year -10000.
use Rattle.std.proofs.Common.{◌≡◌, ℕ, zero, suc, ◌+◌, ◌-◌, ◌≤◌, refl, ap, ◌∙◌, arith, pos, ◌≤ℤ◌}
use Rattle.std.proofs.lemmas.Int.{by_lt_z}
use Rattle.jiff_core.specs.declared.civil.date.Date.{Date}
use Rattle.jiff_core.specs.Calendar as jiff
use Rattle.jiff_core.specs.Date.{epoch_day}
use Rattle.jiff_core.proofs.SignedLemmas.{one_part, signed_arith}
use Rattle.jiff_core.proofs.MarchLemmas.{days_in_year-leap_day, days_of_years-suc, leap_day, leap_day-shift}
use Rattle.jiff_core.proofs.CalendarLemmas.{day_count-lt_year, days_of_months-zero, day_count-epoch, days_from_civil-day_count}
use Rattle.jiff_core.proofs.DateLemmas.{civil}
use Rattle.saml_time.specs.Calendar.{days_in_year, days_in_month, days_of_years, days_of_months, days_before}
use Rattle.saml_time.specs.Instant.{IsDay, days_of}
use Rattle.saml_time.specs.Pieces.{day_of}
use borrow.Author.Differences.{up}

days_of_months-jiff : (year n : ℕ) → jiff.days_of_months (pos year) n ≡ days_of_months year n
unfolding jiff.days_of_months days_of_months
days_of_months-jiff year zero = refl
days_of_months-jiff year (suc n) = ap (λ days. days + days_in_month year (suc n)) (days_of_months-jiff year n)

days_of_years-none : days_of_years 0 ≡ 0
unfolding days_of_years
days_of_years-none = refl

days_of_years-more : (n : ℕ) → days_of_years (suc n) ≡ days_of_years n + days_in_year (1970 + n)
unfolding days_of_years
days_of_years-more n = refl

days_in_year-jiff : (n : ℕ) → days_in_year (1970 + n) ≡ 365 + leap_day (pos (n + 11970))
days_in_year-jiff n = days_in_year-leap_day (pos (1970 + n)) ∙ ap (λ day. 365 + day) (leap_day-shift (pos (1970 + n)) (n + 11970) (omega (arith, signed_arith)))

days_of_years-jiff : (start n : ℕ) → start ≡ 11970 → jiff.days_of_years (n + start) ≡ jiff.days_of_years start + days_of_years n
days_of_years-jiff start zero e = let none : 0 + start ≡ start = omega arith in rw none (omega (arith, days_of_years-none))
days_of_years-jiff start (suc n) e =
    let next : suc n + start ≡ suc (n + start) = omega arith in
    let same : n + start ≡ n + 11970 = omega arith in
    rw next
    (omega (arith, days_of_years-jiff start n e, days_of_years-suc (n + start), days_of_years-more n, days_in_year-jiff n, ap (λ k. leap_day (pos k)) same))

day_count-jiff : (year month day : ℕ) → 1970 ≤ year → 1 ≤ day → jiff.day_count (pos year) month day ≡ jiff.day_count (pos 1970) 1 1 + days_before year month day
unfolding jiff.day_count
day_count-jiff year month day from first =
    let shift : year + 10000 ≡ year - 1970 + 11970 = omega arith in
    rw (shift, days_of_months-jiff year (month - 1))
    (omega (arith, days_of_years-jiff 11970 (year - 1970) refl, days_of_months-zero (pos 1970)))

-- jiff's day number of a date from 1970 on
pub days_from_civil-days_before : (year month day : ℕ) → 1970 ≤ year → 1 ≤ day → jiff.days_from_civil (pos year) month day ≡ pos (days_before year month day)
unfolding jiff.days_from_civil
days_from_civil-days_before year month day from first =
    let count = day_count-jiff year month day from first in
    rw count (omega (arith, signed_arith))

from_1970 : (d : Date) (n : ℕ) → epoch_day d ≡ pos n → pos 1970 ≤ℤ d.year
from_1970 d n e =
    by_lt_z d.year (pos 1970)
    (λ lt. absurd (omega (arith, signed_arith, days_from_civil-day_count d.year d.month d.day, days_from_civil-day_count (pos 1970) 1 1, day_count-lt_year d.year d.month d.day (pos 1970) 1 1 (civil d) (omega arith) lt, day_count-epoch)))
    (λ le. le)

-- a date that does not lie before 1970-01-01 has a year without a sign
pub year_of : (d : Date) (n : ℕ) → epoch_day d ≡ pos n → (year : ℕ) × (d.year ≡ pos year) × (1970 ≤ year)
year_of d n e =
    let from = from_1970 d n e in
    (up d.year, omega (arith, signed_arith, one_part d.year), omega (arith, signed_arith))

-- a date of jiff from 1970 on is valid here, and has the same day number
pub is_day : (d : Date) (year month day : ℕ) → d.year ≡ pos year → d.month ≡ month → d.day ≡ day → 1970 ≤ year → IsDay (day_of year month day) × (epoch_day d ≡ pos (days_of (day_of year month day)))
is_day d year month day same_year same_month same_day from =
    let range = d.year_in in
    let last : day ≤ days_in_month year month = rw (same_year, same_month, same_day) at d.day_in.1 in (
      record {
        first_year = from;
        last_year = omega (arith, signed_arith);
        first_month = omega (arith, d.month_in.0);
        last_month = omega (arith, d.month_in.1);
        first_day = omega (arith, d.day_in.0);
        last_day = last;
      },
      rw (same_year, same_month, same_day) (days_from_civil-days_before year month day from (omega (arith, d.day_in.0))),
    )
