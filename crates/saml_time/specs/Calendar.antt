-- The civil calendar: the Gregorian one (ISO 8601:2004, 3.2.1), as a count of days from 1 January 1970.
-- `timeOnTimeline` of XML Schema 1.1 Part 2, appendix E.3, is the same count from the year 1.
use Rattle.std.specs.Prelude.{ℕ, zero, suc, ◌+◌, ◌-◌, ◌%◌, Bool, not, ◌&&◌, ◌||◌, ◌==◌, if◌then◌else◌}

-- A leap year is divisible by 4, and not by 100 unless by 400 (ISO 8601:2004, 3.2.1).
abbrev pub is_leap_year : ℕ → Bool
is_leap_year year = (year % 4 == 0) && (not (year % 100 == 0) || (year % 400 == 0))

-- A common year has 365 days, and a leap year one more.
abbrev pub days_in_year : ℕ → ℕ
days_in_year year = if is_leap_year year then 366 else 365

-- April, June, September and November have 30 days, February 28 or in a leap year 29, and each other
-- month 31 (`daysInMonth` of XML Schema 1.1 Part 2, appendix E.3).
abbrev pub days_in_month : ℕ → ℕ → ℕ
days_in_month year month =
    if month == 2 then (if is_leap_year year then 29 else 28)
    else (if (month == 4) || (month == 6) || (month == 9) || (month == 11) then 30 else 31)

-- the days of the first n years from 1970 on
unfoldable pub days_of_years : ℕ → ℕ
days_of_years zero = 0
days_of_years (suc n) = days_of_years n + days_in_year (1970 + n)

-- the days of the first n months of a year
unfoldable pub days_of_months : ℕ → ℕ → ℕ
days_of_months year zero = 0
days_of_months year (suc n) = days_of_months year n + days_in_month year (suc n)

-- how many days lie between 1 January 1970 and this date
abbrev pub days_before : ℕ → ℕ → ℕ → ℕ
days_before year month day =
    days_of_years (year - 1970) + days_of_months year (month - 1) + (day - 1)
