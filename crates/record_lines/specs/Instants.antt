-- A moment as it is printed: as an instant of SAML (SAML Core 2.0, 1.3.3), with three digits of a fraction.
use Rattle.std.specs.Prelude.{ℕ, zero, suc, ◌+◌, ◌/◌, ◌%◌, List, [], ◌∷◌, Some, nat_le, nat_lt, if◌then◌else◌, decimal}
use Rattle.saml_time.specs.declared.TheConstants.{LAST}
use Rattle.saml_time.specs.Calendar.{days_in_month}
use Rattle.saml_time.specs.Instant.{Day, Clock, Instant, print}

-- the day behind a day (ISO 8601:2004, 3.2.1)
abbrev pub next_day : Day → Day
next_day d =
    if nat_lt d.day (days_in_month d.year d.month) then record { year = d.year; month = d.month; day = d.day + 1 }
    else if nat_lt d.month 12 then record { year = d.year; month = d.month + 1; day = 1 }
    else record { year = d.year + 1; month = 1; day = 1 }

-- the day that comes so many days behind 1 January 1970
unfoldable pub day_at : ℕ → Day
day_at zero = record { year = 1970; month = 1; day = 1 }
day_at (suc n) = next_day (day_at n)

-- the time of day so many seconds behind midnight
abbrev pub clock_at : ℕ → Clock
clock_at seconds = record { hour = seconds / 3600; minute = seconds / 60 % 60; second = seconds % 60 }

-- the instant so many milliseconds behind 1970-01-01T00:00:00Z
abbrev pub instant_at : ℕ → Instant
instant_at ms = record {
  day = day_at (ms / 86400000);
  clock = clock_at (ms % 86400000 / 1000);
  fraction = Some ((ms % 1000 / 100) ∷ (ms % 1000 / 10 % 10) ∷ (ms % 10) ∷ []);
}

-- A moment or an end: the instant, or behind the last one that has a written form the number of milliseconds.
abbrev pub instant : ℕ → List ℕ
instant ms = if nat_le ms LAST then print (instant_at ms) else decimal ms
