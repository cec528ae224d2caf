-- Values that the standards and the calendar give, so that a wrong definition does not check.
use Rattle.std.specs.Prelude.{◌≡◌, [], ◌∷◌, map, true, false, codes, Some, None, refl}
use Rattle.saml_time.specs.Calendar.{days_in_month, is_leap_year, days_of_years, days_of_months}
use Rattle.saml_time.specs.Instant.{Instant, print, moment}

pub leap_years : map is_leap_year (1900 ∷ 2000 ∷ 2023 ∷ 2024 ∷ 2100 ∷ []) ≡ false ∷ true ∷ false ∷ true ∷ false ∷ []
leap_years = refl

-- the length of February
pub februaries : map (λ year. days_in_month year 2) (2000 ∷ 2023 ∷ 2024 ∷ 2100 ∷ []) ≡ 29 ∷ 28 ∷ 29 ∷ 28 ∷ []
februaries = refl

-- four hundred years have 146,097 days
pub four_centuries : days_of_years 400 ≡ 146097
unfolding days_of_years
four_centuries = refl

-- 2024-01-01T00:00:00.1239Z
abbrev example : Instant
example = record {
  day = record { year = 2024; month = 1; day = 1 };
  clock = record { hour = 0; minute = 0; second = 0 };
  fraction = Some (1 ∷ 2 ∷ 3 ∷ 9 ∷ []);
}

pub example_printed : print example ≡ codes "2024-01-01T00:00:00.1239Z"
example_printed = refl

pub example_moment : moment example ≡ 1704067200123
unfolding days_of_years days_of_months
example_moment = refl

-- 1970-01-01T00:00:00Z
abbrev epoch : Instant
epoch = record {
  day = record { year = 1970; month = 1; day = 1 };
  clock = record { hour = 0; minute = 0; second = 0 };
  fraction = None;
}

pub epoch_printed : print epoch ≡ codes "1970-01-01T00:00:00Z"
epoch_printed = refl

pub epoch_moment : moment epoch ≡ 0
unfolding days_of_years days_of_months
epoch_moment = refl

-- 9999-12-31T23:59:59.999Z
abbrev last : Instant
last = record {
  day = record { year = 9999; month = 12; day = 31 };
  clock = record { hour = 23; minute = 59; second = 59 };
  fraction = Some (9 ∷ 9 ∷ 9 ∷ []);
}

pub last_printed : print last ≡ codes "9999-12-31T23:59:59.999Z"
last_printed = refl

pub last_moment : moment last ≡ 253402300799999
unfolding days_of_years days_of_months
last_moment = refl
