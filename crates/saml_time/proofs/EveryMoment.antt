-- Each moment up to the last one has a written form: day follows upon day, to the last of the year 9999.
use Rattle.std.specs.Prelude.{Bool, true, false, if◌then◌else◌}
use Rattle.std.specs.Char.{IsAsciiGraphic}
use Rattle.std.proofs.Common.{◌≡◌, ◌⊎◌, inl, inr, ℕ, zero, suc, ◌+◌, ◌-◌, ◌*◌, ◌/◌, ◌%◌, ◌<◌, ◌≤◌, List, [], ◌∷◌, All, refl, sym, ap, subst, ◌∙◌, arith}
use Rattle.std.proofs.lemmas.Bool.{cases_lt}
use Rattle.std.proofs.lemmas.List.Elements.{All-from_recursion}
use Rattle.saml_time.specs.declared.TheConstants.{LAST}
use Rattle.saml_time.specs.Calendar.{is_leap_year, days_in_year, days_in_month, days_of_years, days_of_months}
use Rattle.saml_time.specs.Instant.{EachIsTold, IsDay, days_of}
use Rattle.saml_time.specs.Pieces.{day_of}
use Rattle.saml_time.proofs.WrittenLemmas.{tells, written}

either_least : (b : Bool) (least x y : ℕ) → least ≤ x → least ≤ y → least ≤ (if b then x else y)
either_least true least x y h k = h
either_least false least x y h k = k

least_month : (y m : ℕ) → 1 ≤ days_in_month y m
least_month y m = either_least _ 1 _ _ (either_least _ 1 29 28 (omega arith) (omega arith)) (either_least _ 1 30 31 (omega arith) (omega arith))

more_months : (y j : ℕ) → days_of_months y (suc j) ≡ days_of_months y j + days_in_month y (suc j)
unfolding days_of_months
more_months y j = refl

no_months : (y : ℕ) → days_of_months y 0 ≡ 0
unfolding days_of_months
no_months y = refl

more_years : (n : ℕ) → days_of_years (suc n) ≡ days_of_years n + days_in_year (1970 + n)
unfolding days_of_years
more_years n = refl

year_days : (y : ℕ) → days_of_months y 12 ≡ days_in_year y
unfolding days_of_months
year_days y =
    elim (is_leap_year y) as (λ (b : Bool). 0 + 31 + (if b then 29 else 28) + 31 + 30 + 31 + 30 + 31 + 31 + 30 + 31 + 30 + 31 ≡ (if b then 366 else 365)) [
      | true ↦ refl
      | false ↦ refl
    ]

last_year : days_of_years 8029 ≡ 2932532
unfolding days_of_years
last_year = refl

-- a day that lies so many days behind the first one
abbrev Lies : ℕ → Type 0
Lies n = (year : ℕ) × (month : ℕ) × (day : ℕ) × IsDay (day_of year month day) × (days_of (day_of year month day) ≡ n)

in_month : (n y m d : ℕ) → IsDay (day_of y m d) → days_of (day_of y m d) ≡ n → d < days_in_month y m → Lies (suc n)
in_month n y m d is at h = (
  y,
  m,
  suc d,
  record {
    first_year = is.first_year;
    last_year = is.last_year;
    first_month = is.first_month;
    last_month = is.last_month;
    first_day = omega arith;
    last_day = h;
  },
  omega (arith, at, is.first_day),
)

next_month : (n y m d : ℕ) → IsDay (day_of y m d) → days_of (day_of y m d) ≡ n → d ≡ days_in_month y m → m < 12 → Lies (suc n)
next_month n y m d is at full h =
    let j = m - 1 in
    let month : suc j ≡ m = omega (arith, is.first_month) in
    let months : days_of_months y m ≡ days_of_months y j + days_in_month y m = ap (days_of_months y) (sym month) ∙ more_months y j ∙ ap (λ (k : ℕ). days_of_months y j + days_in_month y k) month in
    let same : suc m - 1 ≡ m = omega arith in
    let here : days_of_months y (suc m - 1) ≡ days_of_months y m = ap (days_of_months y) same in (
      y,
      suc m,
      1,
      record {
        first_year = is.first_year;
        last_year = is.last_year;
        first_month = omega arith;
        last_month = h;
        first_day = omega arith;
        last_day = least_month y (suc m);
      },
      omega (arith, at, here, months, full, is.first_day),
    )

last_day : (n y d : ℕ) → 9999 ≤ y → IsDay (day_of y 12 d) → days_of (day_of y 12 d) ≡ n → d ≡ days_in_month y 12 → 2932896 ≤ n
last_day n y d late is at full =
    let last : y ≡ 9999 = omega (arith, is.last_year) in
    let december : days_in_month y 12 ≡ 31 = refl in
    let years : days_of_years (y - 1970) ≡ 2932532 = ap (λ (z : ℕ). days_of_years (z - 1970)) last ∙ last_year in
    let all : days_of_months y 11 + days_in_month y 12 ≡ 365 = sym (more_months y 11) ∙ year_days y ∙ ap days_in_year last in
    omega (arith, at, years, all, full, december)

next_year : (n y d : ℕ) → y < 9999 → IsDay (day_of y 12 d) → days_of (day_of y 12 d) ≡ n → d ≡ days_in_month y 12 → Lies (suc n)
next_year n y d early is at full =
    let k = y - 1970 in
    let year : 1970 + k ≡ y = omega (arith, is.first_year) in
    let years : days_of_years (suc k) ≡ days_of_years k + days_in_year y = more_years k ∙ ap (λ (z : ℕ). days_of_years k + days_in_year z) year in
    let months : days_in_year y ≡ days_of_months y 11 + days_in_month y 12 = sym (year_days y) ∙ more_months y 11 in
    let index : suc y - 1970 ≡ suc k = omega (arith, is.first_year) in
    let here : days_of_years (suc y - 1970) ≡ days_of_years (suc k) = ap days_of_years index in (
      suc y,
      1,
      1,
      record {
        first_year = omega (arith, is.first_year);
        last_year = early;
        first_month = omega arith;
        last_month = omega arith;
        first_day = omega arith;
        last_day = least_month (suc y) 1;
      },
      omega (arith, at, here, years, months, full, is.first_day, no_months (suc y)),
    )

turn_of_year : (n y d : ℕ) → (y < 9999) ⊎ (9999 ≤ y) → IsDay (day_of y 12 d) → days_of (day_of y 12 d) ≡ n → d ≡ days_in_month y 12 → n < 2932896
    → Lies (suc n)
turn_of_year n y d (inl early) is at full h = next_year n y d early is at full
turn_of_year n y d (inr late) is at full h = absurd (omega (arith, last_day n y d late is at full, h))

turn_of_month : (n y m d : ℕ) → (m < 12) ⊎ (12 ≤ m) → IsDay (day_of y m d) → days_of (day_of y m d) ≡ n → d ≡ days_in_month y m → n < 2932896 → Lies (suc n)
turn_of_month n y m d (inl early) is at full h = next_month n y m d is at full early
turn_of_month n y m d (inr late) is at full h =
    let last : m ≡ 12 = omega (arith, is.last_month) in
    turn_of_year n y d (cases_lt y 9999) (subst (λ (k : ℕ). IsDay (day_of y k d)) last is)
    (ap (λ (k : ℕ). days_of (day_of y k d)) (sym last) ∙ at) (full ∙ ap (days_in_month y) last) h

next : (n y m d : ℕ) → (d < days_in_month y m) ⊎ (days_in_month y m ≤ d) → IsDay (day_of y m d) → days_of (day_of y m d) ≡ n → n < 2932896 → Lies (suc n)
next n y m d (inl within) is at h = in_month n y m d is at within
next n y m d (inr full) is at h = turn_of_month n y m d (cases_lt m 12) is at (omega (arith, full, is.last_day)) h

first_day : days_of (day_of 1970 1 1) ≡ 0
unfolding days_of_years days_of_months
first_day = refl

each_day : (n : ℕ) → n ≤ 2932896 → Lies n
each_day zero h = (
  1970,
  1,
  1,
  record {
    first_year = omega arith;
    last_year = omega arith;
    first_month = omega arith;
    last_month = omega arith;
    first_day = omega arith;
    last_day = omega arith;
  },
  first_day,
)
each_day (suc n) h =
    let (y, m, d, is, at) = each_day n (omega arith) in
    next n y m d (cases_lt d (days_in_month y m)) is at h

graphic : (year month day hour minute second fraction : ℕ) → All IsAsciiGraphic (written year month day hour minute second fraction)
graphic year month day hour minute second fraction =
    All-from_recursion IsAsciiGraphic (written year month day hour minute second fraction) (
      omega arith,
      (
        omega arith,
        (
          omega arith,
          (
            omega arith,
            (
              omega arith,
              (
                omega arith,
                (
                  omega arith,
                  (
                    omega arith,
                    (
                      omega arith,
                      (
                        omega arith,
                        (
                          omega arith,
                          (
                            omega arith,
                            (
                              omega arith,
                              (
                                omega arith,
                                (
                                  omega arith,
                                  (
                                    omega arith,
                                    (
                                      omega arith,
                                      (
                                        omega arith,
                                        (
                                          omega arith,
                                          (
                                            omega arith,
                                            (
                                              omega arith,
                                              (
                                                omega arith,
                                                (
                                                  omega arith,
                                                  (
                                                    omega arith,
                                                    tt,
                                                  ),
                                                ),
                                              ),
                                            ),
                                          ),
                                        ),
                                      ),
                                    ),
                                  ),
                                ),
                              ),
                            ),
                          ),
                        ),
                      ),
                    ),
                  ),
                ),
              ),
            ),
          ),
        ),
      ),
    )

pub each_is_told : EachIsTold
each_is_told ms h =
    let (year, month, day, is, at) = each_day (ms / 86400000) (omega arith) in
    let seconds = ms % 86400000 / 1000 in (
      written year month day (seconds / 3600) (seconds / 60 % 60) (seconds % 60) (ms % 1000),
      tells year month day ms is at,
      graphic year month day (seconds / 3600) (seconds / 60 % 60) (seconds % 60) (ms % 1000),
    )
