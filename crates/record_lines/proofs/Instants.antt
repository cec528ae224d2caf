-- The instant that is written for a moment is that of the definition.
use Rattle.std.specs.Prelude.{nat_lt, if◌then◌else◌, Bool, true, false, Option, None, Some}
use Rattle.std.proofs.Common.{◌≡◌, ℕ, zero, suc, ◌+◌, ◌-◌, ◌*◌, ◌/◌, ◌%◌, ◌<◌, ◌≤◌, List, [], ◌∷◌, refl, sym, ap, ◌∙◌, arith}
use Rattle.std.proofs.lemmas.Bool.Decides.{nat_tests}
use Rattle.std.proofs.lemmas.List.Elements.{All-head, All-tail}
use Rattle.saml_time.specs.Calendar.{is_leap_year, days_in_year, days_in_month, days_of_years, days_of_months}
use Rattle.saml_time.specs.Instant.{Day, Clock, Instant, IsDay, IsClock, IsFraction, HasThreeDigits, TellsInFull, days_of, seconds_of, milliseconds_of, print}
use Rattle.saml_time.specs.Pieces.{day_of, clock_of}
use Rattle.record_lines.specs.Instants.{next_day, day_at, instant_at}

-- ---- from a day to the next one

first_day : day_at 0 ≡ day_of 1970 1 1
unfolding day_at
first_day = refl

step : (n : ℕ) → day_at (suc n) ≡ next_day (day_at n)
unfolding day_at
step n = refl

either_least : (b : Bool) (least x y : ℕ) → least ≤ x → least ≤ y → least ≤ (if b then x else y)
either_least true least x y h k = h
either_least false least x y h k = k

least_month : (y m : ℕ) → 1 ≤ days_in_month y m
least_month y m = either_least _ 1 _ _ (either_least _ 1 29 28 (omega arith) (omega arith)) (either_least _ 1 30 31 (omega arith) (omega arith))

next_in_month : (y m k : ℕ) → k < days_in_month y m → next_day (day_of y m k) ≡ day_of y m (suc k)
next_in_month y m k h =
    let is : nat_lt k (days_in_month y m) ≡ true = grind (arith, nat_tests) in
    let same : k + 1 ≡ suc k = omega arith in
    rw is (ap (day_of y m) same)

next_month : (y m : ℕ) → m < 12 → next_day (day_of y m (days_in_month y m)) ≡ day_of y (suc m) 1
next_month y m h =
    let not : nat_lt (days_in_month y m) (days_in_month y m) ≡ false = grind (arith, nat_tests) in
    let is : nat_lt m 12 ≡ true = grind (arith, nat_tests) in
    let same : m + 1 ≡ suc m = omega arith in
    rw not (rw is (ap (λ (k : ℕ). day_of y k 1) same))

next_year : (y : ℕ) → next_day (day_of y 12 31) ≡ day_of (y + 1) 1 1
next_year y = refl

-- ---- the days of a month, the months of a year, the years

in_month : (y m before k : ℕ) → day_at before ≡ day_of y m 1 → k < days_in_month y m → day_at (before + k) ≡ day_of y m (suc k)
in_month y m before zero start h = let same : before + 0 ≡ before = omega arith in ap day_at same ∙ start
in_month y m before (suc k) start h =
    let same : before + suc k ≡ suc (before + k) = omega arith in
    ap day_at same ∙ step (before + k) ∙ ap next_day (in_month y m before k start (omega arith)) ∙ next_in_month y m (suc k) h

no_months : (y : ℕ) → days_of_months y 0 ≡ 0
unfolding days_of_months
no_months y = refl

more_months : (y j : ℕ) → days_of_months y (suc j) ≡ days_of_months y j + days_in_month y (suc j)
unfolding days_of_months
more_months y j = refl

at_month : (y before j : ℕ) → day_at before ≡ day_of y 1 1 → j < 12 → day_at (before + days_of_months y j) ≡ day_of y (suc j) 1
at_month y before zero start h = let same : before + days_of_months y 0 ≡ before = omega (arith, no_months y) in ap day_at same ∙ start
at_month y before (suc j) start h =
    let days = days_in_month y (suc j) in
    let some : 1 ≤ days = least_month y (suc j) in
    let here = at_month y before j start (omega arith) in
    let last = in_month y (suc j) (before + days_of_months y j) (days - 1) here (omega arith) in
    let all : suc (days - 1) ≡ days = omega arith in
    let same : before + days_of_months y (suc j) ≡ suc (before + days_of_months y j + (days - 1)) = omega (arith, more_months y j, some) in
    ap day_at same ∙ step (before + days_of_months y j + (days - 1)) ∙ ap next_day (last ∙ ap (day_of y (suc j)) all) ∙ next_month y (suc j) h

year_days : (y : ℕ) → days_of_months y 12 ≡ days_in_year y
unfolding days_of_months
year_days y =
    elim (is_leap_year y) as (λ (b : Bool). 0 + 31 + (if b then 29 else 28) + 31 + 30 + 31 + 30 + 31 + 31 + 30 + 31 + 30 + 31 ≡ (if b then 366 else 365)) [
      | true ↦ refl
      | false ↦ refl
    ]

more_years : (n : ℕ) → days_of_years (suc n) ≡ days_of_years n + days_in_year (1970 + n)
unfolding days_of_years
more_years n = refl

at_year : (n : ℕ) → day_at (days_of_years n) ≡ day_of (1970 + n) 1 1
unfolding days_of_years
at_year zero = first_day
at_year (suc n) =
    let y = 1970 + n in
    let before = days_of_years n in
    let december = at_month y before 11 (at_year n) (omega arith) in
    let last = in_month y 12 (before + days_of_months y 11) 30 december (omega arith) in
    let same : days_of_years (suc n) ≡ suc (before + days_of_months y 11 + 30) = omega (arith, more_years n, year_days y, more_months y 11) in
    let next : y + 1 ≡ 1970 + suc n = omega arith in
    ap day_at same ∙ step (before + days_of_months y 11 + 30) ∙ ap next_day last ∙ next_year y ∙ ap (λ (k : ℕ). day_of k 1 1) next

-- a day of the calendar is the one that comes so many days behind the first as it counts
the_day : (d : Day) → IsDay d → day_at (days_of d) ≡ d
the_day d is =
    let y = d.year in
    let n = y - 1970 in
    let j = d.month - 1 in
    let k = d.day - 1 in
    let year : 1970 + n ≡ y = omega (arith, is.first_year) in
    let month : suc j ≡ d.month = omega (arith, is.first_month) in
    let day : suc k ≡ d.day = omega (arith, is.first_day) in
    let within : k < days_in_month y (suc j) = rw month (omega (arith, is.first_day, is.last_day)) in
    let first = at_month y (days_of_years n) j (at_year n ∙ ap (λ (z : ℕ). day_of z 1 1) year) (omega (arith, is.last_month, is.first_month)) in
    let here = in_month y (suc j) (days_of_years n + days_of_months y j) k first within in
    here ∙ ap (λ (m : ℕ). day_of y m (suc k)) month ∙ ap (day_of y d.month) day

-- ---- an instant

abbrev of : Day → Clock → Option (List ℕ) → Instant
of day clock fraction = record { day = day; clock = clock; fraction = fraction }

same_instant : (d : Day) (c : Clock) (f : Option (List ℕ)) (ms : ℕ) → IsDay d → IsClock c → IsFraction f → HasThreeDigits f
    → (days_of d * 86400 + seconds_of c) * 1000 + milliseconds_of f ≡ ms → of d c f ≡ instant_at ms
same_instant d c None ms day clock fraction three e = absurd three
same_instant d c (Some []) ms day clock fraction three e = absurd (omega arith)
same_instant d c (Some (x ∷ [])) ms day clock fraction three e = absurd (omega arith)
same_instant d c (Some (x ∷ y ∷ [])) ms day clock fraction three e = absurd (omega arith)
same_instant d c (Some (x ∷ y ∷ z ∷ w ∷ rest)) ms day clock fraction three e = absurd (omega arith)
same_instant d c (Some (x ∷ y ∷ z ∷ [])) ms day clock fraction three e =
    let below = fraction.2 in
    let x_is : x ≤ 9 = All-head (λ n. n ≤ 9) x (y ∷ z ∷ []) below in
    let y_is : y ≤ 9 = All-head (λ n. n ≤ 9) y (z ∷ []) (All-tail (λ n. n ≤ 9) x (y ∷ z ∷ []) below) in
    let z_is : z ≤ 9 = All-head (λ n. n ≤ 9) z [] (All-tail (λ n. n ≤ 9) y (z ∷ []) (All-tail (λ n. n ≤ 9) x (y ∷ z ∷ []) below)) in
    let seconds = c.hour * 3600 + c.minute * 60 + c.second in
    let whole : (days_of d * 86400 + seconds) * 1000 + (100 * x + 10 * y + z) ≡ ms = e in
    let short : seconds < 86400 = omega (arith, clock.hour, clock.minute, clock.second) in
    let days : days_of d ≡ ms / 86400000 = omega arith in
    let time : seconds ≡ ms % 86400000 / 1000 = omega arith in
    let hour : c.hour ≡ ms % 86400000 / 1000 / 3600 = omega (arith, ap (λ s. s / 3600) time, clock.hour, clock.minute, clock.second) in
    let minute : c.minute ≡ ms % 86400000 / 1000 / 60 % 60 = omega (arith, ap (λ s. s / 60 % 60) time, clock.hour, clock.minute, clock.second) in
    let second : c.second ≡ ms % 86400000 / 1000 % 60 = omega (arith, ap (λ s. s % 60) time, clock.hour, clock.minute, clock.second) in
    let first : x ≡ ms % 1000 / 100 = omega arith in
    let next : y ≡ ms % 1000 / 10 % 10 = omega arith in
    let last : z ≡ ms % 10 = omega arith in
    let day' = day_at (ms / 86400000) in
    let clock' = clock_of (ms % 86400000 / 1000 / 3600) (ms % 86400000 / 1000 / 60 % 60) (ms % 86400000 / 1000 % 60) in
    let x' = ms % 1000 / 100 in
    let y' = ms % 1000 / 10 % 10 in
    let same_day : d ≡ day' = sym (the_day d day) ∙ ap day_at days in
    let same_clock : c ≡ clock' =
    ap (λ (h : ℕ). clock_of h c.minute c.second) hour ∙ ap (λ (m : ℕ). clock_of (ms % 86400000 / 1000 / 3600) m c.second) minute
    ∙ ap (clock_of (ms % 86400000 / 1000 / 3600) (ms % 86400000 / 1000 / 60 % 60)) second in
    ap (λ (d' : Day). of d' c (Some (x ∷ y ∷ z ∷ []))) same_day
    ∙ ap (λ (c' : Clock). of day' c' (Some (x ∷ y ∷ z ∷ []))) same_clock
    ∙ ap (λ (n : ℕ). of day' clock' (Some (n ∷ y ∷ z ∷ []))) first
    ∙ ap (λ (n : ℕ). of day' clock' (Some (x' ∷ n ∷ z ∷ []))) next
    ∙ ap (λ (n : ℕ). of day' clock' (Some (x' ∷ y' ∷ n ∷ []))) last

pub written_instant : (bytes : List ℕ) (ms : ℕ) → TellsInFull bytes ms → bytes ≡ print (instant_at ms)
written_instant bytes ms full =
    let i = full.tells.instant in
    let valid = full.tells.spells.valid in
    full.tells.spells.printed ∙ ap print (same_instant i.day i.clock i.fraction ms valid.day valid.clock valid.fraction full.three full.tells.means)
