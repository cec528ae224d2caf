-- The moment of a text that tells one is computed.
use Rattle.std.proofs.Common.{◌≡◌, ℕ, ◌+◌, ◌-◌, ◌*◌, ◌≤◌, ◌<◌, Bool, true, false, cond, ◌&&◌, nat_le, List, [], ◌∷◌, length, length-append, map, take, drop, All, Option, Some, None, refl, sym, ap, ◌∙◌, arith}
use Rattle.std.specs.Prelude.{IfSome}
use Rattle.std.specs.List.{list_all}
use Rattle.std.specs.Str.{bytes_eq}
use Rattle.std.proofs.lemmas.Bool.{le-leb, lt-leb}
use Rattle.std.proofs.lemmas.List.{length-map, take_at}
use Rattle.std.proofs.lemmas.Slice.Eq.{bytes_eq-Decides}
use Rattle.std.proofs.lemmas.List.Elements.{All-head, All-tail}
use Rattle.xml_spec.proofs.Tests.{and_true}
use Rattle.saml_time.specs.Calendar.{days_in_month}
use Rattle.saml_time.specs.Instant.{Day, Clock, Instant, IsDay, IsClock, IsFraction, IsInstant, Spells, Tells, digit, print, print_digits, moment}
use Rattle.saml_time.proofs.FractionLemmas.{digits_of-print_digits}
use Rattle.assertion_model.specs.Instants.{is_between, is_day, is_clock, is_fraction, fraction_of, shown, moment_of}
use Rattle.assertion_model.proofs.MomentLemmas.{moment_is_told}

-- the numbers that two and four digits show
two_back : (n : ℕ) → n < 100 → (digit n 10 - 48) * 10 + (digit n 1 - 48) ≡ n
two_back n h = omega arith

four_back : (n : ℕ) → n < 10000 →
    ((digit n 1000 - 48) * 10 + (digit n 100 - 48)) * 100 + ((digit n 10 - 48) * 10 + (digit n 1 - 48)) ≡ n
four_back n h = omega arith

most_of : (b : Bool) (m n : ℕ) → m ≤ 31 → n ≤ 31 → cond b m n ≤ 31
most_of true m n h k = h
most_of false m n h k = k

most_days : (year month : ℕ) → days_in_month year month ≤ 31
most_days year month =
    most_of _ _ _ (most_of _ 29 28 (omega arith) (omega arith)) (most_of _ 30 31 (omega arith) (omega arith))

-- the fraction that is printed is found
fraction_back : (d : Day) (c : Clock) (f : Option (List ℕ)) → IsFraction f → fraction_of (print (record { day = d; clock = c; fraction = f })) ≡ f
fraction_back d c None h = refl
fraction_back d c (Some digits) h =
    let bytes = print (record { day = d; clock = c; fraction = Some digits }) in
    let digits_then_z = length-append (print_digits digits) (90 ∷ []) in
    let count = length-map digits (λ n. digit n 1) in
    let more : nat_le (length bytes) 20 ≡ false = lt-leb (length bytes) 20 (omega (arith, digits_then_z)) in
    let long : length (print_digits digits) ≡ length bytes - 21 = omega (arith, digits_then_z) in
    let cut : take (length bytes - 21) (drop 20 bytes) ≡ print_digits digits = take_at (print_digits digits) (90 ∷ []) (length bytes - 21) long in
    ap (λ b. cond b None (Some (map (λ b. b - 48) (take (length bytes - 21) (drop 20 bytes))))) more
    ∙ ap (λ xs. Some (map (λ b. b - 48) xs)) cut ∙ ap Some (digits_of-print_digits digits h.2)

shown_back : (i : Instant) → IsInstant i → shown (print i) ≡ i
shown_back i h =
    let last_of_month : days_in_month i.day.year i.day.month ≤ 31 = most_days i.day.year i.day.month in
    let year = four_back i.day.year (omega (arith, h.day.last_year)) in
    let month = two_back i.day.month (omega (arith, h.day.last_month)) in
    let day = two_back i.day.day (omega (arith, h.day.last_day, last_of_month)) in
    let hour = two_back i.clock.hour (omega (arith, h.clock.hour)) in
    let minute = two_back i.clock.minute (omega (arith, h.clock.minute)) in
    let second = two_back i.clock.second (omega (arith, h.clock.second)) in
    let fraction = fraction_back i.day i.clock i.fraction h.fraction in
    λ j. record {
      day = record { year = year j; month = month j; day = day j };
      clock = record { hour = hour j; minute = minute j; second = second j };
      fraction = fraction j;
    }

-- what is valid passes the tests
between : (low high n : ℕ) → low ≤ n → n ≤ high → is_between low high n ≡ true
between low high n h k = and_true (nat_le low n) (nat_le n high) (le-leb low n h) (le-leb n high k)

day_passes : (d : Day) → IsDay d → is_day d ≡ true
day_passes d h =
    and_true _ _
    (and_true _ _ (between 1970 9999 d.year h.first_year h.last_year) (between 1 12 d.month h.first_month h.last_month))
    (between 1 (days_in_month d.year d.month) d.day h.first_day h.last_day)

clock_passes : (c : Clock) → IsClock c → is_clock c ≡ true
clock_passes c h =
    and_true _ _ (and_true _ _ (le-leb c.hour 23 h.hour) (le-leb c.minute 59 h.minute)) (le-leb c.second 59 h.second)

digits_pass : (digits : List ℕ) → All (λ n. n ≤ 9) digits → list_all (λ n. nat_le n 9) digits ≡ true
digits_pass [] h = refl
digits_pass (n ∷ digits) h =
    and_true (nat_le n 9) _ (le-leb n 9 (All-head (λ n. n ≤ 9) n digits h)) (digits_pass digits (All-tail (λ n. n ≤ 9) n digits h))

fraction_passes : (f : Option (List ℕ)) → IsFraction f → is_fraction f ≡ true
fraction_passes None h = refl
fraction_passes (Some digits) h = and_true _ _ (between 1 9 (length digits) h.0 h.1) (digits_pass digits h.2)

-- of an instant that is printed
moment_back : (i : Instant) → IsInstant i → moment_of (print i) ≡ Some (moment i)
moment_back i h =
    let passes : (is_day i.day && is_clock i.clock && is_fraction i.fraction && bytes_eq (print i) (print i)) ≡ true =
    and_true _ _ (and_true _ _ (and_true _ _ (day_passes i.day h.day) (clock_passes i.clock h.clock)) (fraction_passes i.fraction h.fraction))
    ((bytes_eq-Decides (print i) (print i)).1 refl) in
    ap (λ (s : Instant). cond (is_day s.day && is_clock s.clock && is_fraction s.fraction && bytes_eq (print s) (print i)) (Some (moment s)) None) (shown_back i h)
    ∙ ap (λ b. cond b (Some (moment i)) None) passes

pub told_is_computed : (bytes : List ℕ) (ms : ℕ) → Tells bytes ms → moment_of bytes ≡ Some ms
told_is_computed bytes ms t =
    ap moment_of t.spells.printed ∙ moment_back t.instant t.spells.valid ∙ ap Some t.means

-- an answer that is a moment that the text tells, and comes wherever one is told
pub answer_is : (bytes : List ℕ) (o : Option ℕ) → IfSome o (λ ms. Tells bytes ms) → ((i : Instant) → Spells bytes i → o ≡ Some (moment i)) → o ≡ moment_of bytes
answer_is bytes (Some ms) found each = sym (told_is_computed bytes ms found)
answer_is bytes None found each = which (moment_of bytes) refl
  where
    which : (o : Option ℕ) → moment_of bytes ≡ o → None ≡ moment_of bytes
    which None e = sym e
    which (Some ms) e =
        let told = moment_is_told bytes ms e in
        let clash : None ≡ Some (moment told.instant) = each told.instant told.spells in absurd (cc)
