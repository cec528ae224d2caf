-- A text whose moment is computed tells that moment.
use Rattle.std.proofs.Common.{◌≡◌, ℕ, zero, suc, ◌≤◌, Bool, true, false, cond, ◌&&◌, nat_le, List, [], ◌∷◌, length, All, Option, Some, None, refl, sym, arith}
use Rattle.std.specs.List.{list_all}
use Rattle.std.specs.Str.{bytes_eq}
use Rattle.std.proofs.lemmas.Bool.{leb-true}
use Rattle.std.proofs.lemmas.Slice.Eq.{bytes_eq-Decides}
use Rattle.xml_spec.proofs.Tests.{both_true}
use Rattle.saml_time.specs.Calendar.{days_in_month}
use Rattle.saml_time.specs.Instant.{Day, Clock, IsDay, IsClock, IsFraction, Tells, print, moment}
use Rattle.assertion_model.specs.Instants.{is_between, is_day, is_clock, is_fraction, shown, moment_of}

chosen : (b : Bool) (x ms : ℕ) → cond b (Some x) None ≡ Some ms → (b ≡ true) × (x ≡ ms)
chosen true x ms e = (refl, let same : x ≡ ms = cc in same)
chosen false x ms e = absurd (let clash : None ≡ Some ms = e in cc)

between : (low high n : ℕ) → is_between low high n ≡ true → (low ≤ n) × (n ≤ high)
between low high n e =
    let parts = both_true (nat_le low n) (nat_le n high) e in (leb-true low n parts.0, leb-true n high parts.1)

day_is : (d : Day) → is_day d ≡ true → IsDay d
day_is d e =
    let last = both_true _ (is_between 1 (days_in_month d.year d.month) d.day) e in
    let first = both_true (is_between 1970 9999 d.year) (is_between 1 12 d.month) last.0 in
    let year = between 1970 9999 d.year first.0 in
    let month = between 1 12 d.month first.1 in
    let day = between 1 (days_in_month d.year d.month) d.day last.1 in
    record { first_year = year.0; last_year = year.1; first_month = month.0; last_month = month.1; first_day = day.0; last_day = day.1 }

clock_is : (c : Clock) → is_clock c ≡ true → IsClock c
clock_is c e =
    let last = both_true _ (nat_le c.second 59) e in
    let first = both_true (nat_le c.hour 23) (nat_le c.minute 59) last.0 in
    record { hour = leb-true c.hour 23 first.0; minute = leb-true c.minute 59 first.1; second = leb-true c.second 59 last.1 }

all_digits : (digits : List ℕ) → list_all (λ n. nat_le n 9) digits ≡ true → All (λ n. n ≤ 9) digits
all_digits [] e k d less = absurd (omega arith)
all_digits (n ∷ digits) e zero d less = leb-true n 9 (both_true (nat_le n 9) _ e).0
all_digits (n ∷ digits) e (suc k) d less = all_digits digits (both_true (nat_le n 9) _ e).1 k d (omega arith)

fraction_is : (f : Option (List ℕ)) → is_fraction f ≡ true → IsFraction f
fraction_is None e = tt
fraction_is (Some digits) e =
    let parts = both_true (is_between 1 9 (length digits)) (list_all (λ n. nat_le n 9) digits) e in
    let count = between 1 9 (length digits) parts.0 in
    (count.0, count.1, all_digits digits parts.1)

pub moment_is_told : (bytes : List ℕ) (ms : ℕ) → moment_of bytes ≡ Some ms → Tells bytes ms
moment_is_told bytes ms e =
    let i = shown bytes in
    let found = chosen (is_day i.day && is_clock i.clock && is_fraction i.fraction && bytes_eq (print i) bytes) (moment i) ms e in
    let last = both_true _ (bytes_eq (print i) bytes) found.0 in
    let third = both_true _ (is_fraction i.fraction) last.0 in
    let first = both_true (is_day i.day) (is_clock i.clock) third.0 in
    record {
      instant = i;
      spells = record {
        valid = record { day = day_is i.day first.0; clock = clock_is i.clock first.1; fraction = fraction_is i.fraction third.1 };
        printed = sym ((bytes_eq-Decides (print i) bytes).0 last.1);
      };
      means = found.1;
    }
