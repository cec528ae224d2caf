-- No bytes are printed by two valid instants.
use Rattle.std.proofs.Common.{◌≡◌, ℕ, ◌<◌, List, [], ◌∷◌, ◌++◌, Option, Some, None, refl, sym, ap, ◌∙◌, arith}
use Rattle.saml_time.specs.Instant.{Clock, Day, Instant, IsClock, IsDay, IsFraction, OneInstant, ReadsBack, digit, four_digits, moment, print_clock, print_day, print_digits, print_fraction, two_digits}
use Rattle.saml_time.specs.Pieces.{clock_of, day_of}
use Rattle.saml_time.proofs.FractionLemmas.{between_is, digits_of, digits_of-print_digits}
use Rattle.saml_time.proofs.PieceLemmas.{fits, print-grouped}

same_two : (a b : ℕ) (xs ys : List ℕ) → a < 100 → b < 100 → two_digits a ++ xs ≡ two_digits b ++ ys → (a ≡ b) × (xs ≡ ys)
same_two a b xs ys h k e =
    let tens : digit a 10 ≡ digit b 10 = cc in
    let ones : digit a 1 ≡ digit b 1 = cc in
    let rest : xs ≡ ys = cc in
    (omega arith, rest)

same_four : (a b : ℕ) (xs ys : List ℕ) → a < 10000 → b < 10000 → four_digits a ++ xs ≡ four_digits b ++ ys → (a ≡ b) × (xs ≡ ys)
same_four a b xs ys h k e =
    let thousands : digit a 1000 ≡ digit b 1000 = cc in
    let hundreds : digit a 100 ≡ digit b 100 = cc in
    let tens : digit a 10 ≡ digit b 10 = cc in
    let ones : digit a 1 ≡ digit b 1 = cc in
    let rest : xs ≡ ys = cc in
    (omega arith, rest)

behind : (byte : ℕ) (xs ys : List ℕ) → byte ∷ xs ≡ byte ∷ ys → xs ≡ ys
behind byte xs ys e = cc

same_day : (a b : Day) (xs ys : List ℕ) → IsDay a → IsDay b → print_day a ++ xs ≡ print_day b ++ ys → (a ≡ b) × (xs ≡ ys)
same_day a b xs ys h k e =
    let f = fits a h in
    let g = fits b k in
    let year = same_four a.year b.year _ _ f.year g.year e in
    let month = same_two a.month b.month _ _ f.month g.month (behind 45 _ _ year.1) in
    let day = same_two a.day b.day _ _ f.day g.day (behind 45 _ _ month.1) in
    let same : day_of a.year a.month a.day ≡ day_of b.year b.month b.day = rw (year.0, month.0, day.0) refl in
    (same, day.1)

same_clock : (a b : Clock) (xs ys : List ℕ) → IsClock a → IsClock b → print_clock a ++ xs ≡ print_clock b ++ ys → (a ≡ b) × (xs ≡ ys)
same_clock a b xs ys h k e =
    let hour = same_two a.hour b.hour _ _ (omega arith) (omega arith) e in
    let minute = same_two a.minute b.minute _ _ (omega arith) (omega arith) (behind 58 _ _ hour.1) in
    let second = same_two a.second b.second _ _ (omega arith) (omega arith) (behind 58 _ _ minute.1) in
    let same : clock_of a.hour a.minute a.second ≡ clock_of b.hour b.minute b.second = rw (hour.0, minute.0, second.0) refl in
    (same, second.1)

same_fraction : (f g : Option (List ℕ)) → IsFraction f → IsFraction g → print_fraction f ++ 90 ∷ [] ≡ print_fraction g ++ 90 ∷ [] → f ≡ g
same_fraction None None h k e = refl
same_fraction None (Some ys) h k e = cc
same_fraction (Some xs) None h k e = cc
same_fraction (Some xs) (Some ys) h k e =
    let shown : print_digits xs ≡ print_digits ys = sym (between_is _ (print_digits xs) refl) ∙ between_is _ (print_digits ys) e in
    ap Some (sym (digits_of-print_digits xs h.2) ∙ ap digits_of shown ∙ digits_of-print_digits ys k.2)

pub one_instant : OneInstant
one_instant bytes a b spells others =
    let same = sym (print-grouped a) ∙ sym spells.printed ∙ others.printed ∙ print-grouped b in
    let day = same_day a.day b.day _ _ spells.valid.day others.valid.day same in
    let clock = same_clock a.clock b.clock _ _ spells.valid.clock others.valid.clock (behind 84 _ _ day.1) in
    let fraction = same_fraction a.fraction b.fraction spells.valid.fraction others.valid.fraction clock.1 in
    let of : Day → Clock → Option (List ℕ) → Instant = λ d t f. record { day = d; clock = t; fraction = f } in
    let whole : of a.day a.clock a.fraction ≡ of b.day b.clock b.fraction = rw (day.0, clock.0, fraction) refl in
    whole

pub reads_back : ReadsBack
reads_back bytes ms full i spells =
    ap moment (one_instant bytes i full.tells.instant spells full.tells.spells) ∙ full.tells.means
