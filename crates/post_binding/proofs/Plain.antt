-- Texts that need no change: they are of ASCII, or hold no white space.
use Rattle.std.proofs.Common.{◌≡◌, ◌<◌, ℕ, suc, Bool, true, false, cond, not, nat_eq, List, [], ◌∷◌, ◌||◌, filter, refl, ap, arith}
use Rattle.std.proofs.lemmas.Bool.Decides.{nat_tests}
use Rattle.std.specs.List.{list_any, starts_with}
use Rattle.std.specs.Str.{IsAscii}
use Rattle.std.specs.Str.Lossy.{replacement_bytes}
use Rattle.xml_spec.specs.Bytes.{has}
use Rattle.xml_spec.specs.Syntax.{is_white}

other_first : (b : ℕ) (bytes : List ℕ) → b < 128 → starts_with nat_eq (b ∷ bytes) replacement_bytes ≡ false
other_first b bytes small = grind (arith, nat_tests)

neither : (one other : Bool) → one ≡ false → other ≡ false → (one || other) ≡ false
neither false false p q = refl
neither true other p q = absurd (let clash : true ≡ false = p in cc)
neither false true p q = absurd (let clash : true ≡ false = q in cc)

-- U+FFFD stands in no text of ASCII
pub none_in_ascii : (bytes : List ℕ) → IsAscii bytes → has replacement_bytes bytes ≡ false
none_in_ascii [] ascii = refl
none_in_ascii (b ∷ bytes) ascii =
    neither (starts_with nat_eq (b ∷ bytes) replacement_bytes) (has replacement_bytes bytes)
    (other_first b bytes (ascii 0)) (none_in_ascii bytes (λ i. ascii (suc i)))

-- bytes without white space are all kept
pub all_kept : (bytes : List ℕ) → list_any is_white bytes ≡ false → filter (λ b. not (is_white b)) bytes ≡ bytes
all_kept [] none = refl
all_kept (b ∷ bytes) none = by_test (is_white b) refl none (all_kept bytes)
  where
    by_test : (white : Bool) → is_white b ≡ white → (white || list_any is_white bytes) ≡ false →
        (list_any is_white bytes ≡ false → filter (λ b. not (is_white b)) bytes ≡ bytes) →
        cond (not white) (b ∷ filter (λ b. not (is_white b)) bytes) (filter (λ b. not (is_white b)) bytes) ≡ b ∷ bytes
    by_test true at clashes others = absurd (let clash : true ≡ false = clashes in cc)
    by_test false at rest others = ap (λ kept. b ∷ kept) (others rest)
