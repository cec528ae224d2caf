-- The fronts of IDs, and the numbers that they say.
use Rattle.std.proofs.Common.{◌≡◌, ℕ, zero, suc, ◌<◌, ◌≤◌, inl, inr, true, false, List, [], ◌∷◌, ◌++◌, length, take, Option, Some, None, Result, Ok, Err, Bor, lit<, refl, sym, ap, ◌∙◌, arith}
use Rattle.std.specs.Prelude.{MatchResult}
use Rattle.std.specs.Int.{w64, to_be_bytes, bytes_high_first}
use Rattle.std.specs.List.{slice_range}
use Rattle.std.specs.Option.{option_eq}
use Rattle.std.specs.Slice.{IsGetRangeResult}
use Rattle.std.specs.Str.{bytes_eq}
use Rattle.std.proofs.Math.Nat.{mod-lt}
use Rattle.std.proofs.Math.ListN.{length-take}
use Rattle.std.proofs.lemmas.List.{append-nil}
use Rattle.std.proofs.lemmas.Bool.{cases_Bool}
use Rattle.std.proofs.lemmas.Slice.Eq.{bytes_eq-Decides}
use Rattle.hex.specs.Hex.{IsBytes, decode_sized, encode_lower, lower_digits}
use Rattle.hex.specs.declared.error.FromHexError.{FromHexError}
use Rattle.hex.proofs.HexLemmas.{decode_sized-encode_lower, length-encode_with}
use Rattle.ledger_rules.specs.Numbers.{has_number, number_text}

abbrev bytes_of : ℕ → List ℕ
bytes_of n = to_be_bytes w64 n

pub high_first_byte : (k n : ℕ) → IsBytes (bytes_high_first k n)
high_first_byte zero n i = lit< tt
high_first_byte (suc zero) n zero = mod-lt n (lit< tt)
high_first_byte (suc (suc k)) n zero = mod-lt _ (lit< tt)
high_first_byte (suc k) n (suc i) = high_first_byte k n i

length-number_text : (n : ℕ) → length (number_text n) ≡ 17
length-number_text n = omega (arith, length-encode_with lower_digits (bytes_of n))

-- what stands in front of an ID with this number
pub number_front : (n : ℕ) (id : List ℕ) → has_number n id ≡ true → take 17 id ≡ number_text n
unfolding has_number
number_front n id is = (bytes_eq-Decides (take 17 id) (number_text n)).0 is

pub has_number-long : (n : ℕ) (id : List ℕ) → has_number n id ≡ true → 17 ≤ length id
has_number-long n id is =
    let same = ap length (number_front n id is) in
    omega (arith, same, length-number_text n, length-take 17 id)

has_number-short : (n : ℕ) (id : List ℕ) → length id < 17 → has_number n id ≡ false
has_number-short n id short = elim (cases_Bool (has_number n id)) [
  | inl is ↦ absurd (omega (arith, has_number-long n id is))
  | inr not ↦ not
]

-- the test of the part in front
pub has_number-got : (id : List ℕ) (n : ℕ) (r : Option (Bor (List ℕ))) (front : Bor (List ℕ)) → IsGetRangeResult id 0 17 r → front.now ≡ number_text n
    → option_eq (λ x y. bytes_eq x.now y.now) r (Some front) ≡ has_number n id
unfolding has_number
has_number-got id n None front got is = sym (has_number-short n id (omega (arith, got.0)))
has_number-got id n (Some x) front got is = rw (is, got.0.2) refl

-- what the front is written as
pub number_text-written : (n : ℕ) (front digits : List ℕ) → front ≡ 95 ∷ digits ++ [] → digits ≡ encode_lower (to_be_bytes w64 n) → front ≡ number_text n
number_text-written n front digits made is = made ∙ ap (λ d. 95 ∷ d) (append-nil digits ∙ is)

-- the digits behind the first byte
number_digits : (n : ℕ) (id : List ℕ) → has_number n id ≡ true → slice_range id 1 17 ≡ encode_lower (bytes_of n)
number_digits n [] is = absurd (omega (arith, has_number-long n [] is))
number_digits n (c ∷ id) is = let same = number_front n (c ∷ id) is in cc

-- they say the number
pub number_read : (n : ℕ) (id digits : List ℕ) → has_number n id ≡ true → digits ≡ slice_range id 1 17 → decode_sized digits 8 ≡ Ok (bytes_of n)
number_read n id digits is part =
    ap (λ d. decode_sized d 8) (part ∙ number_digits n id is) ∙ decode_sized-encode_lower (bytes_of n) 8 refl (high_first_byte 8 n)

pub number_written : (d : Result (List ℕ) FromHexError) (r : Result Unit FromHexError) (out bytes : List ℕ)
    → MatchResult d (λ bytes. (r ≡ Ok tt) × (out ≡ bytes)) (λ e. r ≡ Err e) → d ≡ Ok bytes → (r ≡ Ok tt) × (out ≡ bytes)
number_written (Ok read) r out bytes written is = let same : read ≡ bytes = cc in (written.0, written.1 ∙ same)
number_written (Err e) r out bytes written is = cc is
