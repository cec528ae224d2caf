-- The ID of a lesser number is less by bytes.
use Rattle.std.proofs.Common.{◌≡◌, ℕ, zero, suc, ◌+◌, ◌*◌, ◌/◌, ◌%◌, ◌^◌, ◌<◌, Bool, ◌&&◌, true, nat_lt, List, [], ◌∷◌, ◌++◌, length, drop, slice_index, inl, inr, lit<, refl, sym, ap, ◌∙◌, subst, arith}
use Rattle.std.specs.Cmp.{nat_cmp_is}
use Rattle.std.specs.Cmp.Lexicographic.{slice_cmp}
use Rattle.std.specs.Int.{w64, to_be_bytes}
use Rattle.std.specs.Ordering.{nat_cmp, ordering_then}
use Rattle.std.specs.declared.cmp.Ordering.{Ordering}
use Rattle.std.specs.declared.cmp.Ordering.TheVariants.{Less, Equal}
use Rattle.std.proofs.Math.Nat.{mul-le-mul_right, pow-succ'}
use Rattle.std.proofs.lemmas.Bool.{cases_lt, and_parts, ltb-true}
use Rattle.std.proofs.lemmas.List.{take-append-drop}
use Rattle.std.proofs.lemmas.Nat.{from_be_bytes-to_be_bytes_8}
use Rattle.hex.specs.Hex.{IsBytes, encode_with, lower_digits}
use Rattle.ledger_rules.specs.Numbers.{has_number, number_text}
use Rattle.ledger_rules.proofs.Fronts.{high_first_byte, number_front}

number_less : (p q : ℕ) → p < q → nat_cmp p q ≡ Less
number_less p q less = sym (nat_cmp_is p q Less less)

number_same : (p q : ℕ) → p ≡ q → nat_cmp p q ≡ Equal
number_same p q same = sym (nat_cmp_is p q Equal same)

-- ---- a lesser digit is written as a lesser one

abbrev are_rising : List ℕ → Bool
are_rising [] = true
are_rising (x ∷ []) = true
are_rising (x ∷ y ∷ ys) = nat_lt x y && are_rising (y ∷ ys)

rising : (xs : List ℕ) → are_rising xs ≡ true → (i j : ℕ) → i < j → j < length xs → slice_index xs i < slice_index xs j
rising [] is i j less within = absurd (omega (arith, within))
rising (x ∷ []) is i j less within = absurd (omega (arith, less, within))
rising (x ∷ y ∷ ys) is i zero less within = absurd (omega (arith, less))
rising (x ∷ y ∷ ys) is zero (suc zero) less within = ltb-true x y (and_parts (nat_lt x y) (are_rising (y ∷ ys)) is).0
rising (x ∷ y ∷ ys) is zero (suc (suc j)) less within =
    let both = and_parts (nat_lt x y) (are_rising (y ∷ ys)) is in
    let first = ltb-true x y both.0 in
    let later = rising (y ∷ ys) both.1 zero (suc j) (omega arith) (omega (arith, within)) in
    omega (arith, first, later)
rising (x ∷ y ∷ ys) is (suc i) (suc j) less within =
    rising (y ∷ ys) (and_parts (nat_lt x y) (are_rising (y ∷ ys)) is).1 i j (omega (arith, less)) (omega (arith, within))

abbrev digit : ℕ → ℕ
digit i = slice_index lower_digits i

-- ---- lists of bytes, written in digits, compare as the bytes do

abbrev written_order : List ℕ → List ℕ → List ℕ → List ℕ → Ordering
written_order xs s ys t = slice_cmp nat_cmp (encode_with lower_digits xs ++ s) (encode_with lower_digits ys ++ t)

lesser_byte : (x y : ℕ) (xs ys s t : List ℕ) → x < y → y < 256 → written_order (x ∷ xs) s (y ∷ ys) t ≡ Less
unfolding encode_with
lesser_byte x y xs ys s t less fits =
    let more : List ℕ → List ℕ → Ordering = slice_cmp nat_cmp in
    let rest = more (encode_with lower_digits xs ++ s) (encode_with lower_digits ys ++ t) in
    elim (cases_lt (x / 16) (y / 16)) [
      | inl high ↦
          ap (λ o. ordering_then o (ordering_then (nat_cmp (digit (x % 16)) (digit (y % 16))) rest))
          (number_less (digit (x / 16)) (digit (y / 16)) (rising lower_digits refl (x / 16) (y / 16) high (omega (arith, fits))))
      | inr low ↦
          let same : x / 16 ≡ y / 16 = omega (arith, less, low) in
          ap (λ o. ordering_then o (ordering_then (nat_cmp (digit (x % 16)) (digit (y % 16))) rest))
          (number_same (digit (x / 16)) (digit (y / 16)) (ap digit same))
          ∙ ap (λ o. ordering_then o rest)
          (number_less (digit (x % 16)) (digit (y % 16)) (rising lower_digits refl (x % 16) (y % 16) (omega (arith, less, same)) (omega arith)))
    ]

same_byte : (x : ℕ) (xs ys s t : List ℕ) → written_order (x ∷ xs) s (x ∷ ys) t ≡ written_order xs s ys t
unfolding encode_with
same_byte x xs ys s t =
    let rest = written_order xs s ys t in
    ap (λ o. ordering_then o (ordering_then (nat_cmp (digit (x % 16)) (digit (x % 16))) rest)) (number_same (digit (x / 16)) (digit (x / 16)) refl)
    ∙ ap (λ o. ordering_then o rest) (number_same (digit (x % 16)) (digit (x % 16)) refl)

-- the number that bytes say, the high ones first
abbrev value : List ℕ → ℕ
value [] = 0
value (x ∷ xs) = x * 256 ^ length xs + value xs

value_below : (xs : List ℕ) → IsBytes xs → value xs < 256 ^ length xs
value_below [] bytes = lit< tt
value_below (x ∷ xs) bytes =
    let later = value_below xs (λ i. bytes (suc i)) in
    let most = mul-le-mul_right {m = x + 1} {n = 256} (256 ^ length xs) (omega (arith, bytes 0)) in
    omega (arith, later, most, pow-succ' 256 (length xs))

lesser_bytes : (xs ys s t : List ℕ) → length xs ≡ length ys → IsBytes xs → IsBytes ys → value xs < value ys → written_order xs s ys t ≡ Less
lesser_bytes [] [] s t long one other less = absurd (omega (arith, less))
lesser_bytes [] (y ∷ ys) s t long one other less = absurd (omega (arith, long))
lesser_bytes (x ∷ xs) [] s t long one other less = absurd (omega (arith, long))
lesser_bytes (x ∷ xs) (y ∷ ys) s t long one other less =
    let size : length xs ≡ length ys = omega (arith, long) in
    let sizes = ap (λ n. 256 ^ n) size in
    let worth = ap (λ p. x * p) sizes in
    elim (cases_lt x y) [
      | inl lower ↦ lesser_byte x y xs ys s t lower (other 0)
      | inr least ↦
          elim (cases_lt y x) [
            | inl upper ↦
                let most = mul-le-mul_right {m = y + 1} {n = x} (256 ^ length ys) (omega (arith, upper)) in
                absurd (omega (arith, less, worth, most, value_below ys (λ i. other (suc i))))
            | inr most ↦
                let same : x ≡ y = omega (arith, least, most) in
                let worths = ap (λ z. z * 256 ^ length ys) same in
                subst (λ z. written_order (x ∷ xs) s (z ∷ ys) t ≡ Less) same
                (same_byte x xs ys s t ∙ lesser_bytes xs ys s t size (λ i. one (suc i)) (λ i. other (suc i)) (omega (arith, less, worth, worths)))
          ]
    ]

-- ---- so IDs compare as their numbers do

value_is : (n : ℕ) → n < 2 ^ 64 → value (to_be_bytes w64 n) ≡ n
value_is n fits = omega (arith, from_be_bytes-to_be_bytes_8 n fits)

pub lesser_id : (m n : ℕ) (one other : List ℕ) → m < n → n < 2 ^ 64 → has_number m one ≡ true → has_number n other ≡ true → slice_cmp nat_cmp one other ≡ Less
lesser_id m n one other less fits front later =
    let s = drop 17 one in
    let t = drop 17 other in
    let written = lesser_bytes (to_be_bytes w64 m) (to_be_bytes w64 n) s t refl (high_first_byte 8 m) (high_first_byte 8 n)
    (omega (arith, value_is m (omega (arith, less, fits)), value_is n fits, less)) in
    let one_is : number_text m ++ s ≡ one = ap (λ f. f ++ s) (sym (number_front m one front)) ∙ take-append-drop 17 one in
    let other_is : number_text n ++ t ≡ other = ap (λ f. f ++ t) (sym (number_front n other later)) ∙ take-append-drop 17 other in
    subst (λ o. slice_cmp nat_cmp one o ≡ Less) other_is (subst (λ o. slice_cmp nat_cmp o (number_text n ++ t) ≡ Less) one_is written)
