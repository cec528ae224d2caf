-- Lists of numbers that are combined place by place.
use Rattle.std.proofs.Common.{◌≡◌, ℕ, ◌<◌, List, length, map, get_or, bit_or, bit_xor, refl, sym, ◌∙◌, arith}
use Rattle.std.specs.Int.Bits.{xor_add_and, xor_self}
use Rattle.std.proofs.lemmas.Nat.{le_or_l, le_or_r, and_le_l, and_le_r}
use Rattle.std.proofs.lemmas.List.{ext_get_or, length-map, get_or-map}
use Rattle.std.proofs.lemmas.Simd.{length-zip2, get_or-zip2}
use Rattle.hmac_sha256.specs.Pbkdf2.{xor_bytes}

-- the exclusive or of two lists, from a list that has it at each place
pub xor_bytes_from_reads : (n : ℕ) (xs ys zs : List ℕ) → length xs ≡ n → length ys ≡ n → length zs ≡ n
    → ((k : ℕ) → k < n → get_or zs k 0 ≡ bit_xor (get_or xs k 0) (get_or ys k 0)) → zs ≡ xor_bytes xs ys
xor_bytes_from_reads n xs ys zs ex ey ez each =
    let same : length xs ≡ length ys = omega arith in
    ext_get_or 0 zs (xor_bytes xs ys)
    (omega (arith, length-zip2 bit_xor xs ys same))
    (λ k h.
    let hx : k < length xs = omega arith in
    let hy : k < length ys = omega arith in
    let hn : k < n = omega arith in
    each k hn ∙ sym (get_or-zip2 bit_xor xs ys k 0 0 0 hx hy))

-- a list with a function taken of each element, from a list that has it at each place
pub map_from_reads : (f : ℕ → ℕ) (n : ℕ) (xs zs : List ℕ) → length xs ≡ n → length zs ≡ n
    → ((k : ℕ) → k < n → get_or zs k 0 ≡ f (get_or xs k 0)) → zs ≡ map f xs
map_from_reads f n xs zs ex ez each =
    ext_get_or 0 zs (map f xs)
    (omega (arith, length-map xs f))
    (λ k h.
    let hx : k < length xs = omega arith in
    let hn : k < n = omega arith in
    each k hn ∙ sym (get_or-map f xs k 0 0 hx))

-- where an or is zero, both sides are
pub left_from_or : (a b : ℕ) → bit_or a b ≡ 0 → a ≡ 0
left_from_or a b none = omega (arith, le_or_l a b)

pub right_from_or : (a b : ℕ) → bit_or a b ≡ 0 → b ≡ 0
right_from_or a b none = omega (arith, le_or_r a b)

-- where an exclusive or is zero, both sides are one number
pub same_from_xor : (a b : ℕ) → bit_xor a b ≡ 0 → a ≡ b
same_from_xor a b none = omega (arith, xor_add_and a b, and_le_l a b, and_le_r a b)

-- and the other way about
pub or_of_zeros : (a b : ℕ) → a ≡ 0 → b ≡ 0 → bit_or a b ≡ 0
or_of_zeros a b left right = rw (left, right) refl

pub xor_of_same : (a b : ℕ) → a ≡ b → bit_xor a b ≡ 0
xor_of_same a b same = rw same (xor_self b)
