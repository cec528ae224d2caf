-- The digits of a fraction and the bytes that show them.
use Rattle.std.proofs.Common.{◌≡◌, ℕ, suc, ◌+◌, ◌-◌, ◌*◌, ◌/◌, ◌%◌, ◌≤◌, List, [], ◌∷◌, ◌++◌, map, length, length-append, take, drop, get_or, Some, refl, sym, ap, ◌∙◌, arith}
use Rattle.std.proofs.lemmas.List.{length-map, take_all, take_at, take_more}
use Rattle.std.proofs.lemmas.List.Elements.{All-head, All-tail, All-map, All-weaker, All-same}
use Rattle.std.proofs.Math.ListN.{get_or-map}
use Rattle.std.specs.List.{All}
use Rattle.std.specs.Char.{IsAsciiDigit}
use Rattle.saml_time.specs.Instant.{IsFraction, milliseconds_of, print_digits}
use Rattle.saml_time.specs.Pieces.{AllDigits, ShowsDigits}

-- the numbers that bytes show as digits
abbrev pub digits_of : List ℕ → List ℕ
digits_of bytes = map (λ byte. byte - 48) bytes

pub print_digits-digits_of : (bytes : List ℕ) → AllDigits bytes → bytes ≡ print_digits (digits_of bytes)
print_digits-digits_of [] h = refl
print_digits-digits_of (byte ∷ bytes) h =
    let digit = All-head IsAsciiDigit byte bytes h in
    let same : byte ≡ 48 + (byte - 48) / 1 % 10 = omega arith in
    let rest = print_digits-digits_of bytes (All-tail IsAsciiDigit byte bytes h) in
    cc

pub digits_of-print_digits : (digits : List ℕ) → All (λ n. n ≤ 9) digits → digits_of (print_digits digits) ≡ digits
digits_of-print_digits [] h = refl
digits_of-print_digits (n ∷ digits) h =
    let small = All-head (λ n. n ≤ 9) n digits h in
    let same : 48 + n / 1 % 10 - 48 ≡ n = omega arith in
    let rest = digits_of-print_digits digits (All-tail (λ n. n ≤ 9) n digits h) in
    cc

-- what is printed is digits
pub AllDigits-print_digits : (digits : List ℕ) → AllDigits (print_digits digits)
AllDigits-print_digits digits = All-map IsAsciiDigit _ digits λ k d h. (omega arith, omega arith)

pub shows_digits : (bytes : List ℕ) → AllDigits bytes → 1 ≤ length bytes → length bytes ≤ 9 → ShowsDigits bytes (100 * (get_or bytes 0 0 - 48) + 10 * (get_or bytes 1 0 - 48) + (get_or bytes 2 0 - 48))
shows_digits bytes h some few =
    let small : All (λ n. n ≤ 9) (digits_of bytes) = All-map (λ n. n ≤ 9) (λ byte. byte - 48) bytes (All-weaker IsAsciiDigit (λ byte. byte - 48 ≤ 9) (λ byte digit. omega arith) bytes h) in
    let place = get_or-map (λ byte. byte - 48) bytes in (
      digits_of bytes,
      (omega (arith, length-map bytes (λ byte. byte - 48)), omega (arith, length-map bytes (λ byte. byte - 48)), small),
      print_digits-digits_of bytes h,
      omega (arith, place 0 0, place 1 0, place 2 0),
    )

-- and each fraction that bytes show has those milliseconds, and as many digits as there are bytes
pub each_shows : (bytes digits : List ℕ) → IsFraction (Some digits) → bytes ≡ print_digits digits → (milliseconds_of (Some digits) ≡ 100 * (get_or bytes 0 0 - 48) + 10 * (get_or bytes 1 0 - 48) + (get_or bytes 2 0 - 48)) × AllDigits bytes × (length bytes ≡ length digits)
each_shows bytes digits valid e =
    let back : digits_of bytes ≡ digits = ap digits_of e ∙ digits_of-print_digits digits valid.2 in
    let place = get_or-map (λ byte. byte - 48) bytes in
    let at : (k : ℕ) → get_or digits k 0 ≡ get_or bytes k 0 - 48 = λ k. ap (λ xs. get_or xs k 0) (sym back) ∙ place k 0 in
    (omega (arith, at 0, at 1, at 2), All-same IsAsciiDigit bytes (print_digits digits) e (AllDigits-print_digits digits), omega (arith, length-map bytes (λ byte. byte - 48), ap length back))

-- what stands between the point and the `Z`
pub between_is : (text digits : List ℕ) → text ≡ 46 ∷ (digits ++ 90 ∷ []) → take (length text - 1 - 1) (drop 1 text) ≡ digits
between_is text digits e =
    let long : length digits ≡ length text - 1 - 1 = omega (arith, ap length e, length-append digits (90 ∷ [])) in
    ap (λ xs. take (length text - 1 - 1) (drop 1 xs)) e ∙ take_at digits (90 ∷ []) (length text - 1 - 1) long

pub around : (text : List ℕ) → 2 ≤ length text → get_or text 0 0 ≡ 46 → get_or text (length text - 1) 0 ≡ 90 → text ≡ 46 ∷ (take (length text - 1 - 1) (drop 1 text) ++ 90 ∷ [])
around [] long first last = absurd (omega arith)
around (x ∷ xs) long first last =
    let back : suc (length xs) - 1 ≡ suc (length xs - 1) = omega arith in
    let z : get_or xs (length xs - 1) 0 ≡ 90 = rw back at last in
    let next : length xs - 1 + 1 ≡ length xs = omega arith in
    let whole : take (length xs - 1 + 1) xs ≡ xs = take_all _ xs (omega arith) in
    let split = take_more xs (length xs - 1) 0 (omega arith) in
    let body : xs ≡ take (length xs - 1) xs ++ 90 ∷ [] = sym whole ∙ split ∙ ap (λ byte. take (length xs - 1) xs ++ byte ∷ []) z in
    let same : suc (length xs) - 1 - 1 ≡ length xs - 1 = omega arith in
    let head : x ≡ 46 = first in
    rw (same, head) (ap (λ rest. 46 ∷ rest) body)
