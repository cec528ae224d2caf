-- A reference is an entity, or a number in decimal or hexadecimal digits.
use Rattle.std.proofs.Common.{◌≡◌, ℕ, ◌+◌, ◌<◌, ◌≤◌, Bool, true, List, [], ◌∷◌, ◌++◌, length, drop, codes, nat_eq, IsTrue, refl, sym, ◌∙◌, ap, subst, arith, append_assoc, length-append}
use Rattle.std.specs.List.{starts_with}
use Rattle.std.specs.Char.{digit_value, is_ascii_digit, is_ascii_hexdigit}
use Rattle.std.specs.Str.Parse.{IsNumeral, digits_value}
use Rattle.std.proofs.lemmas.Bool.Decides.{nat_tests, Decides-eqb}
use Rattle.std.proofs.lemmas.List.Prefix.{front_rest, front_fits}
use Rattle.std.proofs.lemmas.Slice.Eq.{starts_is}
use Rattle.std.proofs.Math.Seq.{drop-append-add}
use Rattle.xml_spec.specs.Ascii.{semicolon}
use Rattle.xml_spec.specs.Characters.{is_char}
use Rattle.xml_spec.specs.Syntax.{Reference, LessThan, GreaterThan, Ampersand, Apostrophe, QuotationMark, Decimal, Hexadecimal, print_reference, character_of, IsReference}
use Rattle.xml_chars.specs.Reading.{BeginsWithReference, BeginsWithNumber, IsDecimal, IsHexadecimal}
use Rattle.xml_chars.proofs.Numbers.{digits_pass, passed_digits}

-- an entity that the bytes begin with
pub entity_read : (r : Reference) (bytes : List ℕ) (b : Bool) → IsReference r → b ≡ starts_with nat_eq bytes (print_reference r) → b ≡ true →
    (length (print_reference r) ≤ length bytes) × BeginsWithReference bytes (character_of r) (drop (length (print_reference r)) bytes)
entity_read r bytes b valid e begins =
    let front = (starts_is Decides-eqb bytes (print_reference r) b e).0 begins in
    (front_fits bytes (print_reference r) _ front, record { reference = r; valid = valid; meant = refl; printed = front })

-- How a reference to a number is written: the same front each time, digits in a base, a semicolon.
abbrev Written : List ℕ → ℕ → List ℕ → Reference → Type 0
Written front radix digits r =
    IsNumeral radix digits × IsTrue (is_char (digits_value radix digits)) × (print_reference r ≡ front ++ (digits ++ semicolon ∷ []))

pub record IsWritten (IsKind : Reference → Type 0) (front : List ℕ) (radix : ℕ) : Type 0 where
  pub parts : (r : Reference) → IsKind r → IsReference r → (digits : List ℕ) × Written front radix digits r
  pub made : (digits : List ℕ) → IsNumeral radix digits → IsTrue (is_char (digits_value radix digits)) →
      (r : Reference) × (IsReference r × (character_of r ≡ digits_value radix digits) × (print_reference r ≡ front ++ (digits ++ semicolon ∷ [])))

decimal_digit : (d : ℕ) → is_ascii_digit d ≡ true → digit_value d < 10
decimal_digit d h = grind (arith, nat_tests)

digit_is_decimal : (d : ℕ) → digit_value d < 10 → is_ascii_digit d ≡ true
digit_is_decimal d h = grind (arith, nat_tests)

hexadecimal_digit : (d : ℕ) → is_ascii_hexdigit d ≡ true → digit_value d < 16
hexadecimal_digit d h = grind (arith, nat_tests)

digit_is_hexadecimal : (d : ℕ) → digit_value d < 16 → is_ascii_hexdigit d ≡ true
digit_is_hexadecimal d h = grind (arith, nat_tests)

decimal_parts : (r : Reference) → IsDecimal r → IsReference r → (digits : List ℕ) × Written (codes "&#") 10 digits r
decimal_parts (Decimal digits) k v = (digits, ((v.0, passed_digits is_ascii_digit 10 decimal_digit digits v.1), v.2, refl))
decimal_parts LessThan k v = absurd k
decimal_parts GreaterThan k v = absurd k
decimal_parts Ampersand k v = absurd k
decimal_parts Apostrophe k v = absurd k
decimal_parts QuotationMark k v = absurd k
decimal_parts (Hexadecimal digits) k v = absurd k

pub decimal_written : IsWritten IsDecimal (codes "&#") 10
decimal_written = record {
  parts = decimal_parts;
  made = λ digits n allowed. (Decimal digits, ((n.0, digits_pass is_ascii_digit 10 digit_is_decimal digits n.1, allowed), refl, refl));
}

hexadecimal_parts : (r : Reference) → IsHexadecimal r → IsReference r → (digits : List ℕ) × Written (codes "&#x") 16 digits r
hexadecimal_parts (Hexadecimal digits) k v = (digits, ((v.0, passed_digits is_ascii_hexdigit 16 hexadecimal_digit digits v.1), v.2, refl))
hexadecimal_parts LessThan k v = absurd k
hexadecimal_parts GreaterThan k v = absurd k
hexadecimal_parts Ampersand k v = absurd k
hexadecimal_parts Apostrophe k v = absurd k
hexadecimal_parts QuotationMark k v = absurd k
hexadecimal_parts (Decimal digits) k v = absurd k

pub hexadecimal_written : IsWritten IsHexadecimal (codes "&#x") 16
hexadecimal_written = record {
  parts = hexadecimal_parts;
  made = λ digits n allowed. (Hexadecimal digits, ((n.0, digits_pass is_ascii_hexdigit 16 digit_is_hexadecimal digits n.1, allowed), refl, refl));
}

regrouped : (front digits rest : List ℕ) → (front ++ (digits ++ semicolon ∷ [])) ++ rest ≡ front ++ (digits ++ semicolon ∷ rest)
regrouped front digits rest = simp append_assoc

-- no reference of the kind begins the bytes where no number stands behind the front
pub number_fails : {IsKind : Reference → Type 0} {front : List ℕ} {radix : ℕ} (bytes behind : List ℕ) → IsWritten IsKind front radix → bytes ≡ front ++ behind →
    ((character : ℕ) (rest : List ℕ) → BeginsWithNumber radix behind character rest → ⊥) →
    (r : Reference) (rest : List ℕ) → IsKind r → IsReference r → bytes ≡ print_reference r ++ rest → ⊥
number_fails {IsKind} {front} {radix} bytes behind w e none r rest kind valid printed =
    let p = w.parts r kind valid in
    let whole : bytes ≡ front ++ (p.0 ++ semicolon ∷ rest) = printed ∙ ap (λ x. x ++ rest) p.1.2 ∙ regrouped front p.0 rest in
    none (digits_value radix p.0) rest (record {
      digits = p.0;
      numeral = p.1.0;
      meant = refl;
      allowed = p.1.1;
      printed = sym (front_rest bytes front behind e) ∙ front_rest bytes front (p.0 ++ semicolon ∷ rest) whole;
    })

-- what is written as the front, the digits and a semicolon is printed where the digits and the semicolon stand behind the front
number_printed : {radix : ℕ} (front : List ℕ) (r : Reference) (bytes behind : List ℕ) (character count : ℕ) → bytes ≡ front ++ behind →
    (number : BeginsWithNumber radix behind character (drop count behind)) → print_reference r ≡ front ++ (number.digits ++ semicolon ∷ []) →
    bytes ≡ print_reference r ++ drop (count + length front) bytes
number_printed {radix} front r bytes behind character count e number print =
    let swapped : count + length front ≡ length front + count = omega arith in
    let rest : drop (count + length front) bytes ≡ drop count behind =
    ap (drop (count + length front)) e ∙ ap (λ n. drop n (front ++ behind)) swapped ∙ drop-append-add front behind count in
    e ∙ ap (λ x. front ++ x) number.printed ∙ sym (regrouped front number.digits (drop count behind))
    ∙ ap (λ x. x ++ drop count behind) (sym print) ∙ ap (λ x. print_reference r ++ x) (sym rest)

-- the reference of the kind where a number stands behind the front
pub number_refers : {IsKind : Reference → Type 0} {front : List ℕ} {radix : ℕ} (bytes behind : List ℕ) (character count : ℕ) → IsWritten IsKind front radix → bytes ≡ front ++ behind →
    (count ≤ length behind) × BeginsWithNumber radix behind character (drop count behind) →
    (count + length front ≤ length bytes) × BeginsWithReference bytes character (drop (count + length front) bytes)
number_refers {IsKind} {front} {radix} bytes behind character count w e read =
    let number = read.1 in
    let made = w.made number.digits number.numeral (subst (λ c. IsTrue (is_char c)) (sym number.meant) number.allowed) in
    let lengths : length bytes ≡ length front + length behind = ap length e ∙ length-append front behind in (
      omega (arith, read.0),
      record {
        reference = made.0;
        valid = made.1.0;
        meant = made.1.1 ∙ number.meant;
        printed = number_printed front made.0 bytes behind character count e number made.1.2;
      },
    )
