-- The second byte tells references to numbers from entities.
use Rattle.std.proofs.Common.{◌≡◌, ℕ, true, false, List, ◌++◌, Option, Some, None, sym, ap, ◌∙◌}
use Rattle.xml_spec.specs.Syntax.{Reference, LessThan, GreaterThan, Ampersand, Apostrophe, QuotationMark, Decimal, Hexadecimal, print_reference, IsReference}
use Rattle.xml_chars.specs.Reading.{IsAnyKind, IsEntity, IsDecimal, IsHexadecimal, ReadsKind}
use Rattle.xml_chars.specs.Signs.{has_number_sign}

-- another byte stands in an entity
entity_clash : (bytes : List ℕ) (r : Reference) (rest : List ℕ) → IsEntity r → bytes ≡ print_reference r ++ rest → has_number_sign bytes ≡ false
entity_clash bytes LessThan rest k e = ap has_number_sign e
entity_clash bytes GreaterThan rest k e = ap has_number_sign e
entity_clash bytes Ampersand rest k e = ap has_number_sign e
entity_clash bytes Apostrophe rest k e = ap has_number_sign e
entity_clash bytes QuotationMark rest k e = ap has_number_sign e
entity_clash bytes (Decimal digits) rest k e = absurd k
entity_clash bytes (Hexadecimal digits) rest k e = absurd k

decimal_sign : (bytes : List ℕ) (digits rest : List ℕ) → bytes ≡ print_reference (Decimal digits) ++ rest → has_number_sign bytes ≡ true
decimal_sign bytes digits rest e = ap has_number_sign e

hexadecimal_sign : (bytes : List ℕ) (digits rest : List ℕ) → bytes ≡ print_reference (Hexadecimal digits) ++ rest → has_number_sign bytes ≡ true
hexadecimal_sign bytes digits rest e = ap has_number_sign e

-- without the sign no number is referred to
pub any_by_entity : (bytes : List ℕ) (answer : Option (ℕ × ℕ)) → has_number_sign bytes ≡ false → ReadsKind IsEntity bytes answer →
    ReadsKind IsAnyKind bytes answer
any_by_entity bytes (Some read) h read_so = read_so
any_by_entity bytes None h none = λ r rest k valid e. by_kind r rest valid e
  where
    by_kind : (r : Reference) (rest : List ℕ) → IsReference r → bytes ≡ print_reference r ++ rest → ⊥
    by_kind (Decimal digits) rest valid e = absurd (let clash : true ≡ false = sym (decimal_sign bytes digits rest e) ∙ h in cc)
    by_kind (Hexadecimal digits) rest valid e = absurd (let clash : true ≡ false = sym (hexadecimal_sign bytes digits rest e) ∙ h in cc)
    by_kind LessThan rest valid e = none LessThan rest tt valid e
    by_kind GreaterThan rest valid e = none GreaterThan rest tt valid e
    by_kind Ampersand rest valid e = none Ampersand rest tt valid e
    by_kind Apostrophe rest valid e = none Apostrophe rest tt valid e
    by_kind QuotationMark rest valid e = none QuotationMark rest tt valid e

-- with the sign there is no entity
pub any_by_number : (bytes : List ℕ) (answer : Option (ℕ × ℕ)) → has_number_sign bytes ≡ true → ReadsKind IsDecimal bytes None →
    ReadsKind IsHexadecimal bytes answer → ReadsKind IsAnyKind bytes answer
any_by_number bytes (Some read) h no_decimal read_so = read_so
any_by_number bytes None h no_decimal none = λ r rest k valid e. by_kind r rest valid e
  where
    no_entity : (r : Reference) (rest : List ℕ) → IsEntity r → bytes ≡ print_reference r ++ rest → ⊥
    no_entity r rest k e = absurd (let clash : true ≡ false = sym h ∙ entity_clash bytes r rest k e in cc)

    by_kind : (r : Reference) (rest : List ℕ) → IsReference r → bytes ≡ print_reference r ++ rest → ⊥
    by_kind (Decimal digits) rest valid e = no_decimal (Decimal digits) rest tt valid e
    by_kind (Hexadecimal digits) rest valid e = none (Hexadecimal digits) rest tt valid e
    by_kind LessThan rest valid e = no_entity LessThan rest tt e
    by_kind GreaterThan rest valid e = no_entity GreaterThan rest tt e
    by_kind Ampersand rest valid e = no_entity Ampersand rest tt e
    by_kind Apostrophe rest valid e = no_entity Apostrophe rest tt e
    by_kind QuotationMark rest valid e = no_entity QuotationMark rest tt e
