-- What a reference is, is determined by the bytes that begin with it.
use Rattle.std.proofs.Common.{◌≡◌, ℕ, ◌<◌, Bool, true, false, List, [], ◌∷◌, ◌++◌, length, refl, sym, ◌∙◌, ap, subst, append_assoc, arith}
use Rattle.std.specs.Char.{is_ascii_digit, is_ascii_hexdigit}
use Rattle.xml_spec.specs.Ascii.{semicolon}
use Rattle.xml_spec.specs.Bytes.{AllPass}
use Rattle.xml_spec.specs.Syntax.{Reference, LessThan, GreaterThan, Ampersand, Apostrophe, QuotationMark, Decimal, Hexadecimal, print_reference, IsReference}
use Rattle.xml_spec.proofs.Tests.{both_true}
use Rattle.xml_spec.proofs.Runs.{same_run, apart_at}

abbrev pub Same : Reference → Reference → List ℕ → List ℕ → Type 0
Same r s x y = (r ≡ s) × (x ≡ y)

-- digits up to a semicolon
pub same_digits : (P : ℕ → Bool) (ds es x y : List ℕ) → P semicolon ≡ false → AllPass P ds → AllPass P es →
    (ds ++ semicolon ∷ []) ++ x ≡ (es ++ semicolon ∷ []) ++ y → (ds ≡ es) × (x ≡ y)
same_digits P ds es x y fails pd pe e =
    let regrouped : ds ++ (semicolon ∷ x) ≡ es ++ (semicolon ∷ y) = sym (append_assoc ds (semicolon ∷ []) x) ∙ e ∙ append_assoc es (semicolon ∷ []) y in
    let same = same_run P ds es (semicolon ∷ x) (semicolon ∷ y) pd pe fails fails regrouped in
    let behind : x ≡ y = cc (same.1) in
    (same.0, behind)

-- no decimal digits begin with x
pub not_hexadecimal : (ds x y : List ℕ) → 0 < length ds → AllPass is_ascii_digit ds → (ds ++ semicolon ∷ []) ++ x ≡ 120 ∷ y → ⊥
not_hexadecimal [] x y h p e = absurd (omega arith)
not_hexadecimal (d ∷ ds) x y h p e =
    let first : d ≡ 120 = cc in
    let digit : is_ascii_digit 120 ≡ true = subst (λ b. is_ascii_digit b ≡ true) first (both_true (is_ascii_digit d) _ p).0 in
    let none : is_ascii_digit 120 ≡ false = refl in
    cc

pub same_reference : (r s : Reference) (x y : List ℕ) → IsReference r → IsReference s →
    print_reference r ++ x ≡ print_reference s ++ y → Same r s x y
same_reference LessThan LessThan x y p q e = (refl, cc)
same_reference LessThan GreaterThan x y p q e = absurd (apart_at 1 _ _ refl e)
same_reference LessThan Ampersand x y p q e = absurd (apart_at 1 _ _ refl e)
same_reference LessThan Apostrophe x y p q e = absurd (apart_at 1 _ _ refl e)
same_reference LessThan QuotationMark x y p q e = absurd (apart_at 1 _ _ refl e)
same_reference LessThan (Decimal es) x y p q e = absurd (apart_at 1 _ _ refl e)
same_reference LessThan (Hexadecimal es) x y p q e = absurd (apart_at 1 _ _ refl e)
same_reference GreaterThan LessThan x y p q e = absurd (apart_at 1 _ _ refl e)
same_reference GreaterThan GreaterThan x y p q e = (refl, cc)
same_reference GreaterThan Ampersand x y p q e = absurd (apart_at 1 _ _ refl e)
same_reference GreaterThan Apostrophe x y p q e = absurd (apart_at 1 _ _ refl e)
same_reference GreaterThan QuotationMark x y p q e = absurd (apart_at 1 _ _ refl e)
same_reference GreaterThan (Decimal es) x y p q e = absurd (apart_at 1 _ _ refl e)
same_reference GreaterThan (Hexadecimal es) x y p q e = absurd (apart_at 1 _ _ refl e)
same_reference Ampersand LessThan x y p q e = absurd (apart_at 1 _ _ refl e)
same_reference Ampersand GreaterThan x y p q e = absurd (apart_at 1 _ _ refl e)
same_reference Ampersand Ampersand x y p q e = (refl, cc)
same_reference Ampersand Apostrophe x y p q e = absurd (apart_at 2 _ _ refl e)
same_reference Ampersand QuotationMark x y p q e = absurd (apart_at 1 _ _ refl e)
same_reference Ampersand (Decimal es) x y p q e = absurd (apart_at 1 _ _ refl e)
same_reference Ampersand (Hexadecimal es) x y p q e = absurd (apart_at 1 _ _ refl e)
same_reference Apostrophe LessThan x y p q e = absurd (apart_at 1 _ _ refl e)
same_reference Apostrophe GreaterThan x y p q e = absurd (apart_at 1 _ _ refl e)
same_reference Apostrophe Ampersand x y p q e = absurd (apart_at 2 _ _ refl e)
same_reference Apostrophe Apostrophe x y p q e = (refl, cc)
same_reference Apostrophe QuotationMark x y p q e = absurd (apart_at 1 _ _ refl e)
same_reference Apostrophe (Decimal es) x y p q e = absurd (apart_at 1 _ _ refl e)
same_reference Apostrophe (Hexadecimal es) x y p q e = absurd (apart_at 1 _ _ refl e)
same_reference QuotationMark LessThan x y p q e = absurd (apart_at 1 _ _ refl e)
same_reference QuotationMark GreaterThan x y p q e = absurd (apart_at 1 _ _ refl e)
same_reference QuotationMark Ampersand x y p q e = absurd (apart_at 1 _ _ refl e)
same_reference QuotationMark Apostrophe x y p q e = absurd (apart_at 1 _ _ refl e)
same_reference QuotationMark QuotationMark x y p q e = (refl, cc)
same_reference QuotationMark (Decimal es) x y p q e = absurd (apart_at 1 _ _ refl e)
same_reference QuotationMark (Hexadecimal es) x y p q e = absurd (apart_at 1 _ _ refl e)
same_reference (Decimal ds) LessThan x y p q e = absurd (apart_at 1 _ _ refl e)
same_reference (Decimal ds) GreaterThan x y p q e = absurd (apart_at 1 _ _ refl e)
same_reference (Decimal ds) Ampersand x y p q e = absurd (apart_at 1 _ _ refl e)
same_reference (Decimal ds) Apostrophe x y p q e = absurd (apart_at 1 _ _ refl e)
same_reference (Decimal ds) QuotationMark x y p q e = absurd (apart_at 1 _ _ refl e)
same_reference (Decimal ds) (Decimal es) x y p q e = (let same = same_digits is_ascii_digit ds es x y refl p.1 q.1 (cc) in (ap Decimal same.0, same.1))
same_reference (Decimal ds) (Hexadecimal es) x y p q e = absurd (not_hexadecimal ds x ((es ++ semicolon ∷ []) ++ y) p.0 p.1 (cc))
same_reference (Hexadecimal ds) LessThan x y p q e = absurd (apart_at 1 _ _ refl e)
same_reference (Hexadecimal ds) GreaterThan x y p q e = absurd (apart_at 1 _ _ refl e)
same_reference (Hexadecimal ds) Ampersand x y p q e = absurd (apart_at 1 _ _ refl e)
same_reference (Hexadecimal ds) Apostrophe x y p q e = absurd (apart_at 1 _ _ refl e)
same_reference (Hexadecimal ds) QuotationMark x y p q e = absurd (apart_at 1 _ _ refl e)
same_reference (Hexadecimal ds) (Decimal es) x y p q e = absurd (not_hexadecimal es y ((ds ++ semicolon ∷ []) ++ x) q.0 q.1 (cc))
same_reference (Hexadecimal ds) (Hexadecimal es) x y p q e = (let same = same_digits is_ascii_hexdigit ds es x y refl p.1 q.1 (cc) in (ap Hexadecimal same.0, same.1))
