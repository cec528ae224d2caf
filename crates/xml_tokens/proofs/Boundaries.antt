-- A text may be cut where a run of bytes ends, and behind a reference.
use Rattle.std.proofs.Common.{◌≡◌, ℕ, zero, suc, ◌+◌, ◌-◌, ◌<◌, ◌≤◌, Bool, true, false, ◌&&◌, nat_lt, List, [], ◌∷◌, ◌++◌, length, take, drop, get_or, IsFalse, refl, sym, ◌∙◌, ap, subst, arith, add-one, drop-cons, length-append, length-drop, append_assoc}
use Rattle.std.specs.List.{list_all}
use Rattle.std.specs.Str.{IsUtf8, IsCharBoundary}
use Rattle.std.proofs.lemmas.Str.{IsCharBoundary-after_ascii, IsCharBoundary-start}
use Rattle.std.proofs.lemmas.List.Folds.{list_all_more}
use borrow.Author.Tests.{ltb-true}
use Rattle.xml_spec.specs.Ascii.{semicolon}
use Rattle.xml_spec.specs.Bytes.{AllPass, begins_with}
use Rattle.xml_spec.specs.Characters.{is_name_char}
use Rattle.xml_spec.specs.Syntax.{is_white, Reference, LessThan, GreaterThan, Ampersand, Apostrophe, QuotationMark, Decimal, Hexadecimal, print_reference}
use Rattle.xml_spec.proofs.Tests.{both_true}
use Rattle.xml_tokens.specs.declared.class.Class.{Class}
use Rattle.xml_tokens.specs.declared.class.Class.TheVariants.{Name, White, Characters, Value, Kept}
use Rattle.xml_tokens.specs.Lexing.{is_name_byte, is_ascii_name_byte, is_character_byte, is_value_byte, is_kept_byte, is_in, IsCut}

-- what ends a run, by its place
stop_fails : (P : ℕ → Bool) (bytes : List ℕ) (n : ℕ) → begins_with P (drop n bytes) ≡ false → n < length bytes → P (get_or bytes n 0) ≡ false
stop_fails P bytes n h l = sym (ap (begins_with P) (drop-cons bytes n 0 l)) ∙ h

-- a run that ends in front of ASCII
before : (P : ℕ → Bool) (bytes : List ℕ) (n : ℕ) → ((b : ℕ) → P b ≡ false → b < 128) → n ≤ length bytes →
    begins_with P (drop n bytes) ≡ false → IsCharBoundary bytes n
before P bytes n ascii within stops =
    (within, λ l high. absurd (let low : get_or bytes n 0 < 128 = ascii (get_or bytes n 0) (stop_fails P bytes n stops l) in omega arith))

-- a run of ASCII
behind : (P : ℕ → Bool) (bytes : List ℕ) (n : ℕ) → ((b : ℕ) → P b ≡ true → b < 128) → IsUtf8 bytes → n ≤ length bytes →
    AllPass P (take n bytes) → IsCharBoundary bytes n
behind P bytes zero ascii u within passes = IsCharBoundary-start bytes u
behind P bytes (suc m) ascii u within passes =
    let within_m : m < length bytes = omega arith in
    let whole : (list_all P (take m bytes) && P (get_or bytes m 0)) ≡ true =
    sym (list_all_more P bytes m 0 within_m) ∙ ap (λ k. list_all P (take k bytes)) (add-one m) ∙ passes in
    subst (IsCharBoundary bytes) (add-one m)
    (IsCharBoundary-after_ascii bytes m u within_m (ascii (get_or bytes m 0) (both_true (list_all P (take m bytes)) (P (get_or bytes m 0)) whole).1))

name_stop : (b : ℕ) → is_name_byte b ≡ false → b < 128
name_stop b h = grind arith

white_low : (b : ℕ) → is_white b ≡ true → b < 128
white_low b h = grind arith

character_stop : (b : ℕ) → is_character_byte b ≡ false → b < 128
character_stop b h = grind arith

value_stop : (quote b : ℕ) → quote < 128 → is_value_byte quote b ≡ false → b < 128
value_stop quote b l h = grind arith

kept_stop : (b : ℕ) → is_kept_byte b ≡ false → b < 128
kept_stop b h = grind arith

pub run_boundary : (class : Class) (bytes : List ℕ) (n : ℕ) → IsCut class → IsUtf8 bytes → n ≤ length bytes →
    AllPass (is_in class) (take n bytes) → IsFalse (begins_with (is_in class) (drop n bytes)) → IsCharBoundary bytes n
run_boundary Name bytes n cut u within passes stops = before is_name_byte bytes n name_stop within stops
run_boundary White bytes n cut u within passes stops = behind is_white bytes n white_low u within passes
run_boundary Characters bytes n cut u within passes stops = before is_character_byte bytes n character_stop within stops
run_boundary (Value quote) bytes n cut u within passes stops =
    before (is_value_byte quote) bytes n (λ b h. value_stop quote b cut h) within stops
run_boundary Kept bytes n cut u within passes stops = before is_kept_byte bytes n kept_stop within stops

ascii_low : (b : ℕ) → is_ascii_name_byte b ≡ true → b < 128
ascii_low b h = ltb-true b 128 (both_true (nat_lt b 128) (is_name_char b) h).0

-- behind a name of ASCII
pub ascii_boundary : (bytes : List ℕ) (n : ℕ) → IsUtf8 bytes → n ≤ length bytes → AllPass is_ascii_name_byte (take n bytes) → IsCharBoundary bytes n
ascii_boundary bytes n u within passes = behind is_ascii_name_byte bytes n ascii_low u within passes

-- what a reference is without its semicolon
abbrev unclosed : Reference → List ℕ
unclosed LessThan = 38 ∷ 108 ∷ 116 ∷ []
unclosed GreaterThan = 38 ∷ 103 ∷ 116 ∷ []
unclosed Ampersand = 38 ∷ 97 ∷ 109 ∷ 112 ∷ []
unclosed Apostrophe = 38 ∷ 97 ∷ 112 ∷ 111 ∷ 115 ∷ []
unclosed QuotationMark = 38 ∷ 113 ∷ 117 ∷ 111 ∷ 116 ∷ []
unclosed (Decimal digits) = 38 ∷ 35 ∷ digits
unclosed (Hexadecimal digits) = 38 ∷ 35 ∷ 120 ∷ digits

closes : (r : Reference) → print_reference r ≡ unclosed r ++ semicolon ∷ []
closes LessThan = refl
closes GreaterThan = refl
closes Ampersand = refl
closes Apostrophe = refl
closes QuotationMark = refl
closes (Decimal digits) = refl
closes (Hexadecimal digits) = refl

at_seam : (xs ys : List ℕ) (b : ℕ) → get_or (xs ++ b ∷ ys) (length xs) 0 ≡ b
at_seam [] ys b = refl
at_seam (x ∷ xs) ys b = at_seam xs ys b

-- behind a semicolon
behind_semicolon : (bytes front rest : List ℕ) (end : ℕ) → IsUtf8 bytes → bytes ≡ front ++ semicolon ∷ rest → rest ≡ drop end bytes →
    end ≤ length bytes → IsCharBoundary bytes end
behind_semicolon bytes front rest end u e d within =
    let whole : length bytes ≡ length front + length (semicolon ∷ rest) = ap length e ∙ length-append front (semicolon ∷ rest) in
    let left : length rest ≡ length bytes - end = ap length d ∙ length-drop end bytes in
    let place : length front + 1 ≡ end = omega arith in
    let inside : length front < length bytes = omega arith in
    let sign : get_or bytes (length front) 0 ≡ semicolon = ap (λ bs. get_or bs (length front) 0) e ∙ at_seam front rest semicolon in
    let low : get_or bytes (length front) 0 < 128 = omega arith in
    subst (IsCharBoundary bytes) place (IsCharBoundary-after_ascii bytes (length front) u inside low)

pub reference_boundary : (bytes : List ℕ) (end : ℕ) (r : Reference) → IsUtf8 bytes → end ≤ length bytes →
    bytes ≡ print_reference r ++ drop end bytes → IsCharBoundary bytes end
reference_boundary bytes end r u within e =
    behind_semicolon bytes (unclosed r) (drop end bytes) end u
    (e ∙ ap (λ z. z ++ drop end bytes) (closes r) ∙ append_assoc (unclosed r) (semicolon ∷ []) (drop end bytes)) refl within
