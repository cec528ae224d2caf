-- The parts of an attribute's value are determined by the bytes up to the closing quote.
use Rattle.std.proofs.Common.{◌≡◌, ℕ, ◌<◌, Bool, true, false, ◌&&◌, ◌||◌, not, ◌==◌, List, [], ◌∷◌, ◌++◌, length, drop, refl, sym, ◌∙◌, ap, subst, append_assoc, arith}
use Rattle.std.specs.List.{flat_map, AllByRecursion}
use Rattle.xml_spec.specs.Ascii.{less_than, ampersand}
use Rattle.xml_spec.specs.Bytes.{AllPass, begins_with, no_two}
use Rattle.xml_spec.specs.Syntax.{Reference, LessThan, GreaterThan, Ampersand, Apostrophe, QuotationMark, Decimal, Hexadecimal, print_reference, Piece, Literal, Referred, print_piece, is_literal, IsPiece, is_quote}
use Rattle.xml_spec.proofs.Tests.{both_true}
use Rattle.xml_spec.proofs.Runs.{same_run, equal_test}
use Rattle.xml_spec.proofs.References.{same_reference}

-- a reference begins with an ampersand
pub reference_begins : (r : Reference) (x : List ℕ) → print_reference r ++ x ≡ ampersand ∷ (drop 1 (print_reference r) ++ x)
reference_begins LessThan x = refl
reference_begins GreaterThan x = refl
reference_begins Ampersand x = refl
reference_begins Apostrophe x = refl
reference_begins QuotationMark x = refl
reference_begins (Decimal digits) x = refl
reference_begins (Hexadecimal digits) x = refl

-- a byte of a literal part
abbrev pub is_literal_byte : ℕ → ℕ → Bool
is_literal_byte quote b = not (b == less_than || b == ampersand || b == quote)

pub last_of_three : (a b c : Bool) → c ≡ true → not (a || b || c) ≡ false
last_of_three true b c h = refl
last_of_three false true c h = refl
last_of_three false false c h = ap not h

pub quote_fails : (quote : ℕ) → is_literal_byte quote quote ≡ false
quote_fails quote = last_of_three (quote == less_than) (quote == ampersand) (quote == quote) (equal_test quote)

-- the parts, the closing quote and what follows
abbrev pub closed_value : ℕ → List Piece → List ℕ → List ℕ
closed_value quote pieces x = flat_map print_piece pieces ++ (quote ∷ x)

pub value_goes_on : (quote : ℕ) (piece : Piece) (pieces : List Piece) (x : List ℕ) →
    closed_value quote (piece ∷ pieces) x ≡ print_piece piece ++ closed_value quote pieces x
value_goes_on quote piece pieces x = append_assoc (print_piece piece) (flat_map print_piece pieces) (quote ∷ x)

-- behind a literal part comes the quote or an ampersand
pub value_stops : (quote : ℕ) (pieces : List Piece) (x : List ℕ) → begins_with is_literal pieces ≡ false →
    begins_with (is_literal_byte quote) (closed_value quote pieces x) ≡ false
value_stops quote [] x h = quote_fails quote
value_stops quote (Literal bytes ∷ pieces) x h = absurd (let clash : true ≡ false = h in cc)
value_stops quote (Referred reference ∷ pieces) x h =
    ap (begins_with (is_literal_byte quote))
    (value_goes_on quote (Referred reference) pieces x ∙ reference_begins reference (closed_value quote pieces x))

-- a literal part begins with none of these
pub literal_begins : (quote b : ℕ) (bytes x y : List ℕ) → 0 < length bytes → AllPass (is_literal_byte quote) bytes →
    is_literal_byte quote b ≡ false → bytes ++ x ≡ b ∷ y → ⊥
literal_begins quote b [] x y h p fails e = absurd (omega arith)
literal_begins quote b (c ∷ bytes) x y h p fails e =
    let first : c ≡ b = cc in
    let passes : is_literal_byte quote b ≡ true =
    subst (λ d. is_literal_byte quote d ≡ true) first (both_true (is_literal_byte quote c) _ p).0 in
    cc

pub quote_is_no_ampersand : (quote : ℕ) → is_quote quote ≡ true → quote ≡ ampersand → ⊥
quote_is_no_ampersand quote h e =
    let at : is_quote ampersand ≡ true = subst (λ q. is_quote q ≡ true) e h in
    let none : is_quote ampersand ≡ false = refl in
    cc

pub first_not : (a b : Bool) → not (a && b) ≡ true → a ≡ true → b ≡ false
first_not true true h k = absurd (let clash : false ≡ true = h in cc)
first_not true false h k = refl
first_not false b h k = absurd (let clash : false ≡ true = k in cc)

pub same_pieces : (quote : ℕ) (ps rs : List Piece) (x y : List ℕ) → is_quote quote ≡ true →
    AllByRecursion (IsPiece quote) ps → AllByRecursion (IsPiece quote) rs →
    no_two is_literal ps ≡ true → no_two is_literal rs ≡ true →
    closed_value quote ps x ≡ closed_value quote rs y → (ps ≡ rs) × (x ≡ y)
same_pieces quote [] [] x y q vp vr np nr e = (refl, cc)
same_pieces quote [] (Literal bytes ∷ rs) x y q vp vr np nr e =
    absurd (literal_begins quote quote bytes (closed_value quote rs y) x vr.0.0 vr.0.1 (quote_fails quote)
    (sym (value_goes_on quote (Literal bytes) rs y) ∙ sym e))
same_pieces quote [] (Referred r ∷ rs) x y q vp vr np nr e =
    let begin : quote ∷ x ≡ ampersand ∷ (drop 1 (print_reference r) ++ closed_value quote rs y) =
    e ∙ value_goes_on quote (Referred r) rs y ∙ reference_begins r (closed_value quote rs y) in
    absurd (quote_is_no_ampersand quote q (cc (begin)))
same_pieces quote (Literal bytes ∷ ps) [] x y q vp vr np nr e =
    absurd (literal_begins quote quote bytes (closed_value quote ps x) y vp.0.0 vp.0.1 (quote_fails quote)
    (sym (value_goes_on quote (Literal bytes) ps x) ∙ e))
same_pieces quote (Referred r ∷ ps) [] x y q vp vr np nr e =
    let begin : quote ∷ y ≡ ampersand ∷ (drop 1 (print_reference r) ++ closed_value quote ps x) =
    sym e ∙ value_goes_on quote (Referred r) ps x ∙ reference_begins r (closed_value quote ps x) in
    absurd (quote_is_no_ampersand quote q (cc (begin)))
same_pieces quote (Literal bytes ∷ ps) (Referred r ∷ rs) x y q vp vr np nr e =
    absurd (literal_begins quote ampersand bytes (closed_value quote ps x) (drop 1 (print_reference r) ++ closed_value quote rs y) vp.0.0 vp.0.1 refl
    (sym (value_goes_on quote (Literal bytes) ps x) ∙ e ∙ value_goes_on quote (Referred r) rs y ∙ reference_begins r (closed_value quote rs y)))
same_pieces quote (Referred r ∷ ps) (Literal bytes ∷ rs) x y q vp vr np nr e =
    absurd (literal_begins quote ampersand bytes (closed_value quote rs y) (drop 1 (print_reference r) ++ closed_value quote ps x) vr.0.0 vr.0.1 refl
    (sym (value_goes_on quote (Literal bytes) rs y) ∙ sym e ∙ value_goes_on quote (Referred r) ps x ∙ reference_begins r (closed_value quote ps x)))
same_pieces quote (Literal bytes ∷ ps) (Literal others ∷ rs) x y q vp vr np nr e =
    let here = same_run (is_literal_byte quote) bytes others (closed_value quote ps x) (closed_value quote rs y) vp.0.1 vr.0.1
    (value_stops quote ps x (first_not true (begins_with is_literal ps) (both_true _ _ np).0 refl))
    (value_stops quote rs y (first_not true (begins_with is_literal rs) (both_true _ _ nr).0 refl))
    (sym (value_goes_on quote (Literal bytes) ps x) ∙ e ∙ value_goes_on quote (Literal others) rs y) in
    let later = same_pieces quote ps rs x y q vp.1 vr.1 (both_true _ _ np).1 (both_true _ _ nr).1 here.1 in
    (λ i. Literal (here.0 i) ∷ later.0 i, later.1)
same_pieces quote (Referred r ∷ ps) (Referred s ∷ rs) x y q vp vr np nr e =
    let here = same_reference r s (closed_value quote ps x) (closed_value quote rs y) vp.0 vr.0
    (sym (value_goes_on quote (Referred r) ps x) ∙ e ∙ value_goes_on quote (Referred s) rs y) in
    let later = same_pieces quote ps rs x y q vp.1 vr.1 np nr here.1 in
    (λ i. Referred (here.0 i) ∷ later.0 i, later.1)
