-- The parts of a value up to its quote: each is read as it must be.
use Rattle.std.proofs.Common.{◌≡◌, ℕ, ◌+◌, ◌<◌, Bool, true, false, ◌&&◌, not, ◌==◌, List, [], ◌∷◌, ◌++◌, length, drop, ◌⊎◌, inl, inr, IsFalse, refl, sym, ◌∙◌, ap, subst, append-nil, arith}
use Rattle.std.specs.List.{list_all, flat_map, AllByRecursion}
use Rattle.std.specs.Char.{encode_utf8}
use Rattle.xml_spec.specs.Ascii.{less_than, ampersand}
use Rattle.xml_spec.specs.Bytes.{AllPass, begins_with, no_two}
use Rattle.xml_spec.specs.Syntax.{is_quote, Reference, print_reference, IsReference, Piece, Literal, Referred, IsPiece, is_literal}
use Rattle.xml_spec.specs.Meaning.{piece_value}
use Rattle.xml_spec.proofs.Tests.{both_true}
use Rattle.xml_spec.proofs.Runs.{equal_test, begins_not, same_run}
use Rattle.xml_spec.proofs.References.{same_reference}
use Rattle.xml_spec.proofs.Values.{reference_begins, closed_value, first_not, last_of_three, value_goes_on, quote_is_no_ampersand}
use Rattle.xml_chars.specs.Reading.{BeginsWithReference, BeginsWithNone}
use Rattle.xml_tokens.specs.Lexing.{is_value_byte, PiecesAt, NoPieces, NoQuote, NoValue}
use Rattle.xml_tokens.proofs.Translating.{blanks}

pub quote_low : (quote : ℕ) → is_quote quote ≡ true → quote < 128
quote_low quote h = grind arith

-- a quote ends its value
pub quote_fails : (quote : ℕ) → is_value_byte quote quote ≡ false
quote_fails quote = last_of_three (quote == less_than) (quote == ampersand) (quote == quote) (equal_test quote)

one_of : (quote : ℕ) → is_quote quote ≡ true → (quote ≡ 34) ⊎ (quote ≡ 39)
one_of quote h = grind arith

pub no_quote : (bytes : List ℕ) → ((x : List ℕ) → ¬ (bytes ≡ 34 ∷ x)) → ((x : List ℕ) → ¬ (bytes ≡ 39 ∷ x)) → NoQuote bytes
no_quote bytes none neither quote x q e =
    elim (one_of quote q) [
      | inl h ↦ none x (e ∙ ap (λ b. b ∷ x) h)
      | inr h ↦ neither x (e ∙ ap (λ b. b ∷ x) h)
    ]

-- behind a literal part comes the quote or an ampersand
value_stops : (quote : ℕ) (pieces : List Piece) (x : List ℕ) → begins_with is_literal pieces ≡ false →
    begins_with (is_value_byte quote) (closed_value quote pieces x) ≡ false
value_stops quote [] x h = quote_fails quote
value_stops quote (Literal bytes ∷ pieces) x h = absurd (let clash : true ≡ false = h in cc)
value_stops quote (Referred reference ∷ pieces) x h =
    ap (begins_with (is_value_byte quote))
    (value_goes_on quote (Referred reference) pieces x ∙ reference_begins reference (closed_value quote pieces x))

-- a literal part begins with none of these
literal_begins : (quote b : ℕ) (bytes x y : List ℕ) → 0 < length bytes → AllPass (is_value_byte quote) bytes →
    is_value_byte quote b ≡ false → bytes ++ x ≡ b ∷ y → ⊥
literal_begins quote b [] x y h p fails e = absurd (omega arith)
literal_begins quote b (c ∷ bytes) x y h p fails e =
    let first : c ≡ b = cc in
    let passes : is_value_byte quote b ≡ true =
    subst (λ d. is_value_byte quote d ≡ true) first (both_true (is_value_byte quote c) _ p).0 in
    cc

-- parts of a value that stand up to its quote
pub record Closed (quote : ℕ) (bytes behind : List ℕ) : Type 0 where
  pub pieces : List Piece
  pub valid : AllByRecursion (IsPiece quote) pieces
  pub whole_runs : no_two is_literal pieces ≡ true
  pub split : bytes ≡ closed_value quote pieces behind

closed_at : (quote : ℕ) (bytes value behind : List ℕ) → PiecesAt quote bytes value behind → Closed quote bytes behind
closed_at quote bytes value behind at = record { pieces = at.pieces; valid = at.valid; whole_runs = at.whole_runs; split = at.split }

at_closed : (quote : ℕ) (bytes behind : List ℕ) → NoPieces quote bytes → Closed quote bytes behind → ⊥
at_closed quote bytes behind none c =
    none (flat_map piece_value c.pieces) behind
    (record { pieces = c.pieces; valid = c.valid; whole_runs = c.whole_runs; means = refl; split = c.split })

-- what follows the longest literal run is parts up to the quote
behind_literal : (quote : ℕ) (literal at behind : List ℕ) (pieces : List Piece) → is_quote quote ≡ true → AllPass (is_value_byte quote) literal →
    IsFalse (begins_with (is_value_byte quote) at) → AllByRecursion (IsPiece quote) pieces → no_two is_literal pieces ≡ true →
    literal ++ at ≡ closed_value quote pieces behind → Closed quote at behind
behind_literal quote [] at behind pieces q passes stops valid runs e = record { pieces = pieces; valid = valid; whole_runs = runs; split = e }
behind_literal quote (b ∷ literal) at behind [] q passes stops valid runs e =
    absurd (literal_begins quote quote (b ∷ literal) at behind (omega arith) passes (quote_fails quote) e)
behind_literal quote (b ∷ literal) at behind (Referred r ∷ pieces) q passes stops valid runs e =
    absurd (literal_begins quote ampersand (b ∷ literal) at (drop 1 (print_reference r) ++ closed_value quote pieces behind) (omega arith) passes refl
    (e ∙ value_goes_on quote (Referred r) pieces behind ∙ reference_begins r (closed_value quote pieces behind)))
behind_literal quote (b ∷ literal) at behind (Literal bytes ∷ pieces) q passes stops valid runs e =
    let both = both_true (not (true && begins_with is_literal pieces)) (no_two is_literal pieces) runs in
    let same = same_run (is_value_byte quote) (b ∷ literal) bytes at (closed_value quote pieces behind) passes valid.0.1 stops
    (value_stops quote pieces behind (first_not true (begins_with is_literal pieces) both.0 refl))
    (e ∙ value_goes_on quote (Literal bytes) pieces behind) in
    record { pieces = pieces; valid = valid.1; whole_runs = both.1; split = same.1 }

behind_run : (quote : ℕ) (bytes literal at behind : List ℕ) → is_quote quote ≡ true → bytes ≡ literal ++ at → AllPass (is_value_byte quote) literal →
    IsFalse (begins_with (is_value_byte quote) at) → Closed quote bytes behind → Closed quote at behind
behind_run quote bytes literal at behind q e passes stops c =
    behind_literal quote literal at behind c.pieces q passes stops c.valid c.whole_runs (sym e ∙ c.split)

-- what follows a reference is parts up to the quote
behind_reference : (quote : ℕ) (r : Reference) (rest behind : List ℕ) (pieces : List Piece) → is_quote quote ≡ true → IsReference r →
    AllByRecursion (IsPiece quote) pieces → no_two is_literal pieces ≡ true → print_reference r ++ rest ≡ closed_value quote pieces behind →
    Closed quote rest behind
behind_reference quote r rest behind [] q vr valid runs e =
    let begin : quote ∷ behind ≡ ampersand ∷ (drop 1 (print_reference r) ++ rest) = sym e ∙ reference_begins r rest in
    absurd (quote_is_no_ampersand quote q (cc (begin)))
behind_reference quote r rest behind (Literal bytes ∷ pieces) q vr valid runs e =
    absurd (literal_begins quote ampersand bytes (closed_value quote pieces behind) (drop 1 (print_reference r) ++ rest) valid.0.0 valid.0.1 refl
    (sym (value_goes_on quote (Literal bytes) pieces behind) ∙ sym e ∙ reference_begins r rest))
behind_reference quote r rest behind (Referred s ∷ pieces) q vr valid runs e =
    let same = same_reference r s rest (closed_value quote pieces behind) vr valid.0 (e ∙ value_goes_on quote (Referred s) pieces behind) in
    record { pieces = pieces; valid = valid.1; whole_runs = runs; split = same.1 }

-- where a literal run and a reference are read, no parts stand there unless they stand behind the two
pub unread_behind : (quote : ℕ) (bytes literal at : List ℕ) (character : ℕ) (rest : List ℕ) → is_quote quote ≡ true → bytes ≡ literal ++ at →
    AllPass (is_value_byte quote) literal → IsFalse (begins_with (is_value_byte quote) at) → BeginsWithReference at character rest →
    NoPieces quote rest → NoPieces quote bytes
unread_behind quote bytes literal at character rest q e passes stops begins none value behind pieces =
    let c = behind_run quote bytes literal at behind q e passes stops (closed_at quote bytes value behind pieces) in
    at_closed quote rest behind none
    (behind_reference quote begins.reference rest behind c.pieces q begins.valid c.valid c.whole_runs (sym begins.printed ∙ c.split))

-- where neither the quote nor a reference stands behind the literal run, there are no parts
nothing_stands : (quote : ℕ) (at behind : List ℕ) (pieces : List Piece) → AllByRecursion (IsPiece quote) pieces →
    IsFalse (begins_with (is_value_byte quote) at) → ((x : List ℕ) → ¬ (at ≡ quote ∷ x)) → BeginsWithNone at →
    at ≡ closed_value quote pieces behind → ⊥
nothing_stands quote at behind [] valid stops unquoted none e = unquoted behind e
nothing_stands quote at behind (Referred r ∷ pieces) valid stops unquoted none e =
    none r (closed_value quote pieces behind) valid.0 (e ∙ value_goes_on quote (Referred r) pieces behind)
nothing_stands quote at behind (Literal [] ∷ pieces) valid stops unquoted none e = absurd (let some : 0 < 0 = valid.0.0 in omega arith)
nothing_stands quote at behind (Literal (b ∷ bytes) ∷ pieces) valid stops unquoted none e =
    begins_not (is_value_byte quote) b (bytes ++ closed_value quote pieces behind) at
    (both_true (is_value_byte quote b) (list_all (is_value_byte quote) bytes) valid.0.1).0 stops
    (e ∙ value_goes_on quote (Literal (b ∷ bytes)) pieces behind)

pub no_pieces : (quote : ℕ) (bytes literal at : List ℕ) → is_quote quote ≡ true → bytes ≡ literal ++ at →
    AllPass (is_value_byte quote) literal → IsFalse (begins_with (is_value_byte quote) at) → ((x : List ℕ) → ¬ (at ≡ quote ∷ x)) →
    BeginsWithNone at → NoPieces quote bytes
no_pieces quote bytes literal at q e passes stops unquoted none value behind pieces =
    let c = behind_run quote bytes literal at behind q e passes stops (closed_at quote bytes value behind pieces) in
    nothing_stands quote at behind c.pieces c.valid stops unquoted none c.split

-- the literal run in front of parts that do not begin with another one
with_literal : (quote : ℕ) (literal bytes value behind : List ℕ) (at : PiecesAt quote bytes value behind) → AllPass (is_value_byte quote) literal →
    begins_with is_literal at.pieces ≡ false → PiecesAt quote (literal ++ bytes) (blanks literal ++ value) behind
with_literal quote [] bytes value behind at passes apart = at
with_literal quote (b ∷ literal) bytes value behind at passes apart = record {
  pieces = Literal (b ∷ literal) ∷ at.pieces;
  valid = ((omega arith, passes), at.valid);
  whole_runs = joined (begins_with is_literal at.pieces) (no_two is_literal at.pieces) apart at.whole_runs;
  means = ap (λ z. blanks (b ∷ literal) ++ z) at.means;
  split = ap (λ z. (b ∷ literal) ++ z) at.split ∙ sym (value_goes_on quote (Literal (b ∷ literal)) at.pieces behind);
}
  where
    joined : (a c : Bool) → a ≡ false → c ≡ true → (not (true && a) && c) ≡ true
    joined true c h k = absurd (let clash : true ≡ false = h in cc)
    joined false c h k = k

no_parts : (quote : ℕ) (behind : List ℕ) → PiecesAt quote (quote ∷ behind) [] behind
no_parts quote behind = record { pieces = []; valid = tt; whole_runs = refl; means = refl; split = refl }

-- the last part of a value
pub last_literal : (quote : ℕ) (bytes literal at behind : List ℕ) → bytes ≡ literal ++ at → AllPass (is_value_byte quote) literal →
    at ≡ quote ∷ behind → PiecesAt quote bytes (blanks literal) behind
unfolding no_parts
last_literal quote bytes literal at behind e passes f =
    let made = with_literal quote literal (quote ∷ behind) [] behind (no_parts quote behind) passes refl in
    let here : PiecesAt quote bytes (blanks literal ++ []) behind =
    subst (λ bs. PiecesAt quote bs (blanks literal ++ []) behind) (sym (e ∙ ap (λ z. literal ++ z) f)) made in
    subst (λ v. PiecesAt quote bytes v behind) (append-nil (blanks literal)) here

-- a literal run and a reference in front of parts
pub more_parts : (quote : ℕ) (bytes literal at : List ℕ) (character : ℕ) (rest value behind : List ℕ) → bytes ≡ literal ++ at →
    AllPass (is_value_byte quote) literal → BeginsWithReference at character rest → PiecesAt quote rest value behind →
    PiecesAt quote bytes (blanks literal ++ (encode_utf8 character ++ value)) behind
more_parts quote bytes literal at character rest value behind e passes begins later =
    let r = begins.reference in
    let from_reference : PiecesAt quote at (encode_utf8 character ++ value) behind = record {
      pieces = Referred r ∷ later.pieces;
      valid = (begins.valid, later.valid);
      whole_runs = later.whole_runs;
      means = λ i. encode_utf8 (sym begins.meant i) ++ later.means i;
      split = begins.printed ∙ ap (λ z. print_reference r ++ z) later.split ∙ sym (value_goes_on quote (Referred r) later.pieces behind);
    } in
    subst (λ bs. PiecesAt quote bs (blanks literal ++ (encode_utf8 character ++ value)) behind) (sym e)
    (with_literal quote literal at (encode_utf8 character ++ value) behind from_reference passes refl)

-- how far a value has been read
pub record IsValueSoFar (quote : ℕ) (whole rest : List ℕ) : Type 0 where
  pub reads : (value behind : List ℕ) → PiecesAt quote rest value behind → (total : List ℕ) × PiecesAt quote whole total behind
  pub refuses : NoPieces quote rest → NoPieces quote whole

pub one_more_part : (quote : ℕ) (whole rest literal at : List ℕ) (character : ℕ) (behind : List ℕ) → is_quote quote ≡ true →
    IsValueSoFar quote whole rest → rest ≡ literal ++ at → AllPass (is_value_byte quote) literal →
    IsFalse (begins_with (is_value_byte quote) at) → BeginsWithReference at character behind → IsValueSoFar quote whole behind
one_more_part quote whole rest literal at character behind q far e passes stops begins = record {
  reads = λ value end pieces.
      far.reads (blanks literal ++ (encode_utf8 character ++ value)) end
      (more_parts quote rest literal at character behind value end e passes begins pieces);
  refuses = λ none. far.refuses (unread_behind quote rest literal at character behind q e passes stops begins none);
}

pub value_ends : (quote : ℕ) (whole rest literal at behind : List ℕ) →
    IsValueSoFar quote whole rest → rest ≡ literal ++ at → AllPass (is_value_byte quote) literal →
    at ≡ quote ∷ behind → (value : List ℕ) × PiecesAt quote whole value behind
value_ends quote whole rest literal at behind far e passes f =
    far.reads (blanks literal) behind (last_literal quote rest literal at behind e passes f)

pub unread_no_value : (bytes inner : List ℕ) (quote : ℕ) → bytes ≡ quote ∷ inner → NoPieces quote inner → NoValue bytes
unread_no_value bytes inner quote e none value behind at =
    let heads : at.quote ≡ quote = cc (at.split) in
    let tails : at.inner ≡ inner = cc (at.split) in
    none value behind (subst (λ q. PiecesAt q inner value behind) heads (subst (λ bs. PiecesAt at.quote bs value behind) tails at.pieces))
