-- What the value of an attribute means, part by part.
use Rattle.std.proofs.Common.{◌≡◌, ℕ, suc, ◌+◌, ◌<◌, Bool, true, false, cond, ◌&&◌, ◌||◌, not, ◌==◌, nat_eq, List, [], ◌∷◌, ◌++◌, length, map, take, drop, codes, Option, Some, None, Result, Ok, Err, OnErr, IsTrue, IsFalse, ◌↔◌, ◌⊎◌, inl, inr, refl, sym, ap, ◌∙◌, subst, append_assoc, append-nil, length-append, arith}
use Rattle.std.specs.List.{list_all, flat_map, AllByRecursion, starts_with}
use Rattle.std.specs.Option.{MatchOption}
use denote.Ref.{Bor}
use Rattle.std.specs.Char.{encode_utf8, is_ascii_digit, is_ascii_hexdigit}
use Rattle.std.proofs.lemmas.Bool.{cond-false}
use Rattle.xml_spec.specs.Ascii.{tab, line_feed, carriage_return, space_character, ampersand, semicolon}
use Rattle.xml_spec.specs.Bytes.{AllPass, begins_with, no_two}
use Rattle.xml_spec.specs.Syntax.{Reference, LessThan, GreaterThan, Ampersand, Apostrophe, QuotationMark, Decimal, Hexadecimal, print_reference, character_of, IsReference, is_quote, Piece, Literal, Referred, print_piece, is_literal, IsPiece}
use Rattle.xml_spec.specs.Meaning.{line_ends_after, as_blank, piece_value}
use Rattle.xml_spec.proofs.Tests.{both_true}
use Rattle.xml_spec.proofs.Values.{reference_begins}
use Rattle.std.proofs.Math.Seq.{take-append_seam}
use Rattle.std.proofs.lemmas.List.{append_cancel_left}
use Rattle.xml_chars.specs.Reading.{BeginsWithReference, BeginsWithNone}
use Rattle.xml_tokens.specs.Lexing.{is_kept_byte, is_value_byte, BlankAt, NoBlank, PiecesAt, ValueAt}
use Rattle.xml_tokens.specs.Decoded.{referred_character, Plain, Named, value_from, value_of, HasReferences, IsNext}

-- a reference: up to its semicolon it is a name or a number
named_run : (name seen rest : List ℕ) → AllPass (λ b. not (b == semicolon)) name →
    value_from (Named seen) (name ++ semicolon ∷ rest) ≡ encode_utf8 (referred_character (seen ++ name)) ++ value_of rest
named_run [] seen rest h = ap (λ (n : List ℕ). encode_utf8 (referred_character n) ++ value_of rest) (sym (append-nil seen))
named_run (b ∷ name) seen rest h =
    let both = both_true (not (b == semicolon)) (list_all (λ c. not (c == semicolon)) name) h in
    cond-false (b == semicolon) _ _ (is_not (b == semicolon) both.0)
    ∙ named_run name (seen ++ b ∷ []) rest both.1
    ∙ ap (λ (n : List ℕ). encode_utf8 (referred_character n) ++ value_of rest) (append_assoc seen (b ∷ []) name)
  where
    is_not : (t : Bool) → not t ≡ true → t ≡ false
    is_not true k = absurd (let clash : false ≡ true = k in cc)
    is_not false k = refl

abbrev pub reference_name : Reference → List ℕ
reference_name LessThan = codes "lt"
reference_name GreaterThan = codes "gt"
reference_name Ampersand = codes "amp"
reference_name Apostrophe = codes "apos"
reference_name QuotationMark = codes "quot"
reference_name (Decimal digits) = codes "#" ++ digits
reference_name (Hexadecimal digits) = codes "#x" ++ digits

pub printed : (r : Reference) (rest : List ℕ) → print_reference r ++ rest ≡ ampersand ∷ (reference_name r ++ semicolon ∷ rest)
printed LessThan rest = refl
printed GreaterThan rest = refl
printed Ampersand rest = refl
printed Apostrophe rest = refl
printed QuotationMark rest = refl
printed (Decimal digits) rest = ap (λ (x : List ℕ). ampersand ∷ 35 ∷ x) (append_assoc digits (semicolon ∷ []) rest)
printed (Hexadecimal digits) rest = ap (λ (x : List ℕ). ampersand ∷ 35 ∷ 120 ∷ x) (append_assoc digits (semicolon ∷ []) rest)

no_semicolon : (test : ℕ → Bool) → ((b : ℕ) → test b ≡ true → not (b == semicolon) ≡ true) → (bytes : List ℕ) → AllPass test bytes →
    AllPass (λ b. not (b == semicolon)) bytes
no_semicolon test h [] all = refl
no_semicolon test h (b ∷ bytes) all =
    let both = both_true (test b) (list_all test bytes) all in
    and_both (not (b == semicolon)) (list_all (λ c. not (c == semicolon)) bytes) (h b both.0) (no_semicolon test h bytes both.1)
  where
    and_both : (s t : Bool) → s ≡ true → t ≡ true → (s && t) ≡ true
    and_both true t p q = q
    and_both false t p q = absurd (let clash : false ≡ true = p in cc)

digit_no_semicolon : (b : ℕ) → is_ascii_digit b ≡ true → not (b == semicolon) ≡ true
digit_no_semicolon b h = grind arith

hexdigit_no_semicolon : (b : ℕ) → is_ascii_hexdigit b ≡ true → not (b == semicolon) ≡ true
hexdigit_no_semicolon b h = grind arith

pub name_has_none : (r : Reference) → IsReference r → AllPass (λ b. not (b == semicolon)) (reference_name r)
name_has_none LessThan v = refl
name_has_none GreaterThan v = refl
name_has_none Ampersand v = refl
name_has_none Apostrophe v = refl
name_has_none QuotationMark v = refl
name_has_none (Decimal digits) v = no_semicolon is_ascii_digit digit_no_semicolon digits v.1
name_has_none (Hexadecimal digits) v = no_semicolon is_ascii_hexdigit hexdigit_no_semicolon digits v.1

no_x : (digits : List ℕ) → 0 < length digits → AllPass is_ascii_digit digits → starts_with nat_eq digits (codes "x") ≡ false
no_x [] some h = absurd (omega arith)
no_x (b ∷ digits) some h = first b (both_true (is_ascii_digit b) (list_all is_ascii_digit digits) h).0
  where
    first : (b : ℕ) → is_ascii_digit b ≡ true → ((120 == b) && true) ≡ false
    first b k = grind arith

pub name_means : (r : Reference) → IsReference r → referred_character (reference_name r) ≡ character_of r
name_means LessThan v = refl
name_means GreaterThan v = refl
name_means Ampersand v = refl
name_means Apostrophe v = refl
name_means QuotationMark v = refl
name_means (Decimal digits) v = cond-false (starts_with nat_eq digits (codes "x")) _ _ (no_x digits v.0 v.1)
name_means (Hexadecimal digits) v = refl

pub reference_means : (return : Bool) (r : Reference) (rest : List ℕ) → IsReference r →
    value_from (Plain return) (print_reference r ++ rest) ≡ encode_utf8 (character_of r) ++ value_of rest
reference_means return r rest v =
    ap (value_from (Plain return)) (printed r rest)
    ∙ named_run (reference_name r) [] rest (name_has_none r v)
    ∙ ap (λ c. encode_utf8 c ++ value_of rest) (name_means r v)

pub referred_is : (at : List ℕ) (character : ℕ) (behind : List ℕ) → BeginsWithReference at character behind →
    value_of at ≡ encode_utf8 character ++ value_of behind
referred_is at character behind h =
    ap value_of h.printed ∙ reference_means false h.reference behind h.valid
    ∙ ap (λ c. encode_utf8 c ++ value_of behind) h.meant

-- literal characters in front of what begins with no line feed
literal_means : (literal rest : List ℕ) (return : Bool) → AllPass (λ b. not (b == ampersand)) literal →
    value_from (Plain true) rest ≡ value_of rest →
    value_from (Plain return) (literal ++ rest) ≡ map as_blank (line_ends_after return literal) ++ value_of rest
literal_means [] rest true h same = same
literal_means [] rest false h same = refl
literal_means (b ∷ literal) rest return h same =
    let both = both_true (not (b == ampersand)) (list_all (λ c. not (c == ampersand)) literal) h in
    cond-false (b == ampersand) _ _ (is_not (b == ampersand) both.0)
    ∙ by_tests (b == carriage_return) (return && b == line_feed)
    (literal_means literal rest true both.1 same) (literal_means literal rest false both.1 same)
  where
    is_not : (t : Bool) → not t ≡ true → t ≡ false
    is_not true k = absurd (let clash : false ≡ true = k in cc)
    is_not false k = refl

    by_tests : (s t : Bool) →
        value_from (Plain true) (literal ++ rest) ≡ map as_blank (line_ends_after true literal) ++ value_of rest →
        value_from (Plain false) (literal ++ rest) ≡ map as_blank (line_ends_after false literal) ++ value_of rest →
        cond s (space_character ∷ value_from (Plain true) (literal ++ rest))
        (cond t (value_from (Plain false) (literal ++ rest)) (as_blank b ∷ value_from (Plain false) (literal ++ rest)))
        ≡ map as_blank (cond s (line_feed ∷ line_ends_after true literal)
        (cond t (line_ends_after false literal) (b ∷ line_ends_after false literal))) ++ value_of rest
    by_tests true t one other = ap (λ (x : List ℕ). space_character ∷ x) one
    by_tests false true one other = other
    by_tests false false one other = ap (λ (x : List ℕ). as_blank b ∷ x) other

no_ampersand : (quote b : ℕ) → is_value_byte quote b ≡ true → not (b == ampersand) ≡ true
no_ampersand quote b h = grind arith

literal_passes : (quote : ℕ) (bytes : List ℕ) → AllPass (is_value_byte quote) bytes → AllPass (λ b. not (b == ampersand)) bytes
literal_passes quote [] h = refl
literal_passes quote (b ∷ bytes) h =
    let both = both_true (is_value_byte quote b) (list_all (is_value_byte quote) bytes) h in
    and_both (not (b == ampersand)) (list_all (λ c. not (c == ampersand)) bytes) (no_ampersand quote b both.0) (literal_passes quote bytes both.1)
  where
    and_both : (s t : Bool) → s ≡ true → t ≡ true → (s && t) ≡ true
    and_both true t p q = q
    and_both false t p q = absurd (let clash : false ≡ true = p in cc)

-- a carriage return in front of parts that begin with no literal part says nothing of them
return_ends : (quote : ℕ) (pieces : List Piece) → AllByRecursion (IsPiece quote) pieces → begins_with is_literal pieces ≡ false →
    value_from (Plain true) (flat_map print_piece pieces) ≡ value_of (flat_map print_piece pieces)
return_ends quote [] valid apart = refl
return_ends quote (Literal bytes ∷ pieces) valid apart = absurd (let clash : true ≡ false = apart in cc)
return_ends quote (Referred r ∷ pieces) valid apart =
    reference_means true r (flat_map print_piece pieces) valid.0 ∙ sym (reference_means false r (flat_map print_piece pieces) valid.0)

-- a value means what its parts do
pub value_means : (quote : ℕ) (pieces : List Piece) → AllByRecursion (IsPiece quote) pieces → no_two is_literal pieces ≡ true →
    value_of (flat_map print_piece pieces) ≡ flat_map piece_value pieces
value_means quote [] valid runs = refl
value_means quote (Literal bytes ∷ pieces) valid runs =
    let both = both_true (not (true && begins_with is_literal pieces)) (no_two is_literal pieces) runs in
    literal_means bytes (flat_map print_piece pieces) false (literal_passes quote bytes valid.0.1)
    (return_ends quote pieces valid.1 (is_not (begins_with is_literal pieces) both.0))
    ∙ ap (λ (x : List ℕ). map as_blank (line_ends_after false bytes) ++ x) (value_means quote pieces valid.1 both.1)
  where
    is_not : (t : Bool) → not t ≡ true → t ≡ false
    is_not true k = absurd (let clash : false ≡ true = k in cc)
    is_not false k = refl
value_means quote (Referred r ∷ pieces) valid runs =
    reference_means false r (flat_map print_piece pieces) valid.0
    ∙ ap (λ (x : List ℕ). encode_utf8 (character_of r) ++ x) (value_means quote pieces valid.1 runs)

-- where an ampersand stands in a list whose front has none
behind_front : (front one back bytes : List ℕ) → AllPass (λ b. not (b == ampersand)) one → one ++ bytes ≡ front ++ ampersand ∷ back →
    (middle : List ℕ) × (bytes ≡ middle ++ ampersand ∷ back)
behind_front front [] back bytes h e = (front, e)
behind_front [] (b ∷ one) back bytes h e =
    let first : b ≡ ampersand = cc in
    let both = both_true (not (b == ampersand)) (list_all (λ c. not (c == ampersand)) one) h in
    absurd (let clash : false ≡ true = sym (ap (λ c. not (c == ampersand)) first) ∙ both.0 in cc)
behind_front (c ∷ front) (b ∷ one) back bytes h e =
    let tails : one ++ bytes ≡ front ++ ampersand ∷ back = cc in
    let both = both_true (not (b == ampersand)) (list_all (λ d. not (d == ampersand)) one) h in
    behind_front front one back bytes both.1 tails

digit_no_ampersand : (b : ℕ) → is_ascii_digit b ≡ true → not (b == ampersand) ≡ true
digit_no_ampersand b h = grind arith

hexdigit_no_ampersand : (b : ℕ) → is_ascii_hexdigit b ≡ true → not (b == ampersand) ≡ true
hexdigit_no_ampersand b h = grind arith

all_so : (test : ℕ → Bool) → ((b : ℕ) → test b ≡ true → not (b == ampersand) ≡ true) → (bytes : List ℕ) → AllPass test bytes →
    AllPass (λ b. not (b == ampersand)) (bytes ++ semicolon ∷ [])
all_so test h [] all = refl
all_so test h (b ∷ bytes) all =
    let both = both_true (test b) (list_all test bytes) all in
    and_both (not (b == ampersand)) (list_all (λ c. not (c == ampersand)) (bytes ++ semicolon ∷ [])) (h b both.0) (all_so test h bytes both.1)
  where
    and_both : (s t : Bool) → s ≡ true → t ≡ true → (s && t) ≡ true
    and_both true t p q = q
    and_both false t p q = absurd (let clash : false ≡ true = p in cc)

tail_has_none : (r : Reference) → IsReference r → AllPass (λ b. not (b == ampersand)) (reference_name r ++ semicolon ∷ [])
tail_has_none LessThan v = refl
tail_has_none GreaterThan v = refl
tail_has_none Ampersand v = refl
tail_has_none Apostrophe v = refl
tail_has_none QuotationMark v = refl
tail_has_none (Decimal digits) v = all_so is_ascii_digit digit_no_ampersand digits v.1
tail_has_none (Hexadecimal digits) v = all_so is_ascii_hexdigit hexdigit_no_ampersand digits v.1

behind_reference : (r : Reference) (front back bytes : List ℕ) → IsReference r → print_reference r ++ bytes ≡ front ++ ampersand ∷ back →
    BeginsWithNone (ampersand ∷ back) → (middle : List ℕ) × (bytes ≡ middle ++ ampersand ∷ back)
behind_reference r [] back bytes v e none = absurd (none r bytes v (sym e))
behind_reference r (c ∷ front) back bytes v e none =
    let whole : ampersand ∷ (reference_name r ++ semicolon ∷ bytes) ≡ c ∷ (front ++ ampersand ∷ back) = sym (printed r bytes) ∙ e in
    let tails : reference_name r ++ semicolon ∷ bytes ≡ front ++ ampersand ∷ back = cc (whole) in
    behind_front front (reference_name r ++ semicolon ∷ []) back bytes (tail_has_none r v)
    (append_assoc (reference_name r) (semicolon ∷ []) bytes ∙ tails)

referred_in : (quote : ℕ) (pieces : List Piece) (front back : List ℕ) → AllByRecursion (IsPiece quote) pieces →
    flat_map print_piece pieces ≡ front ++ ampersand ∷ back → BeginsWithNone (ampersand ∷ back) → ⊥
referred_in quote [] [] back valid e none = absurd (let clash : [] ≡ ampersand ∷ back = e in cc)
referred_in quote [] (c ∷ front) back valid e none = absurd (let clash : [] ≡ c ∷ (front ++ ampersand ∷ back) = e in cc)
referred_in quote (Literal bytes ∷ pieces) front back valid e none =
    let rest = behind_front front bytes back (flat_map print_piece pieces) (literal_passes quote bytes valid.0.1) e in
    referred_in quote pieces rest.0 back valid.1 rest.1 none
referred_in quote (Referred r ∷ pieces) front back valid e none =
    let rest = behind_reference r front back (flat_map print_piece pieces) valid.0 e none in
    referred_in quote pieces rest.0 back valid.1 rest.1 none

pub has_references : (quote : ℕ) (pieces : List Piece) → AllByRecursion (IsPiece quote) pieces → HasReferences (flat_map print_piece pieces)
has_references quote pieces valid = record { each = λ front back e none. referred_in quote pieces front back valid e none }

-- of the end of a value the same holds
pub references_behind : (bytes front behind : List ℕ) → HasReferences bytes → bytes ≡ front ++ behind → HasReferences behind
references_behind bytes front behind h e = record {
  each = λ f back at. h.each (front ++ f) back (e ∙ ap (λ (x : List ℕ). front ++ x) at ∙ sym (append_assoc front f (ampersand ∷ back)));
}

-- bytes that stay as they are
pub kept_mean : (kept at : List ℕ) → AllPass is_kept_byte kept → value_of (kept ++ at) ≡ kept ++ value_of at
kept_mean [] at h = refl
kept_mean (b ∷ kept) at h =
    let both = both_true (is_kept_byte b) (list_all is_kept_byte kept) h in
    let is = tests b both.0 in
    cond-false (b == ampersand) _ _ is.0 ∙ cond-false (b == carriage_return) _ _ is.1
    ∙ ap (λ c. c ∷ value_of (kept ++ at)) is.2 ∙ ap (λ (x : List ℕ). b ∷ x) (kept_mean kept at both.1)
  where
    tests : (b : ℕ) → is_kept_byte b ≡ true → ((b == ampersand) ≡ false) × ((b == carriage_return) ≡ false) × (as_blank b ≡ b)
    tests b k = (grind arith, grind arith, cond-false (b == tab || b == line_feed) _ _ (grind arith))

-- behind a carriage return, what does not begin with a line feed means the same
return_is : (x : List ℕ) → ((y : List ℕ) → ¬ (x ≡ line_feed ∷ y)) → value_from (Plain true) x ≡ value_of x
return_is [] h = refl
return_is (b ∷ x) h =
    ap (λ t. cond (b == ampersand) (value_from (Named []) x)
    (cond (b == carriage_return) (space_character ∷ value_from (Plain true) x) (cond t (value_of x) (as_blank b ∷ value_of x))))
    (not_equal b line_feed (λ (e : b ≡ line_feed). h x (ap (λ c. c ∷ x) e)))
  where
    not_equal : (b n : ℕ) → (b ≡ n → ⊥) → (b == n) ≡ false
    not_equal b n k = grind arith

-- a tab or a line end is a space
blank_means : (at behind : List ℕ) → BlankAt at behind → value_of at ≡ space_character ∷ value_of behind
blank_means at behind h =
    elim h [
      | inl pair ↦ ap value_of pair
      | inr (inl single) ↦ ap value_of single.0 ∙ ap (λ (x : List ℕ). space_character ∷ x) (return_is behind single.1)
      | inr (inr (inl feed)) ↦ ap value_of feed
      | inr (inr (inr mark)) ↦ ap value_of mark
    ]

blank_front : (at behind : List ℕ) → BlankAt at behind → (front : List ℕ) × (0 < length front) × (at ≡ front ++ behind)
blank_front at behind h =
    elim h [
      | inl pair ↦ (carriage_return ∷ line_feed ∷ [], omega arith, pair)
      | inr (inl single) ↦ (carriage_return ∷ [], omega arith, single.0)
      | inr (inr (inl feed)) ↦ (line_feed ∷ [], omega arith, feed)
      | inr (inr (inr mark)) ↦ (tab ∷ [], omega arith, mark)
    ]

pub blank_next : (at behind : List ℕ) → BlankAt at behind → IsNext at 32 behind
unfolding encode_utf8
blank_next at behind h =
    let front = blank_front at behind h in
    record { front = front.0; some = front.1; split = front.2; means = blank_means at behind h }

pub reference_next : (at : List ℕ) (character : ℕ) (behind : List ℕ) → BeginsWithReference at character behind → IsNext at character behind
reference_next at character behind h = record {
  front = print_reference h.reference;
  some = some (print_reference h.reference) (reference_begins h.reference []);
  split = h.printed;
  means = referred_is at character behind h;
}
  where
    some : (front : List ℕ) → front ++ [] ≡ ampersand ∷ (drop 1 front ++ []) → 0 < length front
    some [] e = absurd (let clash : [] ≡ ampersand ∷ [] = e in cc)
    some (b ∷ front) e = omega arith

one_of_four : (b : ℕ) → is_kept_byte b ≡ false → (b ≡ carriage_return) ⊎ ((b ≡ line_feed) ⊎ ((b ≡ tab) ⊎ (b ≡ ampersand)))
one_of_four b h = grind arith

-- where the run of kept bytes ends and neither a blank nor a reference stands, nothing is left
pub none_next : (at : List ℕ) → HasReferences at → IsFalse (begins_with is_kept_byte at) → NoBlank at → BeginsWithNone at → at ≡ []
none_next [] references stops blank none = refl
none_next (b ∷ at) references stops blank none =
    absurd (elim (one_of_four b stops) [
      | inl e ↦ blank.0 at (ap (λ c. c ∷ at) e)
      | inr (inl e) ↦ blank.1 at (ap (λ c. c ∷ at) e)
      | inr (inr (inl e)) ↦ blank.2 at (ap (λ c. c ∷ at) e)
      | inr (inr (inr e)) ↦ references.each [] at (ap (λ c. c ∷ at) e) (subst BeginsWithNone (ap (λ c. c ∷ at) e) none)
    ])

pub next_of : (at : List ℕ) (o : Option (ℕ × Bor (List ℕ))) → HasReferences at → IsFalse (begins_with is_kept_byte at) → NoBlank at →
    MatchOption o (BeginsWithNone at) (λ f. BeginsWithReference at f.0 f.1.now) → MatchOption o (at ≡ []) (λ f. IsNext at f.0 f.1.now)
next_of at None references stops blank h = none_next at references stops blank h
next_of at (Some f) references stops blank h = reference_next at f.0 f.1.now h

pub references_next : (rest kept at : List ℕ) (character : ℕ) (behind : List ℕ) → HasReferences rest → rest ≡ kept ++ at → IsNext at character behind →
    HasReferences behind
references_next rest kept at character behind h e next =
    references_behind at next.front behind (references_behind rest kept at h e) next.split

pub next_is_shorter : (rest kept at : List ℕ) (character : ℕ) (behind : List ℕ) → rest ≡ kept ++ at → IsNext at character behind → length behind < length rest
next_is_shorter rest kept at character behind e next =
    omega (arith, next.some, ap length e ∙ length-append kept at, ap length next.split ∙ length-append next.front behind)

-- how far a value has been put
pub record IsPut (whole rest before out : List ℕ) : Type 0 where
  pub done : List ℕ
  pub put : out ≡ before ++ done
  pub left : value_of whole ≡ done ++ value_of rest

pub kept_put : (whole rest before out kept at new : List ℕ) → IsPut whole rest before out → rest ≡ kept ++ at → AllPass is_kept_byte kept →
    new ≡ out ++ kept → IsPut whole at before new
kept_put whole rest before out kept at new h e passes n = record {
  done = h.done ++ kept;
  put = n ∙ ap (λ (x : List ℕ). x ++ kept) h.put ∙ append_assoc before h.done kept;
  left =
      h.left ∙ ap (λ (x : List ℕ). h.done ++ x) (ap value_of e ∙ kept_mean kept at passes) ∙ sym (append_assoc h.done kept (value_of at));
}

pub next_put : (whole before out at : List ℕ) (character : ℕ) (behind new : List ℕ) → IsPut whole at before out → IsNext at character behind →
    new ≡ out ++ encode_utf8 character → IsPut whole behind before new
next_put whole before out at character behind new h next n = record {
  done = h.done ++ encode_utf8 character;
  put = n ∙ ap (λ (x : List ℕ). x ++ encode_utf8 character) h.put ∙ append_assoc before h.done (encode_utf8 character);
  left = h.left ∙ ap (λ (x : List ℕ). h.done ++ x) next.means ∙ sym (append_assoc h.done (encode_utf8 character) (value_of behind));
}

pub all_put : (whole at before out : List ℕ) → IsPut whole at before out → at ≡ [] → out ≡ before ++ value_of whole
all_put whole at before out h e =
    h.put ∙ ap (λ (x : List ℕ). before ++ x) (sym (h.left ∙ ap (λ (x : List ℕ). h.done ++ value_of x) e ∙ append-nil h.done))

pub part_put : (whole rest before out : List ℕ) → IsPut whole rest before out → (k : ℕ) × (out ≡ before ++ take k (value_of whole))
part_put whole rest before out h =
    (length h.done, h.put ∙ ap (λ (x : List ℕ). before ++ x) (sym (ap (take (length h.done)) h.left ∙ take-append_seam h.done (value_of rest))))

pub part_kept : (whole rest before out new : List ℕ) → IsPut whole rest before out → new ≡ out → (k : ℕ) × (new ≡ before ++ take k (value_of whole))
part_kept whole rest before out new h same = let part = part_put whole rest before out h in (part.0, same ∙ part.1)

-- a value is compared part by part
pub record IsCompared (whole rest text left : List ℕ) : Type 0 where
  pub from : value_of rest ≡ left → value_of whole ≡ text
  pub to : value_of whole ≡ text → value_of rest ≡ left

pub compared : (whole text : List ℕ) → IsCompared whole whole text text
compared whole text = record { from = λ e. e; to = λ e. e }

pub kept_compared : (whole rest text left kept at behind : List ℕ) → IsCompared whole rest text left → rest ≡ kept ++ at → AllPass is_kept_byte kept →
    left ≡ kept ++ behind → IsCompared whole at text behind
kept_compared whole rest text left kept at behind h e passes l =
    let is : value_of rest ≡ kept ++ value_of at = ap value_of e ∙ kept_mean kept at passes in
    record {
      from = λ same. h.from (is ∙ ap (λ (x : List ℕ). kept ++ x) same ∙ sym l);
      to = λ same. append_cancel_left kept (value_of at) behind (sym is ∙ h.to same ∙ l);
    }

pub next_compared : (whole text at left : List ℕ) (character : ℕ) (behind more : List ℕ) → IsCompared whole at text left → IsNext at character behind →
    left ≡ encode_utf8 character ++ more → IsCompared whole behind text more
next_compared whole text at left character behind more h next l = record {
  from = λ same. h.from (next.means ∙ ap (λ (x : List ℕ). encode_utf8 character ++ x) same ∙ sym l);
  to = λ same. append_cancel_left (encode_utf8 character) (value_of behind) more (sym next.means ∙ h.to same ∙ l);
}

pub kept_differs : (whole rest text left kept at : List ℕ) → IsCompared whole rest text left → rest ≡ kept ++ at → AllPass is_kept_byte kept →
    ((x : List ℕ) → ¬ (left ≡ kept ++ x)) → value_of whole ≡ text → ⊥
kept_differs whole rest text left kept at h e passes none same =
    none (value_of at) (sym (h.to same) ∙ ap value_of e ∙ kept_mean kept at passes)

pub next_differs : (whole text at left : List ℕ) (character : ℕ) (behind : List ℕ) → IsCompared whole at text left → IsNext at character behind →
    ((x : List ℕ) → ¬ (left ≡ encode_utf8 character ++ x)) → value_of whole ≡ text → ⊥
next_differs whole text at left character behind h next none same = none (value_of behind) (sym (h.to same) ∙ next.means)

pub all_compared : (whole at text more : List ℕ) (ended : Bool) → IsCompared whole at text more → at ≡ [] → ended ≡ (length more == 0) →
    IsTrue ended ↔ (value_of whole ≡ text)
all_compared whole at text more ended h e is =
    (λ t. h.from (ap value_of e ∙ sym (empty more (sym is ∙ t))), λ same. is ∙ ap (λ (x : List ℕ). length x == 0) (sym (h.to same) ∙ ap value_of e))
  where
    empty : (x : List ℕ) → (length x == 0) ≡ true → x ≡ []
    empty [] k = refl
    empty (b ∷ x) k = absurd (grind arith)

-- a value stands in front of its quote
pub cut_value : (quote : ℕ) (inner value behind : List ℕ) → (at : PiecesAt quote inner value behind) →
    (length inner ≡ length (flat_map print_piece at.pieces) + suc (length behind))
    × (take (length (flat_map print_piece at.pieces)) inner ≡ flat_map print_piece at.pieces)
cut_value quote inner value behind at = (
  ap length at.split ∙ length-append (flat_map print_piece at.pieces) (quote ∷ behind),
  ap (take (length (flat_map print_piece at.pieces))) at.split ∙ take-append_seam (flat_map print_piece at.pieces) (quote ∷ behind),
)

-- what is cut out in front of the quote is the parts
pub parts_cut : (quote : ℕ) (inner value behind written : List ℕ) (n : ℕ) → (at : PiecesAt quote inner value behind) →
    n + 1 + length behind ≡ length inner → written ≡ take n inner → written ≡ flat_map print_piece at.pieces
parts_cut quote inner value behind written n at count is =
    let cut = cut_value quote inner value behind at in
    let same : n ≡ length (flat_map print_piece at.pieces) = omega (arith, cut.0) in
    is ∙ ap (λ m. take m inner) same ∙ cut.1

pub value_references : (quote : ℕ) (inner value behind written : List ℕ) (n : ℕ) → PiecesAt quote inner value behind →
    n + 1 + length behind ≡ length inner → written ≡ take n inner → HasReferences written
value_references quote inner value behind written n at count is =
    subst HasReferences (sym (parts_cut quote inner value behind written n at count is)) (has_references quote at.pieces at.valid)

pub value_read : (rest inner : List ℕ) (quote : ℕ) (value behind written : List ℕ) (n : ℕ) → is_quote quote ≡ true → rest ≡ quote ∷ inner →
    PiecesAt quote inner value behind → n + 1 + length behind ≡ length inner → written ≡ take n inner → ValueAt rest (value_of written) behind
value_read rest inner quote value behind written n quoted split at count is =
    let same : value ≡ value_of written =
    at.means ∙ sym (value_means quote at.pieces at.valid at.whole_runs) ∙ ap value_of (sym (parts_cut quote inner value behind written n at count is)) in
    record { quote = quote; inner = inner; quoted = quoted; split = split; pieces = subst (λ (v : List ℕ). PiecesAt quote inner v behind) same at }

-- what holds in any case holds of a failure
pub on_err : {T E : Type 0} (r : Result T E) (P : Type 0) → P → OnErr r P
on_err (Ok x) P h = tt
on_err (Err e) P h = h
