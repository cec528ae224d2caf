-- Cookies in a header.
use Rattle.std.proofs.Common.{◌≡◌, ◌≢◌, ℕ, suc, ◌+◌, ◌<◌, Bool, true, false, cond, ◌==◌, ◌||◌, not, List, [], ◌∷◌, ◌++◌, length, reverse, Option, None, Some, MatchOption, refl, sym, ap, ◌∙◌, arith}
use Rattle.std.specs.List.{before_first, after_first, position_or_len, list_any, slice_split, onto_first}
use Rattle.std.specs.Option.{option_map}
use Rattle.std.proofs.lemmas.Bool.Decides.{nat_tests}
use Rattle.std.proofs.lemmas.List.{reverse-append, reverse-reverse}
use Rattle.std.proofs.lemmas.List.Splits.{slice_split_first}
use denote.Bor.{Bor}
use Rattle.http_wire.specs.Cookies.{Pair, pieces, behind_spaces, pair_of}

-- ---- what stands round a byte

-- what the first step of a search says
first_not : (t : Bool) (n m : ℕ) → cond (not t) (1 + n) 0 ≡ suc m → (t ≡ false) × (n ≡ m)
first_not true n m h = absurd (omega arith)
first_not false n m h = (refl, omega arith)

-- without the byte there is one part
no_cut : (p : ℕ → Bool) (xs : List ℕ) → position_or_len p xs ≡ length xs → slice_split p xs ≡ xs ∷ []
no_cut p [] none = refl
no_cut p (x ∷ xs) none =
    let first = first_not (p x) (position_or_len p xs) (length xs) none in
    ap (λ t. cond t ([] ∷ slice_split p xs) (onto_first x (slice_split p xs))) first.0 ∙ ap (onto_first x) (no_cut p xs first.1)

not_cut : (p : ℕ → Bool) (xs : List ℕ) → position_or_len p xs ≡ length xs → list_any p xs ≡ false
not_cut p [] none = refl
not_cut p (x ∷ xs) none =
    let first = first_not (p x) (position_or_len p xs) (length xs) none in
    ap (λ t. t || list_any p xs) first.0 ∙ not_cut p xs first.1

any_cut : (p : ℕ → Bool) (xs : List ℕ) → position_or_len p xs < length xs → list_any p xs ≡ true
any_cut p [] some = absurd (omega arith)
any_cut p (x ∷ xs) some = first_any (p x) (list_any p xs) (position_or_len p xs) (length xs) some (any_cut p xs)
  where
    first_any : (t u : Bool) (n m : ℕ) → cond (not t) (1 + n) 0 < suc m → (n < m → u ≡ true) → (t || u) ≡ true
    first_any true u n m h rest = refl
    first_any false u n m h rest = rest (omega arith)

-- ---- pieces

abbrev is_semicolon : ℕ → Bool
is_semicolon b = b == 59

pub piece_cut : (text piece rest : List ℕ) → piece ≡ before_first is_semicolon text → rest ≡ after_first is_semicolon text → position_or_len is_semicolon text < length text →
    pieces text ≡ piece ∷ pieces rest
piece_cut text piece rest before after cut =
    slice_split_first is_semicolon text 0 cut ∙ (λ i. sym before i ∷ pieces (sym after i))

pub last_piece : (text : List ℕ) → position_or_len is_semicolon text ≡ length text → pieces text ≡ text ∷ []
last_piece text none = no_cut is_semicolon text none

-- ---- spaces

-- a text that does not begin with a space
pub no_space : (text : List ℕ) → ((rest : List ℕ) → text ≢ 32 ∷ rest) → behind_spaces text ≡ text
no_space [] none = refl
no_space (b ∷ text) none = by_test (b == 32) refl
  where
    by_test : (t : Bool) → t ≡ (b == 32) → behind_spaces (b ∷ text) ≡ b ∷ text
    by_test true e = absurd (none text (ap (λ c. c ∷ text) (let same : b ≡ 32 = grind (arith, nat_tests, e) in same)))
    by_test false e = ap (λ t. cond t (behind_spaces text) (b ∷ text)) (sym e)

pub no_last_space : (text : List ℕ) → ((front : List ℕ) → text ≢ front ++ 32 ∷ []) → text ≡ reverse (behind_spaces (reverse text))
no_last_space text none =
    sym (ap reverse (no_space (reverse text) (λ rest h. none (reverse rest) (sym (reverse-reverse text) ∙ ap reverse h ∙ reverse-append (32 ∷ []) rest))) ∙ reverse-reverse text)

-- ---- pairs

abbrev is_equals : ℕ → Bool
is_equals b = b == 61

pub cut_pair : (text : List ℕ) (r : Option (Bor (List ℕ) × Bor (List ℕ))) →
    MatchOption r (position_or_len is_equals text ≡ length text)
    (λ x. (x.0.now ≡ before_first is_equals text) × (x.1.now ≡ after_first is_equals text) × (position_or_len is_equals text < length text)) →
    option_map (λ (pair : Bor (List ℕ) × Bor (List ℕ)). let made : Pair = (pair.0.now, pair.1.now) in made) r ≡ pair_of text
cut_pair text None none = sym (ap (λ t. cond t (Some (before_first is_equals text, after_first is_equals text)) None) (not_cut is_equals text none))
cut_pair text (Some x) parts =
    (λ i. Some (parts.0 i, parts.1 i))
    ∙ sym (ap (λ t. cond t (Some (before_first is_equals text, after_first is_equals text)) None) (any_cut is_equals text parts.2))
