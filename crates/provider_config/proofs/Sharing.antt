-- What lines say together, with one line more or by a test, and what holds of all lines: the words that the configs of all roles share.
use Rattle.std.proofs.Common.{◌≡◌, ℕ, ◌+◌, Bool, true, false, ◌||◌, cond, List, [], ◌∷◌, ◌++◌, Option, None, Some, Result, Ok, Err, IfOk, is_some, ok_or, count_by, refl, sym, ap, ◌∙◌, arith}
use Rattle.std.specs.Prelude.{option_and_then}
use Rattle.text_lines.specs.Words.{words_of}
use Rattle.std.specs.List.{filter_map, cons_option, list_any}
use Rattle.std.specs.Option.{option_map_or, option_or}
use Rattle.std.proofs.lemmas.List.Sums.{sum_by-cons}
use Rattle.text_lines.specs.Lines.{Said, Says, NoText, and_then, with_lines}
use Rattle.provider_config.specs.Shared.{the, with_line, pushed}
use Rattle.owned_values.specs.Options.{◌>>=◌}

or_assoc : {X : Type 0} (a b c : Option X) → option_or (option_or a b) c ≡ option_or a (option_or b c)
or_assoc None b c = refl
or_assoc (Some x) b c = refl

or_none : {X : Type 0} (a : Option X) → option_or None a ≡ option_or a None
or_none None = refl
or_none (Some x) = refl

pub the-push : {Line X : Type 0} (says : Line → Option X) (lines : List Line) (line : Line) →
    the says (lines ++ line ∷ []) ≡ option_or (says line) (the says lines)
the-push says [] line = or_none (says line)
the-push says (first ∷ lines) line =
    ap (λ o. option_or o (says first)) (the-push says lines line) ∙ or_assoc (says line) (the says lines) (says first)

cons_pushed : {X : Type 0} (o last : Option X) (xs : List X) → cons_option o (pushed xs last) ≡ pushed (cons_option o xs) last
cons_pushed None last xs = refl
cons_pushed (Some x) None xs = refl
cons_pushed (Some x) (Some y) xs = refl

one_pushed : {X : Type 0} (o : Option X) → cons_option o [] ≡ pushed [] o
one_pushed None = refl
one_pushed (Some x) = refl

pub filter_map-push : {Line X : Type 0} (says : Line → Option X) (lines : List Line) (line : Line) →
    filter_map says (lines ++ line ∷ []) ≡ pushed (filter_map says lines) (says line)
filter_map-push says [] line = one_pushed (says line)
filter_map-push says (first ∷ lines) line =
    ap (cons_option (says first)) (filter_map-push says lines line) ∙ cons_pushed (says first) (says line) (filter_map says lines)

some_either : {X : Type 0} (a b : Option X) → is_some (option_or a b) ≡ is_some b || is_some a
some_either None None = refl
some_either None (Some y) = refl
some_either (Some x) None = refl
some_either (Some x) (Some y) = refl

pub is_some-the : {Line X : Type 0} (says : Line → Option X) (test : Line → Bool) → ((line : Line) → is_some (says line) ≡ test line) →
    (lines : List Line) → is_some (the says lines) ≡ list_any test lines
is_some-the says test same [] = refl
is_some-the says test same (line ∷ lines) =
    some_either (the says lines) (says line) ∙ ap (λ b. b || is_some (the says lines)) (same line) ∙ ap (λ b. test line || b) (is_some-the says test same lines)

swapped : (a b c : Bool) → (a || (b || c)) ≡ (b || (a || c))
swapped true true c = refl
swapped true false c = refl
swapped false b c = refl

pub any-push : {X : Type 0} (test : X → Bool) (xs : List X) (x : X) → list_any test (xs ++ x ∷ []) ≡ (test x || list_any test xs)
any-push test [] x = refl
any-push test (y ∷ xs) x = ap (λ b. test y || b) (any-push test xs x) ∙ swapped (test y) (test x) (list_any test xs)

any_option : {X : Type 0} (test : X → Bool) (o : Option X) (xs : List X) → list_any test (cons_option o xs) ≡ option_map_or test o false || list_any test xs
any_option test None xs = refl
any_option test (Some x) xs = refl

pub any_filtered : {Line X : Type 0} (says : Line → Option X) (names : X → Bool) (test : Line → Bool) →
    ((line : Line) → option_map_or names (says line) false ≡ test line) → (lines : List Line) → list_any names (filter_map says lines) ≡ list_any test lines
any_filtered says names test same [] = refl
any_filtered says names test same (line ∷ lines) =
    any_option names (says line) (filter_map says lines) ∙ ap (λ b. b || list_any names (filter_map says lines)) (same line)
    ∙ ap (λ b. test line || b) (any_filtered says names test same lines)

count_option : {X : Type 0} (test : X → Bool) (o : Option X) (xs : List X) → count_by test (cons_option o xs) ≡ cond (option_map_or test o false) 1 0 + count_by test xs
count_option test None xs = omega arith
count_option test (Some x) xs = sum_by-cons (λ y. cond (test y) 1 0) x xs

pub count_filtered : {Line X : Type 0} (says : Line → Option X) (names : X → Bool) (test : Line → Bool) →
    ((line : Line) → option_map_or names (says line) false ≡ test line) → (lines : List Line) → count_by names (filter_map says lines) ≡ count_by test lines
count_filtered says names test same [] = refl
count_filtered says names test same (line ∷ lines) =
    count_option names (says line) (filter_map says lines)
    ∙ (λ i. cond (same line i) 1 0 + count_filtered says names test same lines i) ∙ sym (sum_by-cons (λ l. cond (test l) 1 0) line lines)

-- ---- the lines of a config

-- the line, unless it is beyond what may stand
abbrev pub fresh : {L : Type 0} → (L → List L → Bool) → List L → Option L → Option L
fresh is_beyond before None = None
fresh is_beyond before (Some line) = cond (is_beyond line before) None (Some line)

-- the line that is said behind these lines, or the number of a bad one
abbrev pub line_behind : {L : Type 0} → (ℕ → List (List ℕ) → Option L) → (L → List L → Bool) → List L → Said → Result L ℕ
line_behind spelled is_beyond before (Says number text) = ok_or (fresh is_beyond before (option_and_then (spelled number) (words_of text))) number
line_behind spelled is_beyond before (NoText number) = Err number

pub from_next : {L : Type 0} (spelled : ℕ → List (List ℕ) → Option L) (is_beyond : L → List L → Bool) (before : List L) (next : Said) (others : List Said) →
    with_lines (with_line spelled is_beyond) before (next ∷ others)
    ≡ and_then (λ line. with_lines (with_line spelled is_beyond) (before ++ line ∷ []) others) (line_behind spelled is_beyond before next)
from_next spelled is_beyond before (NoText number) others = refl
from_next {L} spelled is_beyond before (Says number text) others = of_words (words_of text)
  where
    by_test : (line : L) (b : Bool) →
        and_then (λ lines. with_lines (with_line spelled is_beyond) lines others) (ok_or (cond b None (Some (before ++ line ∷ []))) number)
        ≡ and_then (λ line. with_lines (with_line spelled is_beyond) (before ++ line ∷ []) others) (ok_or (cond b None (Some line)) number)
    by_test line true = refl
    by_test line false = refl

    of_line : (o : Option L) →
        and_then (λ lines. with_lines (with_line spelled is_beyond) lines others)
        (ok_or (o >>= λ line. cond (is_beyond line before) None (Some (before ++ line ∷ []))) number)
        ≡ and_then (λ line. with_lines (with_line spelled is_beyond) (before ++ line ∷ []) others) (ok_or (fresh is_beyond before o) number)
    of_line None = refl
    of_line (Some line) = by_test line (is_beyond line before)

    of_words : (o : Option (List (List ℕ))) →
        and_then (λ lines. with_lines (with_line spelled is_beyond) lines others)
        (ok_or (o >>= λ words. spelled number words >>= λ line. cond (is_beyond line before) None (Some (before ++ line ∷ []))) number)
        ≡ and_then (λ line. with_lines (with_line spelled is_beyond) (before ++ line ∷ []) others)
        (ok_or (fresh is_beyond before (option_and_then (spelled number) o)) number)
    of_words None = refl
    of_words (Some words) = of_line (spelled number words)

-- words spell this line
abbrev pub IsSpelled : {L : Type 0} → (ℕ → List (List ℕ) → Option L) → L → Type 0
IsSpelled spelled line = (number : ℕ) × (words : List (List ℕ)) × (spelled number words ≡ Some line)

-- what holds of lines and of what is still to be said, and still does with a line that may stand, holds of all lines
pub kept : {L : Type 0} (spelled : ℕ → List (List ℕ) → Option L) (is_beyond : L → List L → Bool) (P : List L → List Said → Type 0) →
    ((before : List L) (line : L) (next : Said) (others : List Said) → IsSpelled spelled line → is_beyond line before ≡ false → P before (next ∷ others) →
    P (before ++ line ∷ []) others) →
    (before : List L) (says : List Said) → P before says → IfOk (with_lines (with_line spelled is_beyond) before says) (λ lines. P lines [])
kept spelled is_beyond P step before [] h = h
kept spelled is_beyond P step before (NoText number ∷ others) h = tt
kept {L} spelled is_beyond P step before (Says number text ∷ others) h =
    of_words (words_of text)
    (λ line by new. kept spelled is_beyond P step (before ++ line ∷ []) others (step before line (Says number text) others by new h))
  where
    by_test : (line : L) (b : Bool) →
        (b ≡ false → IfOk (with_lines (with_line spelled is_beyond) (before ++ line ∷ []) others) (λ lines. P lines [])) →
        IfOk (and_then (λ lines. with_lines (with_line spelled is_beyond) lines others) (ok_or (cond b None (Some (before ++ line ∷ []))) number))
        (λ lines. P lines [])
    by_test line true rest = tt
    by_test line false rest = rest refl

    of_line : (words : List (List ℕ)) (o : Option L) → spelled number words ≡ o →
        ((line : L) → IsSpelled spelled line → is_beyond line before ≡ false →
        IfOk (with_lines (with_line spelled is_beyond) (before ++ line ∷ []) others) (λ lines. P lines [])) →
        IfOk (and_then (λ lines. with_lines (with_line spelled is_beyond) lines others)
        (ok_or (o >>= λ line. cond (is_beyond line before) None (Some (before ++ line ∷ []))) number))
        (λ lines. P lines [])
    of_line words None is rest = tt
    of_line words (Some line) is rest = by_test line (is_beyond line before) (rest line (number, words, is))

    of_words : (o : Option (List (List ℕ))) →
        ((line : L) → IsSpelled spelled line → is_beyond line before ≡ false →
        IfOk (with_lines (with_line spelled is_beyond) (before ++ line ∷ []) others) (λ lines. P lines [])) →
        IfOk (and_then (λ lines. with_lines (with_line spelled is_beyond) lines others)
        (ok_or (o >>= λ words. spelled number words >>= λ line. cond (is_beyond line before) None (Some (before ++ line ∷ []))) number))
        (λ lines. P lines [])
    of_words None rest = tt
    of_words (Some words) rest = of_line words (spelled number words) refl rest

-- the lines of which a config is made
pub of_lines : {L C : Type 0} (config_of : List L → Option C) (P : List L → Type 0) (r : Result (List L) ℕ) (config : C) → IfOk r P →
    and_then (λ (lines : List L). ok_or {E = ℕ} (config_of lines) 0) r ≡ Ok config → (lines : List L) × P lines × (config_of lines ≡ Some config)
of_lines config_of P (Err line) config h e = absurd (cc)
of_lines {L} {C} config_of P (Ok lines) config h e = (lines, h, whole (config_of lines) e)
  where
    whole : (o : Option C) → ok_or {E = ℕ} o 0 ≡ Ok config → o ≡ Some config
    whole None e = absurd (cc)
    whole (Some c) e = let same : c ≡ config = cc in ap Some same
