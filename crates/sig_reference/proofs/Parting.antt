-- A text is read word by word.
use Rattle.std.proofs.Common.{◌≡◌, ℕ, ◌+◌, ◌-◌, ◌<◌, ◌≤◌, true, false, List, slice_get, Some, unwrap_or, [], ◌∷◌, ◌++◌, length, take, drop, get_or, append_assoc, refl, sym, ap, ◌∙◌, subst, arith, length-drop}
use Rattle.std.proofs.lemmas.List.{take_more, drop_more, get_or-drop}
use Rattle.std.proofs.lemmas.Bool.{cond-true, cond-false}
use Rattle.std.proofs.lemmas.Bool.Decides.{nat_tests}
use Rattle.std.proofs.lemmas.Option.{slice_get_within, unwrap_or-slice_get}
use Rattle.std.specs.List.{AllByRecursion}
use Rattle.xml_spec.specs.Syntax.{is_white}
use Rattle.sig_reference.specs.Form.{with_word, words_from, words}

-- a word in front of words is that word, if it is one, and then those
with_word_front : (word : List ℕ) (others : List (List ℕ)) → with_word word others ≡ with_word word [] ++ others
with_word_front [] others = refl
with_word_front (b ∷ word) others = refl

-- white space ends the word that is open
word_ends : (found : List (List ℕ)) (word : List ℕ) (b : ℕ) (bytes : List ℕ) → is_white b ≡ true →
    found ++ words_from word (b ∷ bytes) ≡ (found ++ with_word word []) ++ words_from [] bytes
word_ends found word b bytes e =
    ap (λ ws. found ++ ws) (cond-true (is_white b) _ _ e ∙ with_word_front word (words_from [] bytes))
    ∙ sym (append_assoc found (with_word word []) (words_from [] bytes))

-- another byte is a part of it
word_goes_on : (word : List ℕ) (b : ℕ) (bytes : List ℕ) → is_white b ≡ false →
    words_from word (b ∷ bytes) ≡ words_from (word ++ b ∷ []) bytes
word_goes_on word b bytes e = cond-false (is_white b) _ _ e

word_grows : (text : List ℕ) (start i : ℕ) → start ≤ i → i < length text →
    take (i - start) (drop start text) ++ get_or text i 0 ∷ [] ≡ take (i + 1 - start) (drop start text)
word_grows text start i h less =
    let place : start + (i - start) ≡ i = omega arith in
    let more : i - start + 1 ≡ i + 1 - start = omega arith in
    ap (λ b. take (i - start) (drop start text) ++ b ∷ []) (sym (get_or-drop start text (i - start) 0 ∙ ap (λ k. get_or text k 0) place))
    ∙ sym (take_more (drop start text) (i - start) 0 (omega (arith, length-drop start text)))
    ∙ ap (λ n. take n (drop start text)) more

-- white space at place i: the word from `start` on is found, and the next begins behind it
pub past_white : (text : List ℕ) (found more : List (List ℕ)) (start i : ℕ) → i < length text →
    is_white (get_or text i 0) ≡ true →
    found ++ words_from (take (i - start) (drop start text)) (drop i text) ≡ words text →
    more ≡ found ++ with_word (take (i - start) (drop start text)) [] →
    more ++ words_from (take (i + 1 - (i + 1)) (drop (i + 1) text)) (drop (i + 1) text) ≡ words text
past_white text found more start i less white same e =
    let none : i + 1 - (i + 1) ≡ 0 = omega arith in
    ap (λ n. more ++ words_from (take n (drop (i + 1) text)) (drop (i + 1) text)) none
    ∙ ap (λ ws. ws ++ words_from [] (drop (i + 1) text)) e
    ∙ sym (word_ends found (take (i - start) (drop start text)) (get_or text i 0) (drop (i + 1) text) white)
    ∙ ap (λ bytes. found ++ words_from (take (i - start) (drop start text)) bytes) (sym (drop_more text i 0 less)) ∙ same

-- another byte there
pub past_other : (text : List ℕ) (found : List (List ℕ)) (start i : ℕ) → start ≤ i → i < length text →
    is_white (get_or text i 0) ≡ false →
    found ++ words_from (take (i - start) (drop start text)) (drop i text) ≡ words text →
    found ++ words_from (take (i + 1 - start) (drop start text)) (drop (i + 1) text) ≡ words text
past_other text found start i h less other same =
    ap (λ word. found ++ words_from word (drop (i + 1) text)) (sym (word_grows text start i h less))
    ∙ ap (λ ws. found ++ ws) (sym (word_goes_on (take (i - start) (drop start text)) (get_or text i 0) (drop (i + 1) text) other))
    ∙ ap (λ bytes. found ++ words_from (take (i - start) (drop start text)) bytes) (sym (drop_more text i 0 less)) ∙ same

-- the element at a place is the first of those from there on
drop_get : {X : Type 0} (xs : List X) (i : ℕ) (x : X) → slice_get xs i ≡ Some x → drop i xs ≡ x ∷ drop (i + 1) xs
drop_get xs i x e =
    drop_more xs i x (slice_get_within xs i x e)
    ∙ ap (λ y. y ∷ drop (i + 1) xs) (sym (unwrap_or-slice_get xs i x) ∙ ap (λ o. unwrap_or o x) e)

-- what holds of each from a place on holds of the one there and of each behind it
pub all_behind : {X : Type 0} (P : X → Type 0) (xs : List X) (i : ℕ) (x : X) → slice_get xs i ≡ Some x → P x →
    (AllByRecursion P xs → AllByRecursion P (drop i xs)) × (AllByRecursion P (drop i xs) → AllByRecursion P xs) →
    (AllByRecursion P xs → AllByRecursion P (drop (i + 1) xs)) × (AllByRecursion P (drop (i + 1) xs) → AllByRecursion P xs)
all_behind P xs i x e here h = (
  λ all. let there : P x × AllByRecursion P (drop (i + 1) xs) = subst (AllByRecursion P) (drop_get xs i x e) (h.0 all) in there.1,
  λ behind. h.1 (subst (AllByRecursion P) (sym (drop_get xs i x e)) (here, behind)),
)

pub white_is_ascii : (b : ℕ) → is_white b ≡ true → b < 128
white_is_ascii b e = grind (arith, nat_tests)
