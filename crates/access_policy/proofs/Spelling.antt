-- What the first words of conditions and the first bytes of words spell.
use Rattle.std.proofs.Common.{◌≡◌, ◌≢◌, ℕ, ◌<◌, ◌≤◌, ◌+◌, ◌-◌, Bool, true, false, cond, ◌==◌, List, [], ◌∷◌, ◌++◌, length, get_or, drop, take, ◌||◌, nat_eq, subst, codes, Option, None, Some, refl, sym, ap, ◌∙◌, arith, append_assoc}
use Rattle.std.proofs.lemmas.Bool.Decides.{nat_tests}
use Rattle.std.specs.Option.{option_map}
use Rattle.std.specs.List.{ends_with}
use Rattle.std.specs.Str.{bytes_eq}
use Rattle.std.proofs.lemmas.List.{take_all, length-drop, get_or-drop}
use Rattle.std.proofs.lemmas.List.Folds.{list_any-append}
use Rattle.std.proofs.lemmas.Slice.Eq.{bytes_eq-Decides}
use Rattle.access_policy.specs.declared.rule.Rule.{Rule}
use Rattle.access_policy.specs.Rules.{has_rule}
use Rattle.access_policy.specs.Conditions.{hex_byte, put, unescaped}

other_byte : (b c : ℕ) → b ≢ c → (b == c) ≡ false
other_byte b c h = grind (arith, nat_tests)

same_byte : (b c : ℕ) → b ≡ c → (b == c) ≡ true
same_byte b c h = grind (arith, nat_tests)

rest_is : (n : ℕ) (word : List ℕ) → take (length word - n) (drop n word) ≡ drop n word
rest_is n word = take_all (length word - n) (drop n word) (omega (arith, length-drop n word))

shorter : (n : ℕ) (word : List ℕ) → 0 < n → n ≤ length word → length (take (length word - n) (drop n word)) < length word
shorter n word some within = rw (rest_is n word) (omega (arith, length-drop n word))

plain : (word : List ℕ) → 0 < length word → get_or word 0 0 ≢ 92 → unescaped word ≡ option_map (λ bytes. get_or word 0 0 ∷ bytes) (unescaped (drop 1 word))
plain [] some other = absurd (omega arith)
plain (b ∷ []) some other = ap (λ t. cond t None (Some (b ∷ []))) (other_byte b 92 other)
plain (b ∷ c ∷ []) some other = ap (λ t. cond t None (put (Some b) (unescaped (c ∷ [])))) (other_byte b 92 other)
plain (b ∷ c ∷ d ∷ bytes) some other =
    ap (λ t. cond t (put (hex_byte c d) (unescaped bytes)) (put (Some b) (unescaped (c ∷ d ∷ bytes)))) (other_byte b 92 other)

escaped : (word : List ℕ) (byte : ℕ) → 3 ≤ length word → get_or word 0 0 ≡ 92 → hex_byte (get_or word 1 0) (get_or word 2 0) ≡ Some byte →
    unescaped word ≡ option_map (λ bytes. byte ∷ bytes) (unescaped (drop 3 word))
escaped [] byte three first digits = absurd (omega arith)
escaped (b ∷ []) byte three first digits = absurd (omega arith)
escaped (b ∷ c ∷ []) byte three first digits = absurd (omega arith)
escaped (b ∷ c ∷ d ∷ bytes) byte three first digits =
    ap (λ t. cond t (put (hex_byte c d) (unescaped bytes)) (put (Some b) (unescaped (c ∷ d ∷ bytes)))) (same_byte b 92 first)
    ∙ ap (λ o. put o (unescaped bytes)) digits

pub plain_first : (word : List ℕ) → 0 < length word → get_or word 0 0 ≢ 92 →
    (unescaped word ≡ option_map (λ bytes. get_or word 0 0 ∷ bytes) (unescaped (take (length word - 1) (drop 1 word))))
    × (length (take (length word - 1) (drop 1 word)) < length word)
plain_first word some other =
    (plain word some other ∙ ap (λ rest. option_map (λ bytes. get_or word 0 0 ∷ bytes) (unescaped rest)) (sym (rest_is 1 word)), shorter 1 word (omega arith) (omega arith))

pub escaped_first : (word : List ℕ) (byte : ℕ) → 3 ≤ length word → get_or word 0 0 ≡ 92 → hex_byte (get_or word 1 0) (get_or word 2 0) ≡ Some byte →
    (unescaped word ≡ option_map (λ bytes. byte ∷ bytes) (unescaped (take (length word - 3) (drop 3 word))))
    × (length (take (length word - 3) (drop 3 word)) < length word)
escaped_first word byte three first digits =
    (escaped word byte three first digits ∙ ap (λ rest. option_map (λ bytes. byte ∷ bytes) (unescaped rest)) (sym (rest_is 3 word)), shorter 3 word (omega arith) three)

-- the star that a word ends with is one byte
pub star_is_ascii : (word : List ℕ) → ends_with nat_eq word (codes "/*") ≡ true → 2 ≤ length word → get_or word (length word - 1) 0 < 128
star_is_ascii word ends two =
    let same : codes "/*" ≡ drop (length word - 2) word = (bytes_eq-Decides (codes "/*") (drop (length word - 2) word)).0 ends in
    let star : get_or (drop (length word - 2) word) 1 0 ≡ 42 = ap (λ (xs : List ℕ). get_or xs 1 0) (sym same) in
    let index : (length word - 2) + 1 ≡ length word - 1 = omega arith in
    subst (λ (k : ℕ). get_or word k 0 < 128) index (omega (arith, star, get_or-drop (length word - 2) word 1 0))

-- one more rule has its name
pub one_more_rule : (rules : List Rule) (rule : Rule) (key name : List ℕ) (known : Bool) → key ≡ rule.name → known ≡ has_rule rules name →
    cond (bytes_eq key name) true known ≡ has_rule (rules ++ rule ∷ []) name
one_more_rule rules rule key name known same is =
    ap (λ (k : List ℕ). cond (bytes_eq k name) true known) same ∙ ap (cond (bytes_eq rule.name name) true) is
    ∙ either (bytes_eq rule.name name) (has_rule rules name) ∙ sym (list_any-append (λ (r : Rule). bytes_eq r.name name) rules (rule ∷ []))
  where
    either : (t b : Bool) → cond t true b ≡ (b || (t || false))
    either true true = refl
    either true false = refl
    either false true = refl
    either false false = refl

-- what is found so far, and one more in front of the rest
pub one_found : {X : Type 0} (found : List X) (x : X) (all rest more : Option (List X)) →
    all ≡ option_map (λ xs. found ++ xs) more → more ≡ option_map (λ xs. x ∷ xs) rest →
    all ≡ option_map (λ xs. (found ++ x ∷ []) ++ xs) rest
one_found found x all None more is first = is ∙ ap (option_map (λ xs. found ++ xs)) first
one_found found x all (Some xs) more is first =
    is ∙ ap (option_map (λ xs. found ++ xs)) first ∙ ap Some (sym (append_assoc found (x ∷ []) xs))
