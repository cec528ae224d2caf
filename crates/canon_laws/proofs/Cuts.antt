-- Where a text may be cut into two texts: in front of ASCII, behind ASCII, and at its end.
use Rattle.std.proofs.Common.{◌≡◌, ℕ, ◌+◌, ◌/◌, ◌<◌, ◌≤◌, Bool, true, false, cond, nat_lt, List, [], ◌∷◌, ◌++◌, refl, sym, ◌∙◌, ap, subst, arith}
use Rattle.std.specs.List.{list_all}
use Rattle.std.proofs.Math.Utf8.{encode, encodes}
use Rattle.std.proofs.lemmas.Str.{encode_ascii}
use borrow.Author.Tests.{le-leb, leb-true, ltb-true}
use Rattle.xml_spec.specs.Bytes.{AllPass, begins_with}
use Rattle.xml_spec.specs.Characters.{is_char, IsText}
use Rattle.xml_spec.proofs.Tests.{both_true}
use Rattle.canon_laws.proofs.Bytes.{is_high, high_encode}
use Rattle.canon_laws.proofs.Texts.{empty_text, text_append, character_text}

abbrev pub is_low : ℕ → Bool
is_low b = nat_lt b 128

-- a text may be cut in front of these bytes
abbrev pub begins_low : List ℕ → Bool
begins_low [] = true
begins_low (b ∷ bytes) = is_low b

low_not_high : (b : ℕ) → is_low b ≡ true → is_high b ≡ true → ⊥
low_not_high b l h =
    let low : b < 128 = ltb-true b 128 l in
    let high : 128 ≤ b = leb-true 128 b h in
    omega arith

-- bytes from 128 on stand in front of the cut
record IsBefore (high x y r : List ℕ) : Type 0 where
  others : List ℕ
  is : x ≡ high ++ others
  behind : r ≡ others ++ y

high_before : (high x y r : List ℕ) → list_all is_high high ≡ true → begins_low y ≡ true → high ++ r ≡ x ++ y → IsBefore high x y r
high_before [] x y r h l e = record { others = x; is = refl; behind = e }
high_before (b ∷ high) [] [] r h l e = absurd (cc)
high_before (b ∷ high) [] (c ∷ y) r h l e =
    let same : b ≡ c = cc in
    absurd (low_not_high b (subst (λ d. is_low d ≡ true) (sym same) l) (both_true (is_high b) _ h).0)
high_before (b ∷ high) (c ∷ x) y r h l e =
    let same : b ≡ c = cc in
    let tails : high ++ r ≡ x ++ y = cc in
    let later = high_before high x y r (both_true (is_high b) _ h).1 l tails in
    record { others = later.others; is = λ i. sym same i ∷ later.is i; behind = later.behind }

-- two texts
pub record AreTexts (x y : List ℕ) : Type 0 where
  pub front : IsText x
  pub back : IsText y

text_of : (cs bytes : List ℕ) → list_all is_char cs ≡ true → encodes cs ≡ bytes → IsText bytes
text_of cs bytes h e = record { characters = cs; allowed = h; spelled = sym e }

cut_characters : (cs x y : List ℕ) → list_all is_char cs ≡ true → begins_low y ≡ true → encodes cs ≡ x ++ y → AreTexts x y
cut_characters cs [] y h l e = record { front = empty_text; back = text_of cs y h e }
cut_characters [] (b ∷ x) y h l e = absurd (cc)
cut_characters (c ∷ cs) (b ∷ x) y h l e = which (nat_lt c 128) refl (λ z f. cut_characters cs z y allowed.1 l f)
  where
    allowed : (is_char c ≡ true) × (list_all is_char cs ≡ true)
    allowed = both_true (is_char c) (list_all is_char cs) h

    which : (low : Bool) → nat_lt c 128 ≡ low → ((z : List ℕ) → encodes cs ≡ z ++ y → AreTexts z y) → AreTexts (b ∷ x) y
    which true low behind =
        let alone : encode c ≡ c ∷ [] = encode_ascii c (ltb-true c 128 low) in
        let whole : c ∷ encodes cs ≡ b ∷ (x ++ y) = ap (λ z. z ++ encodes cs) (sym alone) ∙ e in
        let same : c ≡ b = cc (whole) in
        let tails : encodes cs ≡ x ++ y = cc (whole) in
        let later = behind x tails in
        record {
          front = subst (λ z. IsText (z ++ x)) (alone ∙ ap (λ d. d ∷ []) same) (text_append (encode c) x (character_text c allowed.0) later.front);
          back = later.back;
        }
    which false high behind =
        let before = high_before (encode c) (b ∷ x) y (encodes cs) (high_encode c high) l e in
        let later = behind before.others before.behind in
        record { front = subst IsText (sym before.is) (text_append (encode c) before.others (character_text c allowed.0) later.front); back = later.back }

-- in front of ASCII, and at the end
pub cut : (x y : List ℕ) → IsText (x ++ y) → begins_low y ≡ true → AreTexts x y
cut x y t l = cut_characters t.characters x y t.allowed l (sym t.spelled)

either_begins : (b : Bool) (x y : List ℕ) → begins_with is_high x ≡ true → begins_with is_high y ≡ true → begins_with is_high (cond b x y) ≡ true
either_begins true x y h k = h
either_begins false x y h k = k

-- a character that is none of ASCII has a first byte, from 128 on
high_begins : (c : ℕ) → nat_lt c 128 ≡ false → begins_with is_high (encode c) ≡ true
unfolding encode
high_begins c h = rw h
    (either_begins (nat_lt c 2048) _ _ (le-leb 128 (192 + c / 64) (omega arith))
    (either_begins (nat_lt c 65536) _ _ (le-leb 128 (224 + c / 4096) (omega arith)) (le-leb 128 (240 + c / 262144) (omega arith))))

first_is_high : (bytes r y : List ℕ) (b : ℕ) → begins_with is_high bytes ≡ true → is_low b ≡ true → bytes ++ r ≡ b ∷ y → ⊥
first_is_high [] r y b h l e = let clash : false ≡ true = h in cc
first_is_high (c ∷ bytes) r y b h l e =
    let same : c ≡ b = cc in
    low_not_high b l (subst (λ d. is_high d ≡ true) same h)

low_first : (cs y : List ℕ) (b : ℕ) → list_all is_char cs ≡ true → is_low b ≡ true → encodes cs ≡ b ∷ y → IsText y
low_first [] y b h l e = absurd (cc)
low_first (c ∷ cs) y b h l e = which (nat_lt c 128) refl
  where
    which : (low : Bool) → nat_lt c 128 ≡ low → IsText y
    which true low =
        let whole : c ∷ encodes cs ≡ b ∷ y = ap (λ z. z ++ encodes cs) (sym (encode_ascii c (ltb-true c 128 low))) ∙ e in
        let tails : encodes cs ≡ y = cc (whole) in
        text_of cs y (both_true (is_char c) (list_all is_char cs) h).1 tails
    which false high = absurd (first_is_high (encode c) (encodes cs) y b (high_begins c high) l e)

-- behind one byte of ASCII
pub behind_one : (b : ℕ) (y : List ℕ) → IsText (b ∷ y) → is_low b ≡ true → IsText y
behind_one b y t l = low_first t.characters y b t.allowed l (sym t.spelled)

-- behind a run of ASCII
pub behind_low : (x y : List ℕ) → IsText (x ++ y) → AllPass is_low x → IsText y
behind_low [] y t l = t
behind_low (b ∷ x) y t l =
    let parts = both_true (is_low b) (list_all is_low x) l in
    behind_low x y (behind_one b (x ++ y) t parts.0) parts.1

-- what follows a run of ASCII, or begins with it, begins low
pub low_begins : (x y : List ℕ) → AllPass is_low x → begins_low y ≡ true → begins_low (x ++ y) ≡ true
low_begins [] y l h = h
low_begins (b ∷ x) y l h = (both_true (is_low b) (list_all is_low x) l).0
