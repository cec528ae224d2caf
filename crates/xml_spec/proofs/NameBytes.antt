-- The bytes of a name are none of those that end a name in markup.
use Rattle.std.proofs.Common.{◌≡◌, ℕ, ◌+◌, ◌/◌, ◌<◌, Bool, true, false, cond, ◌&&◌, ◌||◌, not, ◌==◌, nat_lt, nat_le, List, [], ◌∷◌, ◌++◌, length, take, codes, refl, sym, ◌∙◌, ap, subst, arith, length-append}
use Rattle.std.specs.List.{list_all, list_any}
use Rattle.std.proofs.Math.Utf8.{encode, encodes, next}
use Rattle.std.proofs.lemmas.List.Folds.{list_all-append}
use Rattle.std.proofs.lemmas.Str.{encode_ascii}
use borrow.Author.Tests.{le-leb, ltb-true}
use Rattle.xml_spec.specs.Bytes.{AllPass, begins_with}
use Rattle.xml_spec.specs.Characters.{Ranges, in_ranges, name_ranges, name_start_ranges, is_name_start, is_name_char, IsName}
use Rattle.xml_spec.proofs.Tests.{both_true, and_true, second_true}

-- the bytes that follow names in markup, and those that never stand in one
abbrev pub delimiters : List ℕ
delimiters = codes " \t\r\n=/>?<&\"'!;#"

abbrev pub is_name_byte : ℕ → Bool
is_name_byte b = not (list_any (λ d. d == b) delimiters)

abbrev pub is_high : ℕ → Bool
is_high b = nat_le 128 b

-- no number from 128 on is one of these numbers
pub not_among : (ds : List ℕ) (b : ℕ) → list_all (λ d. nat_lt d 128) ds ≡ true → is_high b ≡ true → list_any (λ d. d == b) ds ≡ false
not_among [] b h k = refl
not_among (d ∷ ds) b h k = grind (arith, not_among ds b (both_true (nat_lt d 128) _ h).1 k, (both_true (nat_lt d 128) _ h).0)

pub high_is_name_byte : (b : ℕ) → is_high b ≡ true → is_name_byte b ≡ true
high_is_name_byte b h = ap not (not_among delimiters b refl h)

pub either_all : (P : ℕ → Bool) (b : Bool) (x y : List ℕ) → list_all P x ≡ true → list_all P y ≡ true → list_all P (cond b x y) ≡ true
either_all P true x y h k = h
either_all P false x y h k = k

pub high_next : (c : ℕ) → is_high (next c) ≡ true
high_next c = le-leb 128 (next c) (omega arith)

pub high_encode : (c : ℕ) → nat_lt c 128 ≡ false → list_all is_high (encode c) ≡ true
unfolding encode
high_encode c h = rw h
    (either_all is_high (nat_lt c 2048) _ _
    (and_true _ _ (le-leb 128 (192 + c / 64) (omega arith)) (and_true _ _ (high_next c) refl))
    (either_all is_high (nat_lt c 65536) _ _
    (and_true _ _ (le-leb 128 (224 + c / 4096) (omega arith)) (and_true _ _ (high_next (c / 64)) (and_true _ _ (high_next c) refl)))
    (and_true _ _ (le-leb 128 (240 + c / 262144) (omega arith)) (and_true _ _ (high_next (c / 4096)) (and_true _ _ (high_next (c / 64)) (and_true _ _ (high_next c) refl))))))

pub all_of_higher : (P Q : ℕ → Bool) (bytes : List ℕ) → ((b : ℕ) → P b ≡ true → Q b ≡ true) → list_all P bytes ≡ true → list_all Q bytes ≡ true
all_of_higher P Q [] i h = refl
all_of_higher P Q (b ∷ bytes) i h = and_true _ _ (i b (both_true (P b) _ h).0) (all_of_higher P Q bytes i (both_true (P b) _ h).1)

pub equal_from_test : (d c : ℕ) → (d == c) ≡ true → d ≡ c
equal_from_test d c h = grind arith

pub not_both : (P : ℕ → Bool) (d c : ℕ) → d ≡ c → not (P d) ≡ true → P c ≡ true → ⊥
not_both P d c same fails passes =
    let fails_c : not (P c) ≡ true = subst (λ x. not (P x) ≡ true) same fails in
    let contradiction : not true ≡ true = subst (λ x. not x ≡ true) passes fails_c in
    cc

pub front_fails : (P : ℕ → Bool) (d c : ℕ) (b r : Bool) → (d == c) ≡ b → not (P d) ≡ true → P c ≡ true → r ≡ false → ((d == c) || r) ≡ false
front_fails P d c true r e fails passes rest = absurd (not_both P d c (equal_from_test d c e) fails passes)
front_fails P d c false r e fails passes rest = rw e rest

-- a number that passes a test that none of these passes is none of these
pub passes_none : (P : ℕ → Bool) (ds : List ℕ) (c : ℕ) → list_all (λ d. not (P d)) ds ≡ true → P c ≡ true → list_any (λ d. d == c) ds ≡ false
passes_none P [] c h k = refl
passes_none P (d ∷ ds) c h k =
    front_fails P d c (d == c) _ refl (both_true (not (P d)) _ h).0 k (passes_none P ds c (both_true (not (P d)) _ h).1 k)

pub encodes_as : (c : ℕ) (b : Bool) → nat_lt c 128 ≡ b → is_name_char c ≡ true → list_all is_name_byte (encode c) ≡ true
encodes_as c true e h =
    rw (encode_ascii c (ltb-true c 128 e)) (and_true _ _ (ap not (passes_none is_name_char delimiters c refl h)) refl)
encodes_as c false e h = all_of_higher is_high is_name_byte (encode c) high_is_name_byte (high_encode c e)

pub name_char_encodes : (c : ℕ) → is_name_char c ≡ true → list_all is_name_byte (encode c) ≡ true
name_char_encodes c h = encodes_as c (nat_lt c 128) refl h

pub name_chars_encode : (cs : List ℕ) → list_all is_name_char cs ≡ true → list_all is_name_byte (encodes cs) ≡ true
name_chars_encode [] h = refl
name_chars_encode (c ∷ cs) h =
    list_all-append is_name_byte (encode c) (encodes cs)
    ∙ and_true _ _ (name_char_encodes c (both_true (is_name_char c) _ h).0) (name_chars_encode cs (both_true (is_name_char c) _ h).1)

pub more_ranges : (front ranges : Ranges) (c : ℕ) → in_ranges ranges c ≡ true → in_ranges (front ++ ranges) c ≡ true
more_ranges [] ranges c h = h
more_ranges (range ∷ front) ranges c h =
    second_true (nat_le range.0 c && nat_le c range.1) (in_ranges (front ++ ranges) c) (more_ranges front ranges c h)

-- a character that may begin a name may stand in one
pub start_is_char : (c : ℕ) → is_name_start c ≡ true → is_name_char c ≡ true
start_is_char c h = more_ranges (take 6 name_ranges) name_start_ranges c h

-- the bytes of a name pass
pub name_passes : (name : List ℕ) → IsName name → AllPass is_name_byte name
name_passes name n =
    subst (λ bytes. list_all is_name_byte bytes ≡ true) (sym n.spelled)
    (name_chars_encode (n.first ∷ n.others) (and_true _ _ (start_is_char n.first n.starts) n.goes_on))

pub encode_is_not_empty : (c : ℕ) → 0 < length (encode c)
unfolding encode
encode_is_not_empty c = some_of_four (nat_lt c 128) (nat_lt c 2048) (nat_lt c 65536)
  where
    some_of_four : (a b d : Bool) → 0 < length (cond a (c ∷ []) (cond b ((192 + c / 64) ∷ next c ∷ []) (cond d ((224 + c / 4096) ∷ next (c / 64) ∷ next c ∷ []) ((240 + c / 262144) ∷ next (c / 4096) ∷ next (c / 64) ∷ next c ∷ []))))
    some_of_four true b d = omega arith
    some_of_four false true d = omega arith
    some_of_four false false true = omega arith
    some_of_four false false false = omega arith

pub name_is_not_empty : (name : List ℕ) → IsName name → 0 < length name
name_is_not_empty name n =
    let first : 0 < length (encode n.first) = encode_is_not_empty n.first in
    let whole : length name ≡ length (encode n.first) + length (encodes n.others) =
    ap length n.spelled ∙ length-append (encode n.first) (encodes n.others) in
    omega arith

-- a name has a first byte, which passes
pub name_begins : (name x : List ℕ) → IsName name → begins_with is_name_byte (name ++ x) ≡ true
name_begins name x n = begins name (name_passes name n) (name_is_not_empty name n)
  where
    begins : (bytes : List ℕ) → AllPass is_name_byte bytes → 0 < length bytes → begins_with is_name_byte (bytes ++ x) ≡ true
    begins [] h l = absurd (omega arith)
    begins (b ∷ bytes) h l = (both_true (is_name_byte b) _ h).0
