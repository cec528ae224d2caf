-- Where a mark such as ]]> stands in bytes, and where it does not.
use Rattle.std.proofs.Common.{◌≡◌, ℕ, ◌+◌, ◌<◌, ◌≤◌, Bool, true, false, cond, ◌&&◌, ◌||◌, not, ◌==◌, nat_eq, nat_lt, List, [], ◌∷◌, ◌++◌, length, take, drop, get_or, codes, IsTrue, Option, Some, None, is_some, refl, sym, ◌∙◌, ap, arith, append_assoc, append-nil, length-append, length-drop}
use Rattle.std.specs.List.{starts_with, list_all}
use Rattle.std.specs.Bool.{MatchBool}
use Rattle.std.specs.Option.{MatchOption, option_map}
use Rattle.std.specs.Str.{str_to_ascii_lowercase}
use Rattle.std.specs.Str.Pattern.{FindsText, LacksTextAt, SplitsAroundMatch, HasMatch}
use Rattle.std.proofs.lemmas.List.{take-append-drop, take_all}
use Rattle.std.proofs.Math.Seq.{drop-append_seam}
use borrow.Author.Tests.{ltb-true, ltb-false}
use denote.Ref.{Bor}
use Rattle.xml_spec.specs.Bytes.{AllPass, has, begins_with}
use Rattle.xml_spec.specs.Characters.{at_colon}
use Rattle.xml_spec.proofs.Tests.{both_true, and_true, first_true, second_true}
use Rattle.xml_spec.proofs.Runs.{equal_test}
use Rattle.xml_spec.proofs.Ends.{or_fails}
use Rattle.xml_tokens.specs.Lexing.{CutAt, is_other}

same_number : (m n : ℕ) → (m == n) ≡ true → m ≡ n
same_number m n h = grind arith

-- bytes that start with a pattern are the pattern and more
starts_from : (pattern bytes : List ℕ) → starts_with nat_eq bytes pattern ≡ true → (x : List ℕ) × (bytes ≡ pattern ++ x)
starts_from [] bytes h = (bytes, refl)
starts_from (p ∷ pattern) [] h = absurd (let clash : false ≡ true = h in cc)
starts_from (p ∷ pattern) (b ∷ bytes) h =
    let both = both_true (nat_eq p b) (starts_with nat_eq bytes pattern) h in
    let rest = starts_from pattern bytes both.1 in
    let first : b ≡ p = sym (same_number p b both.0) in
    (rest.0, λ i. first i ∷ rest.1 i)

starts_itself : (pattern x : List ℕ) → starts_with nat_eq (pattern ++ x) pattern ≡ true
starts_itself [] x = refl
starts_itself (p ∷ pattern) x = and_true (nat_eq p p) (starts_with nat_eq (pattern ++ x) pattern) (equal_test p) (starts_itself pattern x)

has_back : (p a b : List ℕ) → has p b ≡ true → has p (a ++ b) ≡ true
has_back p [] b h = h
has_back p (x ∷ a) b h = second_true (starts_with nat_eq (x ∷ (a ++ b)) p) (has p (a ++ b)) (has_back p a b h)

has_itself : (mark x : List ℕ) → 0 < length mark → has mark (mark ++ x) ≡ true
has_itself [] x l = absurd (omega arith)
has_itself (m ∷ mark) x l = first_true (starts_with nat_eq (m ∷ (mark ++ x)) (m ∷ mark)) (has (m ∷ mark) (mark ++ x)) (starts_itself (m ∷ mark) x)

-- where the mark stands, the bytes have it
pub has_found : (mark front x bytes : List ℕ) → 0 < length mark → bytes ≡ front ++ (mark ++ x) → has mark bytes ≡ true
has_found mark front x bytes l e = ap (has mark) e ∙ has_back mark front (mark ++ x) (has_itself mark x l)

by_test : (b : Bool) → (b ≡ true → ⊥) → b ≡ false
by_test true h = absurd (h refl)
by_test false h = refl

-- where the mark begins nowhere in the front, and not in the tail, the two have no mark
lacks_in : (mark front tail rest : List ℕ) → has mark tail ≡ false →
    ((a x : List ℕ) → length a < length front → ¬ ((front ++ tail) ++ rest ≡ a ++ (mark ++ x))) → has mark (front ++ tail) ≡ false
lacks_in mark [] tail rest h n = h
lacks_in mark (b ∷ front) tail rest h n =
    or_fails (starts_with nat_eq (b ∷ (front ++ tail)) mark) (has mark (front ++ tail))
    (by_test (starts_with nat_eq (b ∷ (front ++ tail)) mark)
    (λ (yes : starts_with nat_eq (b ∷ (front ++ tail)) mark ≡ true). let found = starts_from mark (b ∷ (front ++ tail)) yes in
    n [] (found.0 ++ rest) (omega arith) (ap (λ z. z ++ rest) found.1 ∙ append_assoc mark found.0 rest)))
    (lacks_in mark front tail rest h
    (λ a x l e. n (b ∷ a) x (let short : length a < length front = l in omega arith) (ap (λ z. b ∷ z) e)))

-- what stands before the first mark has none, with the mark's own bytes but for its last
pub front_lacks : (mark bytes front behind tail more : List ℕ) → CutAt mark bytes front behind → mark ++ behind ≡ tail ++ more →
    has mark tail ≡ false → has mark (front ++ tail) ≡ false
front_lacks mark bytes front behind tail more cut e h =
    lacks_in mark front tail more h (λ a x l f. cut.first a x l (cut.split ∙ ap (λ z. front ++ z) e ∙ sym (append_assoc front tail more) ∙ f))

pub front_has_none : (mark bytes front behind : List ℕ) → CutAt mark bytes front behind → has mark front ≡ false
front_has_none mark bytes front behind cut =
    ap (has mark) (sym (append-nil front)) ∙ front_lacks mark bytes front behind [] (mark ++ behind) cut refl refl

lacks_at : (mark bytes a x : List ℕ) → LacksTextAt mark bytes (length a) → ¬ (bytes ≡ a ++ (mark ++ x))
lacks_at mark bytes a x lacks e = lacks x (ap (drop (length a)) e ∙ drop-append_seam a (mark ++ x))

fits : (mark bytes a x : List ℕ) → bytes ≡ a ++ (mark ++ x) → length a ≤ length bytes
fits mark bytes a x e =
    let whole : length bytes ≡ length a + length (mark ++ x) = ap length e ∙ length-append a (mark ++ x) in
    omega arith

-- what the search for a mark says
pub split_found : (mark bytes : List ℕ) (r : Option (Bor (List ℕ) × Bor (List ℕ))) →
    MatchOption r (FindsText mark bytes None) (λ x. SplitsAroundMatch (FindsText mark) bytes x.0.now x.1.now) →
    MatchOption r ((front behind : List ℕ) → ¬ (bytes ≡ front ++ (mark ++ behind))) (λ found. CutAt mark bytes found.0.now found.1.now)
split_found mark bytes None h = λ front behind e. lacks_at mark bytes front behind (h (length front) (fits mark bytes front behind e)) e
split_found mark bytes (Some x) h = record {
  split = sym (take-append-drop h.0 bytes) ∙ (λ i. sym h.3 i ++ (h.2.1.split ∙ ap (λ z. mark ++ z) (sym h.4)) i);
  first = λ a rest l e. lacks_at mark bytes a rest (h.2.0 (length a) (let place : length x.0.now ≡ h.0 = h.6 in omega arith)) e;
}

has_by_match : (mark bytes : List ℕ) (r : Bool) → 0 < length mark →
    MatchBool r (HasMatch (FindsText mark) bytes) (FindsText mark bytes None) → r ≡ has mark bytes
has_by_match mark bytes true l h =
    sym (has_found mark (take h.0 bytes) (drop h.1 bytes) bytes l
    (sym (take-append-drop h.0 bytes) ∙ ap (λ z. take h.0 bytes ++ z) h.2.1.split))
has_by_match mark bytes false l h =
    sym (ap (has mark) (sym (append-nil bytes)) ∙ lacks_in mark bytes [] [] refl
    (λ a x short e. let whole : bytes ≡ a ++ (mark ++ x) = sym (append-nil bytes ∙ refl) ∙ sym (append-nil (bytes ++ [])) ∙ e in
    lacks_at mark bytes a x (h (length a) (fits mark bytes a x whole)) whole))

pub has_by_contains : (mark bytes : List ℕ) (r : Bool) → 0 < length mark →
    MatchBool r (HasMatch (FindsText mark) bytes) (FindsText mark bytes None) → r ≡ has mark bytes
has_by_contains mark bytes r l h = has_by_match mark bytes r l h

-- a name has a colon where it can be cut at one
colon_turned : (b : ℕ) → (b == 58) ≡ (58 == b)
colon_turned b = grind arith

some_mapped : (o : Option (List ℕ × List ℕ)) (f : List ℕ × List ℕ → List ℕ × List ℕ) → is_some (option_map f o) ≡ is_some o
some_mapped None f = refl
some_mapped (Some x) f = refl

pub colon_test : (bytes : List ℕ) → is_some (at_colon bytes) ≡ has (58 ∷ []) bytes
colon_test [] = refl
colon_test (b ∷ bytes) = which (b == 58) (58 == b) (colon_turned b) (colon_test bytes)
  where
    which : (c d : Bool) → c ≡ d → is_some (at_colon bytes) ≡ has (58 ∷ []) bytes →
        is_some {T = List ℕ × List ℕ} (cond c (Some ([], bytes)) (option_map (λ parts. (b ∷ parts.0, parts.1)) (at_colon bytes))) ≡ ((d && true) || has (58 ∷ []) bytes)
    which true true e h = refl
    which false false e h = some_mapped (at_colon bytes) (λ parts. (b ∷ parts.0, parts.1)) ∙ h
    which true false e h = absurd (let clash : true ≡ false = e in cc)
    which false true e h = absurd (let clash : false ≡ true = e in cc)

no_some : (o : Option (List ℕ × List ℕ)) → is_some o ≡ false → o ≡ None
no_some None h = refl
no_some (Some x) h = absurd (let clash : true ≡ false = h in cc)

-- a name without a colon is a target where it is not `xml`
pub target_without_colon : (name bytes : List ℕ) (colon same : Bool) → colon ≡ has (58 ∷ []) name → colon ≡ false → bytes ≡ name →
    (IsTrue same → str_to_ascii_lowercase bytes ≡ codes "xml") × (str_to_ascii_lowercase bytes ≡ codes "xml" → IsTrue same) →
    (IsTrue (not same) → (at_colon name ≡ None) × (str_to_ascii_lowercase name ≡ codes "xml" → ⊥))
    × ((at_colon name ≡ None) × (str_to_ascii_lowercase name ≡ codes "xml" → ⊥) → IsTrue (not same))
target_without_colon name bytes colon same e h s test =
    let none : at_colon name ≡ None = no_some (at_colon name) (colon_test name ∙ sym e ∙ h) in (
      (λ (other : IsTrue (not same)). (
        none,
        λ (x : str_to_ascii_lowercase name ≡ codes "xml").
            let yes : same ≡ true = test.1 (ap str_to_ascii_lowercase s ∙ x) in
            let clash : false ≡ true = sym (ap not yes) ∙ other in
            cc,
      )),
      (λ (h : (at_colon name ≡ None) × (str_to_ascii_lowercase name ≡ codes "xml" → ⊥)).
          ap not (by_test same (λ (yes : same ≡ true). h.1 (sym (ap str_to_ascii_lowercase s) ∙ test.0 yes)))),
    )

pub target_with_colon : (name : List ℕ) (colon : Bool) → colon ≡ has (58 ∷ []) name → colon ≡ true →
    (IsTrue (not colon) → (at_colon name ≡ None) × (str_to_ascii_lowercase name ≡ codes "xml" → ⊥))
    × ((at_colon name ≡ None) × (str_to_ascii_lowercase name ≡ codes "xml" → ⊥) → IsTrue (not colon))
target_with_colon name colon e h =
    let found : is_some (at_colon name) ≡ true = colon_test name ∙ sym e ∙ h in (
      (λ (yes : IsTrue (not colon)). absurd (let clash : false ≡ true = sym (ap not h) ∙ yes in cc)),
      (λ (k : (at_colon name ≡ None) × (str_to_ascii_lowercase name ≡ codes "xml" → ⊥)).
          absurd (let clash : false ≡ true = sym (ap is_some k.0) ∙ found in cc)),
    )

-- a test that fails at the byte itself and holds of all others
other_turned : (b x : ℕ) → not (x == b) ≡ false → nat_eq b x ≡ true
other_turned b x h = grind arith

other_kept : (b x : ℕ) → not (x == b) ≡ true → nat_eq b x ≡ false
other_kept b x h = grind arith

-- where all bytes are others, the byte does not stand in them
pub lacks_byte : (b : ℕ) (bytes : List ℕ) → AllPass (is_other b) bytes → has (b ∷ []) bytes ≡ false
lacks_byte b [] h = refl
lacks_byte b (x ∷ bytes) h =
    let both = both_true (not (x == b)) (list_all (is_other b) bytes) h in
    or_fails (nat_eq b x && true) (has (b ∷ []) bytes) (ap (λ t. t && true) (other_kept b x both.0)) (lacks_byte b bytes both.1)

begins_byte : (b : ℕ) (bytes : List ℕ) → 0 < length bytes → begins_with (is_other b) bytes ≡ false → has (b ∷ []) bytes ≡ true
begins_byte b [] l h = absurd (omega arith)
begins_byte b (x ∷ bytes) l h = first_true (nat_eq b x && true) (has (b ∷ []) bytes) (ap (λ t. t && true) (other_turned b x h))

-- where a run of others ends before the bytes do, the byte stands in them
pub has_at_end : (b : ℕ) (bytes : List ℕ) (n : ℕ) → n < length bytes → begins_with (is_other b) (drop n bytes) ≡ false → has (b ∷ []) bytes ≡ true
has_at_end b bytes n l h =
    ap (has (b ∷ [])) (sym (take-append-drop n bytes))
    ∙ has_back (b ∷ []) (take n bytes) (drop n bytes) (begins_byte b (drop n bytes) (omega (arith, length-drop n bytes)) h)

-- the byte stands in the bytes just where a run of others ends before they do
pub has_by_run : (b : ℕ) (bytes : List ℕ) (n : ℕ) → n ≤ length bytes → AllPass (is_other b) (take n bytes) →
    begins_with (is_other b) (drop n bytes) ≡ false → nat_lt n (length bytes) ≡ has (b ∷ []) bytes
has_by_run b bytes n within passes stops = which (nat_lt n (length bytes)) refl
  where
    which : (less : Bool) → nat_lt n (length bytes) ≡ less → less ≡ has (b ∷ []) bytes
    which true e = sym (has_at_end b bytes n (ltb-true n (length bytes) e) stops)
    which false e =
        let whole : length bytes ≤ n = ltb-false n (length bytes) e in
        sym (lacks_byte b bytes (ap (list_all (is_other b)) (sym (take_all n bytes whole)) ∙ passes))

-- bytes without the first of a mark lack the mark
pub lacks_mark : (b : ℕ) (mark bytes : List ℕ) → has (b ∷ []) bytes ≡ false → has (b ∷ mark) bytes ≡ false
lacks_mark b mark [] h = refl
lacks_mark b mark (x ∷ bytes) h = which (nat_eq b x) (starts_with nat_eq bytes mark) h (lacks_mark b mark bytes)
  where
    which : (same more : Bool) → ((same && true) || has (b ∷ []) bytes) ≡ false → (has (b ∷ []) bytes ≡ false → has (b ∷ mark) bytes ≡ false) →
        ((same && more) || has (b ∷ mark) bytes) ≡ false
    which true more h later = absurd (let clash : true ≡ false = h in cc)
    which false more h later = later h

-- the same, where the mark is told by its bytes
pub lacks_by_first : (mark shown bytes : List ℕ) → shown ≡ mark → 1 ≤ length shown → has (get_or shown 0 0 ∷ []) bytes ≡ false → has mark bytes ≡ false
lacks_by_first mark [] bytes e l h = absurd (omega arith)
lacks_by_first mark (m ∷ shown) bytes e l h = ap (λ x. has x bytes) (sym e) ∙ lacks_mark m shown bytes h

pub no_place : (mark bytes : List ℕ) → 0 < length mark → has mark bytes ≡ false → (front behind : List ℕ) → ¬ (bytes ≡ front ++ (mark ++ behind))
no_place mark bytes l h front behind e =
    absurd (let clash : false ≡ true = sym h ∙ has_found mark front behind bytes l e in cc)

-- a name in which no colon stands is not cut
pub lacks_colon : (name : List ℕ) → has (58 ∷ []) name ≡ false → at_colon name ≡ None
lacks_colon name h = no_some (at_colon name) (colon_test name ∙ h)
