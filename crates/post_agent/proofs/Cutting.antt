-- Bytes that are cut at a byte, and what stands behind a front.
use Rattle.std.proofs.Common.{◌≡◌, ◌≢◌, ℕ, zero, suc, ◌+◌, ◌-◌, ◌<◌, Bool, true, false, cond, ◌==◌, not, nat_eq, List, [], ◌∷◌, ◌++◌, length, take, drop, get_or, None, Some, refl, sym, ap, ◌∙◌, arith}
use Rattle.std.specs.List.{starts_with, list_all}
use Rattle.std.specs.Option.{option_map}
use Rattle.std.specs.Str.{bytes_eq}
use Rattle.std.proofs.lemmas.Bool.Decides.{nat_tests}
use Rattle.std.proofs.lemmas.List.{take_all, length-drop, take-append-drop}
use Rattle.std.proofs.lemmas.Slice.Eq.{bytes_eq-Decides}
use Rattle.xml_spec.proofs.Tests.{both_true}
use Rattle.post_agent.specs.Cuts.{behind, cut, with_first}
use Rattle.post_agent.proofs.Options.{never, some_same, mapped}

pub other_byte : (b c : ℕ) → b ≢ c → (b == c) ≡ false
other_byte b c h = grind (arith, nat_tests)

same_byte : (b c : ℕ) → b ≡ c → (b == c) ≡ true
same_byte b c h = grind (arith, nat_tests)

-- the byte stands at place i, and not in front of it
pub cut_at : (stop : ℕ) (bytes : List ℕ) (i : ℕ) → i < length bytes → ((k : ℕ) → k < i → get_or bytes k 0 ≢ stop) →
    get_or bytes i 0 ≡ stop →
    cut stop bytes ≡ Some (take i bytes, drop (suc i) bytes)
cut_at stop [] i within none here = absurd (omega arith)
cut_at stop (b ∷ bytes) zero within none here =
    ap (λ t. cond t (Some ([], bytes)) (option_map (with_first b) (cut stop bytes))) (same_byte b stop here)
cut_at stop (b ∷ bytes) (suc i) within none here =
    ap (λ t. cond t (Some ([], bytes)) (option_map (with_first b) (cut stop bytes)))
    (other_byte b stop (none 0 (omega arith)))
    ∙ ap (option_map (with_first b)) (cut_at stop bytes i (omega arith) (λ k h. none (suc k) (omega arith)) here)

-- the byte stands nowhere
pub no_cut : (stop : ℕ) (bytes : List ℕ) → ((k : ℕ) → k < length bytes → get_or bytes k 0 ≢ stop) →
    cut stop bytes ≡ None
no_cut stop [] none = refl
no_cut stop (b ∷ bytes) none =
    ap (λ t. cond t (Some ([], bytes)) (option_map (with_first b) (cut stop bytes)))
    (other_byte b stop (none 0 (omega arith)))
    ∙ ap (option_map (with_first b)) (no_cut stop bytes (λ k h. none (suc k) (omega arith)))

rest_is : (n : ℕ) (bytes : List ℕ) → take (length bytes - n) (drop n bytes) ≡ drop n bytes
rest_is n bytes = take_all (length bytes - n) (drop n bytes) (omega (arith, length-drop n bytes))

pub cut_found : (stop : ℕ) (bytes : List ℕ) (i : ℕ) → i < length bytes → ((k : ℕ) → k < i → get_or bytes k 0 ≢ stop) →
    get_or bytes i 0 ≡ stop →
    Some (take i bytes, take (length bytes - (i + 1)) (drop (i + 1) bytes)) ≡ cut stop bytes
cut_found stop bytes i within none here =
    let next : i + 1 ≡ suc i = omega arith in
    ap (λ (rest : List ℕ). Some (take i bytes, rest)) (rest_is (i + 1) bytes ∙ ap (λ n. drop n bytes) next)
    ∙ sym (cut_at stop bytes i within none here)

-- ---- what stands behind a front

pub bytes_eq-same : (bytes : List ℕ) → bytes_eq bytes bytes ≡ true
bytes_eq-same bytes = (bytes_eq-Decides bytes bytes).1 refl

pub take-append : (front rest : List ℕ) → take (length front) (front ++ rest) ≡ front
take-append [] rest = refl
take-append (b ∷ front) rest = ap (λ xs. b ∷ xs) (take-append front rest)

pub drop-append : (front rest : List ℕ) → drop (length front) (front ++ rest) ≡ rest
drop-append [] rest = refl
drop-append (b ∷ front) rest = drop-append front rest

pub behind_front : (front rest : List ℕ) → behind front (front ++ rest) ≡ Some rest
behind_front front rest =
    let starts : starts_with nat_eq (front ++ rest) front ≡ true =
    ap (bytes_eq front) (take-append front rest) ∙ bytes_eq-same front in
    ap (λ t. cond t (Some (drop (length front) (front ++ rest))) None) starts ∙ ap Some (drop-append front rest)

pub behind_some : (front bytes rest : List ℕ) → behind front bytes ≡ Some rest → bytes ≡ front ++ rest
behind_some front bytes rest = by_test (starts_with nat_eq bytes front) refl
  where
    by_test : (t : Bool) → starts_with nat_eq bytes front ≡ t →
        cond t (Some (drop (length front) bytes)) None ≡ Some rest → bytes ≡ front ++ rest
    by_test false h e = absurd (cc)
    by_test true h e =
        let same : front ≡ take (length front) bytes = (bytes_eq-Decides front (take (length front) bytes)).0 h in
        let behind_is : drop (length front) bytes ≡ rest = cc in
        sym (take-append-drop (length front) bytes) ∙ (λ i. sym same i ++ behind_is i)

-- ---- what stands in front of a byte

pub cut_some : (stop : ℕ) (bytes front rest : List ℕ) → cut stop bytes ≡ Some (front, rest) →
    bytes ≡ front ++ stop ∷ rest
cut_some stop [] front rest e = absurd (never (front, rest) e)
cut_some stop (b ∷ bytes) front rest e = by_test (b == stop) refl (cut_some stop bytes) e
  where
    by_test : (t : Bool) → (b == stop) ≡ t → ((f r : List ℕ) → cut stop bytes ≡ Some (f, r) → bytes ≡ f ++ stop ∷ r) →
        cond t (Some ([], bytes)) (option_map (with_first b) (cut stop bytes)) ≡ Some (front, rest) →
        b ∷ bytes ≡ front ++ stop ∷ rest
    by_test true h later e =
        let same : b ≡ stop = grind (arith, nat_tests) in
        let parts = some_same ([], bytes) (front, rest) e in
        (λ i. same i ∷ bytes) ∙ (λ i. (parts i).0 ++ stop ∷ (parts i).1)
    by_test false h later e =
        let found = mapped (cut stop bytes) (with_first b) (front, rest) e in
        let front_is : b ∷ found.first.0 ≡ front = ap (λ (p : List ℕ × List ℕ). p.0) found.made in
        let rest_is : found.first.1 ≡ rest = ap (λ (p : List ℕ × List ℕ). p.1) found.made in
        ap (λ xs. b ∷ xs) (later found.first.0 found.first.1 found.was) ∙ (λ i. front_is i ++ stop ∷ rest_is i)

-- the byte is not among these
abbrev pub is_without : ℕ → List ℕ → Bool
is_without stop bytes = list_all (λ b. not (b == stop)) bytes

pub cut_front : (stop : ℕ) (front rest : List ℕ) → is_without stop front ≡ true →
    cut stop (front ++ stop ∷ rest) ≡ Some (front, rest)
cut_front stop [] rest h =
    ap (λ t. cond t (Some ([], rest)) (option_map (with_first stop) (cut stop rest))) (same_byte stop stop refl)
cut_front stop (b ∷ front) rest h =
    let parts = both_true (not (b == stop)) (is_without stop front) h in
    let other : (b == stop) ≡ false = not_true (b == stop) parts.0 in
    ap (λ t. cond t (Some ([], front ++ stop ∷ rest))
    (option_map (with_first b) (cut stop (front ++ stop ∷ rest)))) other
    ∙ ap (option_map (with_first b)) (cut_front stop front rest parts.1)
  where
    not_true : (t : Bool) → not t ≡ true → t ≡ false
    not_true true e = absurd (cc)
    not_true false e = refl
