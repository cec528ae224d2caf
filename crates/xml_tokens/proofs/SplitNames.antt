-- A name is cut at its first colon.
use Rattle.std.proofs.Common.{◌≡◌, ℕ, zero, suc, ◌+◌, ◌-◌, ◌<◌, Bool, true, false, cond, not, ◌==◌, List, [], ◌∷◌, ◌++◌, length, take, drop, get_or, Option, Some, None, unwrap_or, refl, sym, ap, ◌∙◌, subst, append_assoc, length-append, length-take-le, add-one, arith}
use Rattle.std.specs.List.{list_all}
use Rattle.std.specs.Option.{option_map}
use Rattle.std.specs.Str.{IsUtf8, IsCharBoundary}
use Rattle.std.proofs.lemmas.Str.{IsCharBoundary-after_ascii, IsCharBoundary-start}
use Rattle.std.proofs.Math.Seq.{take-append_seam, drop-append_seam}
use borrow.Author.Tests.{eqb-true}
use Rattle.xml_spec.specs.Ascii.{colon}
use Rattle.xml_spec.specs.Bytes.{AllPass}
use Rattle.xml_spec.specs.Characters.{at_colon}
use Rattle.xml_spec.proofs.Tests.{both_true}
use Rattle.xml_tokens.specs.Lexing.{is_other}
use Rattle.xml_tokens.specs.Names.{IsSplitName}

abbrev Parts : Type 0
Parts = List ℕ × List ℕ

abbrev front_of : Option Parts → List ℕ
front_of o = unwrap_or (option_map (λ (parts : Parts). parts.0) o) []

abbrev back_of : Option Parts → List ℕ
back_of o = unwrap_or (option_map (λ (parts : Parts). parts.1) o) []

-- a name is its parts with a colon between them
joins : (name prefix local : List ℕ) → at_colon name ≡ Some (prefix, local) → name ≡ prefix ++ colon ∷ local
joins [] prefix local e = absurd (let clash : None ≡ Some (prefix, local) = e in cc)
joins (b ∷ bytes) prefix local e = which (b == colon) refl (at_colon bytes) refl (joins bytes) e
  where
    which : (here : Bool) → (b == colon) ≡ here → (o : Option Parts) → at_colon bytes ≡ o →
        ((p l : List ℕ) → at_colon bytes ≡ Some (p, l) → bytes ≡ p ++ colon ∷ l) →
        cond {A = Option Parts} here (Some ([], bytes)) (option_map (λ (parts : Parts). (b ∷ parts.0, parts.1)) o) ≡ Some (prefix, local) →
        b ∷ bytes ≡ prefix ++ colon ∷ local
    which true is o found later e =
        let none : [] ≡ prefix = ap front_of e in
        let all : bytes ≡ local = ap back_of e in
        let first : b ≡ colon = eqb-true b colon is in
        (λ i. first i ∷ all i) ∙ ap (λ p. p ++ colon ∷ local) none
    which false is None found later e = absurd (let clash : None ≡ Some (prefix, local) = e in cc)
    which false is (Some parts) found later e =
        let front : b ∷ parts.0 ≡ prefix = ap front_of e in
        let back : parts.1 ≡ local = ap back_of e in
        ap (λ xs. b ∷ xs) (later parts.0 parts.1 found) ∙ (λ i. front i ++ colon ∷ back i)

taken : (name prefix local : List ℕ) (n : ℕ) → n ≡ length prefix → name ≡ prefix ++ colon ∷ local → take n name ≡ prefix
taken name prefix local n e is = (λ i. take (e i) (is i)) ∙ take-append_seam prefix (colon ∷ local)

dropped : (name prefix local : List ℕ) (n : ℕ) → n ≡ length (prefix ++ colon ∷ []) → name ≡ prefix ++ colon ∷ local → drop n name ≡ local
dropped name prefix local n e is =
    (λ i. drop (e i) ((is ∙ sym (append_assoc prefix (colon ∷ []) local)) i)) ∙ drop-append_seam (prefix ++ colon ∷ []) local

-- the sign in front of the local part
sign_in : (name prefix local : List ℕ) (n : ℕ) → n ≡ length prefix → name ≡ prefix ++ colon ∷ local → (n < length name) × (get_or name n 0 ≡ colon)
sign_in name prefix local n e is = (
  omega (arith, ap length is, length-append prefix (colon ∷ local)),
  (λ i. get_or (is i) (e i) 0) ∙ at_seam prefix,
)
  where
    at_seam : (xs : List ℕ) → get_or (xs ++ colon ∷ local) (length xs) 0 ≡ colon
    at_seam [] = refl
    at_seam (x ∷ xs) = at_seam xs

sign_at : (name : List ℕ) (front : ℕ) → IsSplitName name front → 0 < front → (front - 1 < length name) × (get_or name (front - 1) 0 ≡ colon)
sign_at name front s some =
    sign_in name (take (front - 1) name) (drop front name) (front - 1) place is
  where
    is : name ≡ take (front - 1) name ++ colon ∷ drop front name
    is = joins name (take (front - 1) name) (drop front name) (s.parts some)

    place : front - 1 ≡ length (take (front - 1) name)
    place = sym (length-take-le (front - 1) name (omega (arith, s.inside)))

pub prefix_boundary : (name : List ℕ) (front : ℕ) → IsSplitName name front → 0 < front → IsCharBoundary name (front - 1)
prefix_boundary name front s some =
    let sign = sign_at name front s some in
    (omega arith, λ l high. absurd (omega arith))

pub local_boundary : (name : List ℕ) (front : ℕ) → IsUtf8 name → IsSplitName name front → IsCharBoundary name front
local_boundary name zero u s = IsCharBoundary-start name u
local_boundary name (suc n) u s =
    let sign = sign_at name (suc n) s (omega arith) in
    subst (IsCharBoundary name) (omega arith) (IsCharBoundary-after_ascii name (suc n - 1) u sign.0 (omega arith))

not_colon : (b : ℕ) → not (b == colon) ≡ true → (b == colon) ≡ false
not_colon b h = grind arith

is_colon : (b : ℕ) → b ≡ colon → (b == colon) ≡ true
is_colon b h = grind arith

-- without a colon a name is not cut
pub no_colon : (bytes : List ℕ) → AllPass (is_other colon) bytes → at_colon bytes ≡ None
no_colon [] h = refl
no_colon (b ∷ bytes) h =
    let both = both_true (not (b == colon)) (list_all (is_other colon) bytes) h in
    let later : at_colon bytes ≡ None = no_colon bytes both.1 in
    rw (not_colon b both.0) (ap (option_map (λ (parts : Parts). (b ∷ parts.0, parts.1))) later)

-- the first colon is the one that no other stands in front of
pub first_colon : (bytes : List ℕ) (i : ℕ) → i < length bytes → AllPass (is_other colon) (take i bytes) → get_or bytes i 0 ≡ colon →
    at_colon bytes ≡ Some (take i bytes, drop (suc i) bytes)
first_colon [] i l h e = absurd (omega arith)
first_colon (b ∷ bytes) zero l h e = rw (is_colon b e) refl
first_colon (b ∷ bytes) (suc i) l h e =
    let both = both_true (not (b == colon)) (list_all (is_other colon) (take i bytes)) h in
    let later : at_colon bytes ≡ Some (take i bytes, drop (suc i) bytes) = first_colon bytes i (omega arith) both.1 e in
    rw (not_colon b both.0) (ap (option_map (λ (parts : Parts). (b ∷ parts.0, parts.1))) later)

-- the place behind it
pub behind_colon : (bytes : List ℕ) (i n : ℕ) → n ≡ i + 1 → i < length bytes → AllPass (is_other colon) (take i bytes) → get_or bytes i 0 ≡ colon →
    at_colon bytes ≡ Some (take (n - 1) bytes, drop n bytes)
behind_colon bytes i n e l h is =
    let front : n - 1 ≡ i = omega arith in
    let behind : n ≡ suc i = e ∙ add-one i in
    rw (front, behind) (first_colon bytes i l h is)
