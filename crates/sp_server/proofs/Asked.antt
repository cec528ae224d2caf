-- The path that a guard is asked for, and its segments.
use Rattle.std.specs.Prelude.{nat_eq, if◌then◌else◌}
use Rattle.std.proofs.Common.{◌≡◌, ◌≢◌, ℕ, suc, ◌+◌, ◌<◌, Bool, true, false, cond, ◌==◌, ◌&&◌, ◌||◌, not, List, [], ◌∷◌, ◌++◌, length, take, drop, codes, refl, sym, ap, ◌∙◌, arith}
use Rattle.std.specs.List.{after_first, before_first, onto_first, position_or_len, starts_with}
use Rattle.std.proofs.lemmas.Bool.Decides.{nat_tests}
use Rattle.std.proofs.lemmas.List.{take-append-drop}
use Rattle.std.proofs.lemmas.List.Splits.{slice_split_first}
use lib.Pointwise.{bytes_decides}
use Rattle.xml_spec.specs.Bytes.{is_empty}
use Rattle.sp_server.specs.Guard.{are_plain, between_slashes, is_dot_segment, path_asked, segments}

-- ---- what stands behind /auth

pub stripped : (path asked : List ℕ) (n : ℕ) → n ≡ 5 → path ≡ codes "/auth" ++ drop n path → asked ≡ drop n path
    → asked ≡ path_asked path
stripped path asked n five is left =
    let same : path ≡ codes "/auth" ++ drop 5 path = is ∙ ap (λ k. codes "/auth" ++ drop k path) five in
    left ∙ ap (λ k. drop k path) five ∙ sym (ap path_asked same)

pub unstripped : (path : List ℕ) → ((rest : List ℕ) → path ≢ codes "/auth" ++ rest) → path ≡ path_asked path
unstripped path none = by_test (starts_with nat_eq path (codes "/auth")) refl
  where
    by_test : (t : Bool) → starts_with nat_eq path (codes "/auth") ≡ t → path ≡ path_asked path
    by_test true is =
        absurd (none (drop 5 path) (sym (take-append-drop 5 path)
        ∙ ap (λ xs. xs ++ drop 5 path) (sym ((bytes_decides (codes "/auth") (take 5 path)).0 is))))
    by_test false is = sym (ap (λ t. if t then drop 5 path else path) is)

-- ---- what stands between slashes

abbrev is_slash : ℕ → Bool
is_slash b = b == 47

pub cut : (text segment rest : List ℕ) → segment ≡ before_first is_slash text → rest ≡ after_first is_slash text
    → position_or_len is_slash text < length text
    → between_slashes text ≡ segment ∷ between_slashes rest
cut text segment rest before after within =
    slice_split_first is_slash text 0 within ∙ (λ i. sym before i ∷ between_slashes (sym after i))

-- what the first step of a search says
first_not : (t : Bool) (n m : ℕ) → cond (not t) (1 + n) 0 ≡ suc m → (t ≡ false) × (n ≡ m)
first_not true n m h = absurd (omega arith)
first_not false n m h = (refl, omega arith)

-- without a slash there is one part
pub uncut : (text : List ℕ) → position_or_len is_slash text ≡ length text → between_slashes text ≡ text ∷ []
uncut [] none = refl
uncut (b ∷ text) none =
    let first = first_not (is_slash b) (position_or_len is_slash text) (length text) none in
    ap (λ t. cond t ([] ∷ between_slashes text) (onto_first b (between_slashes text))) first.0
    ∙ ap (onto_first b) (uncut text first.1)

-- there is always a part
record HasPart (parts : List (List ℕ)) : Type 0 where
  first : List ℕ
  others : List (List ℕ)
  is : parts ≡ first ∷ others

has_part : (text : List ℕ) → HasPart (between_slashes text)
has_part [] = record { first = []; others = []; is = refl }
has_part (b ∷ text) = by_test (is_slash b) (has_part text)
  where
    by_test : (t : Bool) → HasPart (between_slashes text)
        → HasPart (cond t ([] ∷ between_slashes text) (onto_first b (between_slashes text)))
    by_test true rest = record { first = []; others = between_slashes text; is = refl }
    by_test false rest = record { first = b ∷ rest.first; others = rest.others; is = ap (onto_first b) rest.is }

-- a segment with others behind it
pub one_more : (text segment rest : List ℕ) → between_slashes text ≡ segment ∷ between_slashes rest
    → are_plain (between_slashes text) ≡ (not (is_empty segment || is_dot_segment segment) && are_plain
    (between_slashes rest))
one_more text segment rest is =
    let part = has_part rest in
    ap are_plain is ∙ ap (λ s. are_plain (segment ∷ s)) part.is
    ∙ sym (ap (λ s. not (is_empty segment || is_dot_segment segment) && are_plain s) part.is)

empty_test : (bytes : List ℕ) → (length bytes == 0) ≡ is_empty bytes
empty_test [] = refl
empty_test (b ∷ bytes) = grind (arith, nat_tests)

neither : (a b : Bool) → a ≡ false → b ≡ false → (a || b) ≡ false
neither true b h k = h
neither false b h k = k

-- one that is neither empty nor a dot-segment
pub next_one : (text segment rest : List ℕ) → between_slashes text ≡ segment ∷ between_slashes rest
    → (length segment == 0) ≡ false → is_dot_segment segment ≡ false
    → are_plain (between_slashes text) ≡ are_plain (between_slashes rest)
next_one text segment rest is some undotted =
    one_more text segment rest is
    ∙ ap (λ b. not b && are_plain (between_slashes rest))
    (neither (is_empty segment) (is_dot_segment segment) (sym (empty_test segment) ∙ some) undotted)

pub last_one : (text : List ℕ) → between_slashes text ≡ text ∷ []
    → are_plain (between_slashes text) ≡ not (is_dot_segment text)
last_one text is = ap are_plain is

-- ---- the segments of a path

pub segments_behind : (path front rest : List ℕ) → between_slashes path ≡ front ∷ between_slashes rest
    → segments path ≡ between_slashes rest
segments_behind path front rest is = ap (drop 1) is

pub no_segments : (path : List ℕ) → between_slashes path ≡ path ∷ [] → are_plain (segments path) ≡ true
no_segments path is = ap (λ s. are_plain (drop 1 s)) is
