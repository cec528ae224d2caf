-- Where text ends that goes up to a mark such as ]]> is determined.
use Rattle.std.proofs.Common.{◌≡◌, ℕ, Bool, true, false, ◌&&◌, ◌||◌, ◌==◌, nat_eq, List, [], ◌∷◌, ◌++◌, codes, refl, sym, arith}
use Rattle.std.specs.List.{starts_with}
use Rattle.xml_spec.specs.Ascii.{hyphen}
use Rattle.xml_spec.specs.Bytes.{has}
use Rattle.xml_spec.proofs.Runs.{apart_at}

pub neither : (a b : Bool) → (a || b) ≡ false → (a ≡ false) × (b ≡ false)
neither true b h = absurd (let clash : true ≡ false = h in cc)
neither false b h = (refl, h)

-- the mark does not end earlier in one reading than in the other
abbrev pub NotEarlier : List ℕ → Type 0
NotEarlier mark = (y : ℕ) (ys r s : List ℕ) → has mark (y ∷ ys) ≡ false → mark ++ r ≡ (y ∷ ys) ++ (mark ++ s) → ⊥

pub same_until : (mark : List ℕ) → NotEarlier mark → (xs ys r s : List ℕ) → has mark xs ≡ false → has mark ys ≡ false →
    ((r s : List ℕ) → mark ++ r ≡ mark ++ s → r ≡ s) → xs ++ (mark ++ r) ≡ ys ++ (mark ++ s) → (xs ≡ ys) × (r ≡ s)
same_until mark n [] [] r s hx hy inj e = (refl, inj r s e)
same_until mark n [] (y ∷ ys) r s hx hy inj e = absurd (n y ys r s hy e)
same_until mark n (x ∷ xs) [] r s hx hy inj e = absurd (n x xs s r hx (sym e))
same_until mark n (x ∷ xs) (y ∷ ys) r s hx hy inj e =
    let heads : x ≡ y = cc in
    let tails : xs ++ (mark ++ r) ≡ ys ++ (mark ++ s) = cc in
    let later = same_until mark n xs ys r s (neither (starts_with nat_eq (x ∷ xs) mark) (has mark xs) hx).1
    (neither (starts_with nat_eq (y ∷ ys) mark) (has mark ys) hy).1 inj tails in
    (λ i. heads i ∷ later.0 i, later.1)

pub three_equal : (a b c x y z : ℕ) → a ≡ x → b ≡ y → c ≡ z → ((a == x) && ((b == y) && ((c == z) && true))) ≡ true
three_equal a b c x y z e f g = grind arith

pub two_equal : (a b x y : ℕ) → a ≡ x → b ≡ y → ((a == x) && ((b == y) && true)) ≡ true
two_equal a b x y e f = grind arith

pub found : (a b : Bool) → a ≡ true → (a || b) ≡ false → ⊥
found true b t h = let clash : true ≡ false = h in cc
found false b t h = let clash : false ≡ true = t in cc

pub section_ends : NotEarlier (codes "]]>")
section_ends y [] r s h e = apart_at 2 _ _ refl e
section_ends y (y1 ∷ []) r s h e = apart_at 2 _ _ refl e
section_ends y (y1 ∷ y2 ∷ ys) r s h e =
    found _ _ (three_equal 93 93 62 y y1 y2 (cc) (cc) (cc)) h

pub comment_ends : NotEarlier (codes "-->")
comment_ends y [] r s h e = apart_at 2 _ _ refl e
comment_ends y (y1 ∷ []) r s h e = apart_at 2 _ _ refl e
comment_ends y (y1 ∷ y2 ∷ ys) r s h e =
    found _ _ (three_equal 45 45 62 y y1 y2 (cc) (cc) (cc)) h

pub instruction_ends : NotEarlier (codes "?>")
instruction_ends y [] r s h e = apart_at 1 _ _ refl e
instruction_ends y (y1 ∷ ys) r s h e = found _ _ (two_equal 63 62 y y1 (cc) (cc)) h

pub same_section : (xs ys r s : List ℕ) → has (codes "]]>") xs ≡ false → has (codes "]]>") ys ≡ false →
    xs ++ (codes "]]>" ++ r) ≡ ys ++ (codes "]]>" ++ s) → (xs ≡ ys) × (r ≡ s)
same_section xs ys r s hx hy e = same_until (codes "]]>") section_ends xs ys r s hx hy (λ a b i. cc) e

pub same_value : (xs ys r s : List ℕ) → has (codes "?>") xs ≡ false → has (codes "?>") ys ≡ false →
    xs ++ (codes "?>" ++ r) ≡ ys ++ (codes "?>" ++ s) → (xs ≡ ys) × (r ≡ s)
same_value xs ys r s hx hy e = same_until (codes "?>") instruction_ends xs ys r s hx hy (λ a b i. cc) e

pub longer_fails : (a b c : Bool) → (a && (b && true)) ≡ false → (a && (b && (c && true))) ≡ false
longer_fails false b c h = refl
longer_fails true false c h = refl
longer_fails true true c h = absurd (let clash : true ≡ false = h in cc)

pub and_fails : (a b : Bool) → (a && (b && false)) ≡ false
and_fails true true = refl
and_fails true false = refl
and_fails false b = refl

pub or_fails : (a b : Bool) → a ≡ false → b ≡ false → (a || b) ≡ false
or_fails true b h k = h
or_fails false b h k = k

pub first_fails : (x y : ℕ) (bytes : List ℕ) → ((45 == x) && ((45 == y) && true)) ≡ false →
    starts_with nat_eq (x ∷ y ∷ bytes) (codes "-->") ≡ false
first_fails x y [] h = and_fails (45 == x) (45 == y)
first_fails x y (z ∷ bytes) h = longer_fails (45 == x) (45 == y) (62 == z) h

pub one_fails : (x : ℕ) → starts_with nat_eq (x ∷ []) (codes "-->") ≡ false
one_fails x = short (45 == x)
  where
    short : (a : Bool) → (a && false) ≡ false
    short true = refl
    short false = refl

-- where no two hyphens meet, no comment ends
pub no_end : (xs : List ℕ) → has (codes "--") (xs ++ hyphen ∷ []) ≡ false → has (codes "-->") xs ≡ false
no_end [] h = refl
no_end (x ∷ []) h = or_fails (starts_with nat_eq (x ∷ []) (codes "-->")) false (one_fails x) refl
no_end (x ∷ y ∷ xs) h =
    let parts = neither ((45 == x) && ((45 == y) && true)) (has (codes "--") (y ∷ (xs ++ hyphen ∷ []))) h in
    or_fails (starts_with nat_eq (x ∷ y ∷ xs) (codes "-->")) (has (codes "-->") (y ∷ xs))
    (first_fails x y xs parts.0) (no_end (y ∷ xs) parts.1)

pub same_comment : (xs ys r s : List ℕ) → has (codes "--") (xs ++ hyphen ∷ []) ≡ false → has (codes "--") (ys ++ hyphen ∷ []) ≡ false →
    xs ++ (codes "-->" ++ r) ≡ ys ++ (codes "-->" ++ s) → (xs ≡ ys) × (r ≡ s)
same_comment xs ys r s hx hy e = same_until (codes "-->") comment_ends xs ys r s (no_end xs hx) (no_end ys hy) (λ a b i. cc) e
