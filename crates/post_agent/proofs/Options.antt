-- Steps that may give nothing.
use Rattle.std.proofs.Common.{◌≡◌, Bool, true, false, cond, List, [], ◌∷◌, Option, None, Some, refl, sym, ap, ◌∙◌}
use Rattle.std.specs.Prelude.{option_and_then, find}
use Rattle.std.specs.Option.{option_map}

-- a step that gave something, and what followed gave
pub record Followed {X Y : Type 0} (o : Option X) (f : X → Option Y) (y : Y) : Type 0 where
  pub first : X
  pub was : o ≡ Some first
  pub then : f first ≡ Some y

pub followed : {X Y : Type 0} (o : Option X) (f : X → Option Y) (y : Y) → option_and_then f o ≡ Some y → Followed o f y
followed None f y e = absurd (cc)
followed (Some x) f y e = record { first = x; was = refl; then = e }

pub record Mapped {X Y : Type 0} (o : Option X) (f : X → Y) (y : Y) : Type 0 where
  pub first : X
  pub was : o ≡ Some first
  pub made : f first ≡ y

pub mapped : {X Y : Type 0} (o : Option X) (f : X → Y) (y : Y) → option_map f o ≡ Some y → Mapped o f y
mapped None f y e = absurd (cc)
mapped (Some x) f y e = record { first = x; was = refl; made = cc }

pub some_same : {X : Type 0} (x y : X) → Some x ≡ Some y → x ≡ y
some_same x y e = cc

pub never : {X : Type 0} (x : X) → None ≡ Some x → ⊥
never x e = cc

-- a value under a test
pub record Passed {X : Type 0} (t : Bool) (x y : X) : Type 0 where
  pub test : t ≡ true
  pub same : x ≡ y

pub passed : {X : Type 0} (t : Bool) (x y : X) → cond t (Some x) None ≡ Some y → Passed t x y
passed true x y e = record { test = refl; same = cc }
passed false x y e = absurd (cc)

-- what is found passes
pub found_passes : {X : Type 0} (p : X → Bool) (xs : List X) (x : X) → find p xs ≡ Some x → p x ≡ true
found_passes p [] x e = absurd (cc)
found_passes p (y ∷ ys) x e = by_test (p y) refl (found_passes p ys x) e
  where
    by_test : (t : Bool) → p y ≡ t → (find p ys ≡ Some x → p x ≡ true) → cond t (Some y) (find p ys) ≡ Some x →
        p x ≡ true
    by_test true h later found = ap p (sym (some_same y x found)) ∙ h
    by_test false h later found = later found

-- where none passes, none is found
pub none_found : {X : Type 0} (p : X → Bool) (xs : List X) → ((x : X) → p x ≡ false) → find p xs ≡ None
none_found p [] none = refl
none_found p (y ∷ ys) none = ap (λ t. cond t (Some y) (find p ys)) (none y) ∙ none_found p ys none
