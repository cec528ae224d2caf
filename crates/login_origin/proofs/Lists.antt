-- What a list contains.
use Rattle.std.proofs.Common.{zero, suc, List, [], ◌∷◌, refl, subst, arith}
use Rattle.std.specs.Prelude.{Contains}
use Rattle.std.specs.List.{AllByRecursion}

pub contained : {X : Type 0} (P : X → Type 0) (xs : List X) (x : X) → AllByRecursion P xs → Contains xs x → P x
contained P [] x all (k, less, is) = absurd (omega (arith, less))
contained P (y ∷ xs) x all (zero, less, is) = subst P is all.0
contained P (y ∷ xs) x all (suc k, less, is) = contained P xs x all.1 (k, omega (arith, less), is)

pub contains_first : {X : Type 0} (x : X) (xs : List X) → Contains (x ∷ xs) x
contains_first x xs = (0, omega arith, refl)

pub contains_behind : {X : Type 0} (y x : X) (xs : List X) → Contains xs x → Contains (y ∷ xs) x
contains_behind y x xs found = (suc found.0, omega (arith, found.1), found.2)
