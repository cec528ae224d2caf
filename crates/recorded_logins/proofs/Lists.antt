-- What holds of each of a list.
use Rattle.std.proofs.Common.{Bool, true, false, if◌then◌else◌, List, [], ◌∷◌, ◌++◌, refl, arith}
use Rattle.std.specs.Prelude.{Contains}
use Rattle.std.specs.List.{AllByRecursion}
use Rattle.element_make.specs.Made.{MadeNodes, NothingMade, MadeElement, MadeText, AreMade, IsMade}
use Rattle.sig_reference.specs.Signing.{has_no_signature}
use Rattle.idp_server.specs.Signed.{signed_elements}

pub contains_first : {X : Type 0} (x : X) (xs : List X) → Contains (x ∷ xs) x
contains_first x xs = (0, omega arith, refl)

both : {X : Type 0} (P : X → Type 0) (xs ys : List X) → AllByRecursion P xs → AllByRecursion P ys →
    AllByRecursion P (xs ++ ys)
both P [] ys all others = others
both P (x ∷ xs) ys all others = (all.0, both P xs ys all.1 others)

-- the signed elements of made nodes are made
pub signed_made : (nodes : MadeNodes) → AreMade nodes → AllByRecursion IsMade (signed_elements nodes)
signed_made NothingMade is = tt
signed_made (MadeElement ns local attributes kids rest) is =
    both IsMade _ (signed_elements rest)
    (both IsMade _ (signed_elements kids) (own (has_no_signature kids)) (signed_made kids is.3)) (signed_made rest is.4)
  where
    own : (b : Bool) → AllByRecursion IsMade
        (if b then [] else record { ns = ns; local = local; attributes = attributes; kids = kids } ∷ [])
    own true = tt
    own false = ((is.0, is.1, is.2, is.3, tt), tt)
signed_made (MadeText text rest) is = signed_made rest is.1
