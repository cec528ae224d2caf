-- Elements that are added one after the other.
use Rattle.std.proofs.Common.{◌≡◌, ◌≢◌, ℕ, zero, suc, ◌+◌, ◌≤◌, true, false, List, [], ◌∷◌, ◌++◌, length, drop, codes, Option, Some, None, refl, sym, ap, ◌∙◌, subst, arith}
use Rattle.std.proofs.lemmas.List.{drop_all}
use Rattle.std.specs.List.{slice_get, AllByRecursion}
use Rattle.element_make.specs.Made.{MadeNodes, NothingMade, MadeElement, MadeText, joined, Made, alone}
use Rattle.std.specs.Str.{bytes_eq}
use Rattle.xml_spec.specs.Tree as tree
use Rattle.owned_values.specs.declared.attributes.Attribute.{Attribute}
use Rattle.assertion_model.specs.Assertion.{given_if_any, part, joined_all, stated, statements}

pub joined_assoc : (a b c : MadeNodes) → joined (joined a b) c ≡ joined a (joined b c)
joined_assoc NothingMade b c = refl
joined_assoc (MadeElement ns local attributes kids rest) b c = ap (MadeElement ns local attributes kids) (joined_assoc rest b c)
joined_assoc (MadeText text rest) b c = ap (MadeText text) (joined_assoc rest b c)

pub joined_nothing : (a : MadeNodes) → joined a NothingMade ≡ a
joined_nothing NothingMade = refl
joined_nothing (MadeElement ns local attributes kids rest) = ap (MadeElement ns local attributes kids) (joined_nothing rest)
joined_nothing (MadeText text rest) = ap (MadeText text) (joined_nothing rest)

-- what holds of all holds of the one at a place
pub one_of_all : {X : Type 0} (P : X → Type 0) (xs : List X) (i : ℕ) (x : X) → AllByRecursion P xs → slice_get xs i ≡ Some x → P x
one_of_all P [] i x all e = absurd (let clash : None ≡ Some x = e in cc)
one_of_all P (y ∷ xs) zero x all e = let same : y ≡ x = cc in subst P same all.0
one_of_all P (y ∷ xs) (suc i) x all e = one_of_all P xs i x all.1 e

from_place : {X : Type 0} (xs : List X) (i : ℕ) (x : X) → slice_get xs i ≡ Some x → drop i xs ≡ x ∷ drop (suc i) xs
from_place [] i x e = absurd (let clash : None ≡ Some x = e in cc)
from_place (y ∷ xs) zero x e = let same : y ≡ x = cc in ap (λ z. z ∷ xs) same
from_place (y ∷ xs) (suc i) x e = from_place xs i x e

module _ {X : Type 0} (node : X → MadeNodes) (xs : List X) where
  -- the element with what is still to be added
  abbrev pub with_rest : Made → ℕ → Made
  with_rest made i = record made { kids = joined made.kids (joined_all node (drop i xs)) }

  pub one_more : (i : ℕ) (x : X) (before after kid whole : Made) → slice_get xs i ≡ Some x →
      after ≡ record before { kids = joined before.kids (alone kid) } → alone kid ≡ node x →
      with_rest before i ≡ whole → with_rest after (i + 1) ≡ whole
  one_more i x before after kid whole there is made was =
      let next : i + 1 ≡ suc i = omega arith in
      let more = joined_all node (drop (suc i) xs) in
      ap (λ k. with_rest after k) next
      ∙ ap (λ (m : Made). record m { kids = joined m.kids more }) is
      ∙ ap (λ nodes. record before { kids = nodes }) (
      joined_assoc before.kids (alone kid) more
      ∙ ap (λ nodes. joined before.kids (joined nodes more)) made
      ∙ ap (λ ys. joined before.kids (joined_all node ys)) (sym (from_place xs i x there))
      )
      ∙ was

  pub all_added : (made before : Made) (i : ℕ) → length xs ≤ i → with_rest made i ≡ with_rest before 0 →
      made ≡ record before { kids = joined before.kids (joined_all node xs) }
  all_added made before i e was =
      sym (ap (λ nodes. record made { kids = nodes }) (ap (λ ys. joined made.kids (joined_all node ys)) (drop_all i xs e) ∙ joined_nothing made.kids))
      ∙ was ∙ ap (λ ys. record before { kids = joined before.kids (joined_all node ys) }) (from_zero xs)
    where
      from_zero : (ys : List X) → drop 0 ys ≡ ys
      from_zero [] = refl
      from_zero (y ∷ ys) = refl

-- without attributes there is no statement of them, and else there is
pub none_stated : (made : Made) (attributes : List Attribute) → attributes ≡ [] →
    made ≡ record made { kids = joined made.kids (statements attributes) }
none_stated made attributes e =
    sym (ap (λ nodes. record made { kids = nodes }) (ap (λ a. joined made.kids (statements a)) e ∙ joined_nothing made.kids))

pub some_stated : (attributes : List Attribute) → attributes ≢ [] →
    part (codes "AttributeStatement") [] (joined_all stated attributes) ≡ statements attributes
some_stated [] some = absurd (some refl)
some_stated (a ∷ attributes) some = refl

-- two texts that differ
pub apart : (a b : List ℕ) → bytes_eq a b ≡ false → bytes_eq b b ≡ true → a ≢ b
apart a b differ same e = let clash : false ≡ true = sym differ ∙ ap (λ n. bytes_eq n b) e ∙ same in cc

-- an attribute of another name is added to some that have other names
pub others_behind : (wanted name : List ℕ) (before : List tree.Attribute) (value : Option (List ℕ)) →
    AllByRecursion (λ (a : tree.Attribute). a.name ≢ wanted) before → name ≢ wanted →
    AllByRecursion (λ (a : tree.Attribute). a.name ≢ wanted) (before ++ given_if_any name value)
others_behind wanted name [] None all other = tt
others_behind wanted name [] (Some v) all other = (other, tt)
others_behind wanted name (a ∷ before) value all other = (all.0, others_behind wanted name before value all.1 other)
