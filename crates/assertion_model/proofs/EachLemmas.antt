-- What holds while a list is read element by element.
use Rattle.std.proofs.Common.{◌≡◌, ℕ, Bool, true, false, ◌&&◌, List, [], ◌∷◌, ◌++◌, append_assoc, map, Option, None, Some, refl, sym, ap, ◌∙◌}
use Rattle.std.specs.List.{list_all, flat_map}
use Rattle.std.specs.Option.{option_map, option_and_then}
use Rattle.std.specs.Str.{bytes_eq}
use Rattle.std.proofs.lemmas.Slice.Eq.{bytes_eq-Decides}
use Rattle.xml_spec.specs.Names.{ExpandedName}
use Rattle.xml_spec.proofs.Tests.{and_true}
use Rattle.saml_names.specs.Names.{saml}
use Rattle.tree_read.specs.Children.{Child, child, is_name}
use Rattle.tree_read.specs.Faults.{IsShapeFault}
use Rattle.tree_read.specs.declared.fault.ShapeFault.{ShapeFault}
use Rattle.tree_read.specs.declared.fault.ShapeFault.TheVariants as faults
use Rattle.assertion_model.specs.Contents.{each}
use Rattle.assertion_model.proofs.ValueLemmas.{name_is}

-- what was read, in front of what is left
abbrev pub behind : {Y : Type 0} → List Y → Option (List Y) → Option (List Y)
behind done o = option_map (λ rest. done ++ rest) o

joined_once : {Y : Type 0} (done : List Y) (y : Y) (o : Option (List Y)) → behind done (option_map (λ ys. y ∷ ys) o) ≡ behind (done ++ y ∷ []) o
joined_once done y None = refl
joined_once done y (Some ys) = ap Some (sym (append_assoc done (y ∷ []) ys))

module _ {X Y : Type 0} (f : X → Option Y) where
  -- one more is read
  pub each_more : (whole : Option (List Y)) (done : List Y) (xs others : List X) (x : X) (y : Y) → behind done (each f xs) ≡ whole → xs ≡ x ∷ others → f x ≡ Some y →
      behind (done ++ y ∷ []) (each f others) ≡ whole
  each_more whole done xs others x y h e says =
      sym (joined_once done y (each f others))
      ∙ ap (λ o. behind done (option_and_then (λ y. option_map (λ ys. y ∷ ys) (each f others)) o)) (sym says)
      ∙ ap (λ zs. behind done (each f zs)) (sym e) ∙ h

  -- two lists one behind the other
  pub each_append : (xs ys : List X) → each f (xs ++ ys) ≡ option_and_then (λ done. behind done (each f ys)) (each f xs)
  each_append [] ys = which (each f ys)
    where
      which : (o : Option (List Y)) → o ≡ behind [] o
      which None = refl
      which (Some zs) = refl
  each_append (x ∷ xs) ys =
      ap (λ o. option_and_then (λ y. option_map (λ zs. y ∷ zs) o) (f x)) (each_append xs ys) ∙ which (f x) (each f xs) (each f ys)
    where
      which : (o : Option Y) (first second : Option (List Y)) →
          option_and_then (λ y. option_map (λ zs. y ∷ zs) (option_and_then (λ done. behind done second) first)) o
          ≡ option_and_then (λ done. behind done second) (option_and_then (λ y. option_map (λ zs. y ∷ zs) first) o)
      which None first second = refl
      which (Some y) None second = refl
      which (Some y) (Some zs) None = refl
      which (Some y) (Some zs) (Some more) = refl

-- what is read of lists that are read one after the other
module _ {X Y Z : Type 0} (g : X → List Z) (f : Z → Option Y) where
  joined_twice : (done ys : List Y) (o : Option (List Y)) → behind done (behind ys o) ≡ behind (done ++ ys) o
  joined_twice done ys None = refl
  joined_twice done ys (Some rest) = ap Some (sym (append_assoc done ys rest))

  pub group_more : (whole : Option (List Y)) (done now : List Y) (xs others : List X) (x : X) → behind done (each f (flat_map g xs)) ≡ whole → xs ≡ x ∷ others →
      behind done (each f (g x)) ≡ Some now → behind now (each f (flat_map g others)) ≡ whole
  group_more whole done now xs others x h e says =
      which (each f (g x)) says ∙ sym (ap (behind done) (each_append f (g x) (flat_map g others)))
      ∙ ap (λ zs. behind done (each f (flat_map g zs))) (sym e) ∙ h
    where
      which : (o : Option (List Y)) → behind done o ≡ Some now →
          behind now (each f (flat_map g others)) ≡ behind done (option_and_then (λ ys. behind ys (each f (flat_map g others))) o)
      which None says = absurd (let clash : None ≡ Some now = says in cc)
      which (Some ys) says =
          let same : done ++ ys ≡ now = cc in
          ap (λ zs. behind zs (each f (flat_map g others))) (sym same) ∙ sym (joined_twice done ys (each f (flat_map g others)))

  pub group_stops : (whole : Option (List Y)) (done : List Y) (xs others : List X) (x : X) → behind done (each f (flat_map g xs)) ≡ whole → xs ≡ x ∷ others →
      each f (g x) ≡ None → whole ≡ None
  group_stops whole done xs others x h e says =
      sym h ∙ ap (λ zs. behind done (each f (flat_map g zs))) e ∙ ap (behind done) (each_append f (g x) (flat_map g others))
      ∙ ap (λ o. behind done (option_and_then (λ ys. behind ys (each f (flat_map g others))) o)) says

-- a name that is taken, or is not
pub took : (list rest : List Child) (k : ℕ) (name : ExpandedName) (local : List ℕ) → name ≡ saml local → list ≡ child k name ∷ rest →
    (c : Child) × (list ≡ c ∷ rest) × (is_name (saml local) c.name ≡ true)
took list rest k name local n e = (
  child k name,
  e,
  ap (is_name (saml local)) n
      ∙ and_true (bytes_eq (saml local).namespace (saml local).namespace) (bytes_eq local local)
      ((bytes_eq-Decides (saml local).namespace (saml local).namespace).1 refl) ((bytes_eq-Decides local local).1 refl),
)

pub not_took : (list : List Child) (name : ExpandedName) (local : List ℕ) → name ≡ saml local → ((k : ℕ) (others : List Child) → list ≡ child k name ∷ others → ⊥) →
    (c : Child) (others : List Child) → list ≡ c ∷ others → is_name (saml local) c.name ≡ false
not_took list name local n never c others e = which (is_name (saml local) c.name) refl
  where
    which : (b : Bool) → is_name (saml local) c.name ≡ b → is_name (saml local) c.name ≡ false
    which false h = h
    which true h = absurd (never c.number others (e ∙ ap (λ m. child c.number m ∷ others) (name_is (saml local) c.name h ∙ sym n)))

pub known_stops : (p : ExpandedName → Bool) (whole : Bool) (list : List Child) → list_all p (map (λ (d : Child). d.name) list) ≡ whole →
    (list ≡ [] → ⊥) → ((c : Child) (others : List Child) → list ≡ c ∷ others → p c.name ≡ false) → false ≡ whole
known_stops p whole [] h some unknown = absurd (some refl)
known_stops p whole (c ∷ list) h some unknown =
    ap (λ b. b && list_all p (map (λ (d : Child). d.name) list)) (sym (unknown c list refl)) ∙ h

-- what a fault says, held to a weaker claim
pub fault_on : (fault : ShapeFault) (P Q : Type 0) → IsShapeFault fault P → (P → Q) → IsShapeFault fault Q
fault_on faults.WrongShape P Q says on = on says
fault_on faults.NoMemory P Q says on = tt
