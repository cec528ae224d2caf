-- What lies in an element that is vouched for is apart from the Signature.
use Rattle.std.proofs.Common.{◌≡◌, ℕ, suc, ◌+◌, ◌<◌, ◌≤◌, ◌⊎◌, List, [], ◌∷◌, codes, Option, None, Some, refl, ap, ◌∙◌, subst, inl, inr, arith}
use Rattle.std.specs.Prelude.{IfSome}
use Rattle.std.specs.List.{AllByRecursion}
use Rattle.std.specs.Option.{option_and_then}
use Rattle.std.proofs.lemmas.Bool.{cases_lt}
use Rattle.xml_spec.specs.Tree.{Nodes, NoNodes, Element, Text, Comment, Instruction}
use Rattle.xml_spec.specs.Numbering.{size, from_node, kids_of}
use Rattle.xml_spec.specs.Names.{Scope, outermost}
use Rattle.xml_spec.specs.Canonical.{scope_at}
use Rattle.xml_spec.proofs.Sorting.{each_weaker}
use Rattle.saml_names.specs.Names.{saml, ds}
use Rattle.sig_reference.specs.Form.{Parts}
use Rattle.sig_reference.specs.Signature.{Vouches, VouchesFirst}
use Rattle.sig_reference.specs.Vouching.{VouchedView, IsVouched, IsIn}
use Rattle.tree_read.specs.Children.{Child, scope_of_kids, elements_of, element_children, named, children}
use Rattle.saml_tree.proofs.Numbers.{kids_from}
use Rattle.tree_read.proofs.Placed.{kids_scope}
use Rattle.assertion_model.specs.Contents.{first}
use Rattle.assertion_model.specs.Parts.{own_signature}
use Rattle.assertion_model.specs.Places.{name_place, places_of_attribute, places_of_statement, value_places, AreApart, IsPartOf}
use Rattle.assertion_model.proofs.PartLemmas.{Stands, behind, next, some}
use Rattle.assertion_model.proofs.PlaceLemmas.{in_itself, in_both, IsThere, elements_there, of_name, IsElementIn, children_in, of_first, IsBelow, children_below, below_more, of_all}

-- no node of a list holds a child but the child itself
abbrev IsAlone : Nodes → ℕ → Child → Type 0
IsAlone tree k c = (e : ℕ) → k ≤ e → IsIn tree e c.number → e ≡ c.number

-- behind a node that holds no more than these
later : (tree : Nodes) (k last high : ℕ) (list : List Child) → ((e : ℕ) → k ≤ e → e ≤ last → e + size (kids_of (from_node tree e)) ≤ last) →
    AllByRecursion (IsThere tree (suc last) high) list → AllByRecursion (IsAlone tree (suc last)) list → AllByRecursion (IsAlone tree k) list
later tree k last high [] ends there alone = tt
later tree k last high (c ∷ list) ends there alone = (
  λ e from holds. elim (cases_lt last e) [
    | inl less ↦ alone.0 e less holds
    | inr over ↦ absurd (omega (arith, ends e from over, there.0.from, holds.to))
  ],
  later tree k last high list ends there.1 alone.1,
)

-- behind a node without kids
one_later : (tree : Nodes) (k high : ℕ) (list : List Child) → size (kids_of (from_node tree k)) ≡ 0 → AllByRecursion (IsThere tree (suc k) high) list →
    AllByRecursion (IsAlone tree (suc k)) list → AllByRecursion (IsAlone tree k) list
one_later tree k high list none =
    later tree k k high list (λ e from to. let same : k ≡ e = omega arith in subst (λ m. m + size (kids_of (from_node tree m)) ≤ k) same (omega (arith, none)))

children_alone : (tree : Nodes) (scope : Scope) (k : ℕ) (nodes : Nodes) → (0 < size nodes → Stands tree k scope nodes) →
    AllByRecursion (IsAlone tree k) (elements_of scope k nodes)
children_alone tree scope k NoNodes stands = tt
children_alone tree scope k (Element name attributes kids rest) stands =
    let here = stands (some (size kids + size rest)) in
    let all : size (kids_of (from_node tree k)) ≡ size kids = ap (λ nodes. size (kids_of nodes)) here.found in
    let others = behind tree k scope (Element name attributes kids rest) here in (
      λ e from holds. omega (arith, holds.from),
      later tree k (k + size kids) (suc (k + size kids) + size rest) (elements_of scope (suc (k + size kids)) rest)
          (λ e from to.
          let inner : IsIn tree k e = record { from = from; to = omega (arith, all) } in
          let last = in_both tree k e (e + size (kids_of (from_node tree e))) inner (record { from = omega arith; to = omega arith }) in
          omega (arith, last.to, all))
          (elements_there tree scope (suc (k + size kids)) rest others) (children_alone tree scope (suc (k + size kids)) rest others),
    )
children_alone tree scope k (Text bytes rest) stands =
    let here = stands (some (size rest)) in
    let others = next tree k scope (Text bytes rest) refl here in
    one_later tree k (suc k + size rest) (elements_of scope (suc k) rest) (ap (λ nodes. size (kids_of nodes)) here.found) (elements_there tree scope (suc k) rest others)
    (children_alone tree scope (suc k) rest others)
children_alone tree scope k (Comment bytes rest) stands =
    let here = stands (some (size rest)) in
    let others = next tree k scope (Comment bytes rest) refl here in
    one_later tree k (suc k + size rest) (elements_of scope (suc k) rest) (ap (λ nodes. size (kids_of nodes)) here.found) (elements_there tree scope (suc k) rest others)
    (children_alone tree scope (suc k) rest others)
children_alone tree scope k (Instruction target value rest) stands =
    let here = stands (some (size rest)) in
    let others = next tree k scope (Instruction target value rest) refl here in
    one_later tree k (suc k + size rest) (elements_of scope (suc k) rest) (ap (λ nodes. size (kids_of nodes)) here.found) (elements_there tree scope (suc k) rest others)
    (children_alone tree scope (suc k) rest others)

-- an own Signature lies in its element, and in no other node below that
pub signature_inside : (tree : Nodes) (e s : ℕ) → own_signature tree e ≡ Some s → IsIn tree e s
signature_inside tree e s own =
    let is : IsElementIn tree e s = of_first (IsElementIn tree e) (children tree e (ds (codes "Signature"))) s (children_in tree e (ds (codes "Signature"))) own in
    is.inside

signature_alone : (tree : Nodes) (e s n : ℕ) → own_signature tree e ≡ Some s → suc e ≤ n → IsIn tree n s → n ≡ s
signature_alone tree e s n own =
    of_first (λ m. suc e ≤ n → IsIn tree n m → n ≡ m) (children tree e (ds (codes "Signature"))) s
    (of_name (ds (codes "Signature")) (IsAlone tree (suc e)) (λ m. suc e ≤ n → IsIn tree n m → n ≡ m) (λ c alone _. alone n) (element_children tree e)
    (children_alone tree (scope_of_kids (scope_at outermost tree e) (from_node tree e)) (suc e) (kids_of (from_node tree e))
    (λ h. record { found = kids_from tree e h; inside = kids_scope tree e h }))) own

-- what lies in a node that is apart is apart
both_apart : (tree : Nodes) (s e n : ℕ) → ¬ (IsIn tree s e) → ¬ (IsIn tree e s) → IsIn tree e n → AreApart tree s n
both_apart tree s e n not_below not_above inside = record {
  first = λ holds. elim (cases_lt e s) [
    | inl less ↦ not_above (record { from = omega arith; to = omega (arith, holds.from, inside.to) })
    | inr over ↦ not_below (record { from = over; to = omega (arith, inside.from, holds.to) })
  ];
  second = λ holds. not_above (in_both tree e n s inside holds);
}

-- the Signature that vouches for an element is its own
vouching_signature : (key : List ℕ) (tree : Nodes) (e : ℕ) (parts : Parts) → Vouches key tree e parts ⊎ VouchesFirst key tree e parts →
    own_signature tree e ≡ Some parts.signature
vouching_signature key tree e parts vouches = elim vouches [
  | inl after ↦ ap (λ (list : List Child). first (named (ds (codes "Signature")) list)) after.form.children
  | inr front ↦ ap (λ (list : List Child). first (named (ds (codes "Signature")) list)) front.form.children
]

-- what lies below an element is a part of it
below_apart : (tree : Nodes) (e m n s : ℕ) → IsBelow tree e m → IsIn tree m n → own_signature tree e ≡ Some s → AreApart tree s n
below_apart tree e m n s below inside own = record {
  first = below.outside n inside s own;
  second = λ holds. below.outside s (in_both tree m n s inside holds) s own (in_itself tree s);
}

pub children_are_parts : (tree : Nodes) (e : ℕ) (local : List ℕ) → AllByRecursion (IsPartOf tree e) (children tree e (saml local))
children_are_parts tree e local =
    each_weaker (IsBelow tree e) (IsPartOf tree e)
    (λ m below. record { inside = below.inside; apart = λ n s inside own. below_apart tree e m n s below inside own }) (children tree e (saml local))
    (children_below tree e local)

-- an element in another, apart from the Signature of that
record IsApart (tree : Nodes) (e n : ℕ) : Type 0 where
  inside : IsIn tree e n
  apart : (s : ℕ) → own_signature tree e ≡ Some s → AreApart tree s n

children_apart : (tree : Nodes) (e m : ℕ) (local : List ℕ) → IsBelow tree e m → AllByRecursion (IsApart tree e) (children tree m (saml local))
children_apart tree e m local below =
    each_weaker (IsElementIn tree m) (IsApart tree e)
    (λ n is. record { inside = below.inside n is.inside; apart = λ s own. below_apart tree e m n s below is.inside own }) (children tree m (saml local))
    (children_in tree m (saml local))

values_apart : (tree : Nodes) (e : ℕ) → AllByRecursion (IsApart tree e) (value_places tree e)
values_apart tree e =
    of_all (IsBelow tree e) (IsApart tree e) (places_of_statement tree)
    (λ statement below. of_all (IsBelow tree e) (IsApart tree e) (places_of_attribute tree)
    (λ attribute b. children_apart tree e attribute (codes "AttributeValue") b) (children tree statement (saml (codes "Attribute")))
    (below_more tree e statement below (saml (codes "Attribute"))))
    (children tree e (saml (codes "AttributeStatement"))) (children_below tree e (codes "AttributeStatement"))

name_apart : (tree : Nodes) (e : ℕ) → IfSome (name_place tree e) (IsApart tree e)
name_apart tree e = subjects (children tree e (saml (codes "Subject"))) (children_below tree e (codes "Subject"))
  where
    of_begun : (ks : List ℕ) → AllByRecursion (IsApart tree e) ks → IfSome (first ks) (IsApart tree e)
    of_begun [] all = tt
    of_begun (k ∷ ks) all = all.0

    subjects : (ks : List ℕ) → AllByRecursion (IsBelow tree e) ks →
        IfSome (option_and_then (λ subject. first (children tree subject (saml (codes "NameID")))) (first ks)) (IsApart tree e)
    subjects [] all = tt
    subjects (k ∷ ks) all = of_begun (children tree k (saml (codes "NameID"))) (children_apart tree e k (codes "NameID") all.0)

-- the same of the Signature that vouches, which may be that of an element around
vouched_apart : (v : VouchedView) → IsVouched v → (n : ℕ) → IsApart v.document.tree v.node n → AreApart v.document.tree v.signature n
vouched_apart v vouched n place =
    let tree = v.document.tree in
    let own : own_signature tree vouched.element ≡ Some v.signature =
    vouching_signature vouched.key tree vouched.element vouched.parts vouched.vouches ∙ ap (λ (s : ℕ). Some s) vouched.signature in
    elim (cases_lt vouched.element v.node) [
      | inl below ↦
          both_apart tree v.signature v.node n vouched.outside
          (λ holds.
          let same : v.node ≡ v.signature = signature_alone tree vouched.element v.signature v.node own below holds in
          vouched.outside (subst (λ m. IsIn tree m v.node) same (in_itself tree v.node)))
          place.inside
      | inr over ↦
          let same : vouched.element ≡ v.node = omega (arith, vouched.inside.from) in
          place.apart v.signature (subst (λ m. own_signature tree m ≡ Some v.signature) same own)
    ]

if_some : (P Q : ℕ → Type 0) → ((n : ℕ) → P n → Q n) → (o : Option ℕ) → IfSome o P → IfSome o Q
if_some P Q f None h = tt
if_some P Q f (Some n) h = f n h

pub name_is_apart : (v : VouchedView) → IsVouched v → IfSome (name_place v.document.tree v.node) (AreApart v.document.tree v.signature)
name_is_apart v vouched =
    if_some (IsApart v.document.tree v.node) (AreApart v.document.tree v.signature) (vouched_apart v vouched) (name_place v.document.tree v.node)
    (name_apart v.document.tree v.node)

pub values_are_apart : (v : VouchedView) → IsVouched v → AllByRecursion (AreApart v.document.tree v.signature) (value_places v.document.tree v.node)
values_are_apart v vouched =
    each_weaker (IsApart v.document.tree v.node) (AreApart v.document.tree v.signature) (vouched_apart v vouched) (value_places v.document.tree v.node)
    (values_apart v.document.tree v.node)

pub name_is_apart_from_own : (tree : Nodes) (e s : ℕ) → own_signature tree e ≡ Some s → IfSome (name_place tree e) (AreApart tree s)
name_is_apart_from_own tree e s own = if_some (IsApart tree e) (AreApart tree s) (λ n place. place.apart s own) (name_place tree e) (name_apart tree e)

pub values_are_apart_from_own : (tree : Nodes) (e s : ℕ) → own_signature tree e ≡ Some s → AllByRecursion (AreApart tree s) (value_places tree e)
values_are_apart_from_own tree e s own =
    each_weaker (IsApart tree e) (AreApart tree s) (λ n place. place.apart s own) (value_places tree e) (values_apart tree e)
