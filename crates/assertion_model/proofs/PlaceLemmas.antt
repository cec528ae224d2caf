-- The children of an element lie in it, and none in another of them.
use Rattle.std.proofs.Common.{◌≡◌, ℕ, suc, ◌+◌, ◌-◌, ◌<◌, ◌≤◌, Bool, true, false, cond, List, [], ◌∷◌, ◌++◌, append_assoc, codes, Option, None, Some, refl, sym, ap, ◌∙◌, subst, inl, inr, arith}
use Rattle.std.specs.Prelude.{IfSome}
use Rattle.std.specs.List.{AllByRecursion, flat_map}
use Rattle.std.specs.Option.{option_and_then}
use Rattle.std.specs.Str.{bytes_eq}
use Rattle.std.proofs.lemmas.Bool.{cases_lt}
use Rattle.xml_spec.specs.Tree.{Nodes, NoNodes, Element, Text, Comment, Instruction}
use Rattle.xml_spec.specs.Numbering.{size, from_node, kids_of}
use Rattle.xml_spec.specs.Names.{Scope, outermost, inner_scope, ExpandedName, element_name}
use Rattle.xml_spec.specs.Canonical.{scope_at}
use Rattle.xml_spec.proofs.Sorting.{each_weaker}
use Rattle.canon_laws.proofs.Contents.{all_append}
use Rattle.saml_names.specs.Names.{saml_namespace, saml, ds}
use Rattle.saml_tree.specs.Documents.{DocumentView, kind_of}
use Rattle.saml_tree.specs.Elements.{IsElement}
use Rattle.sig_reference.specs.Vouching.{IsIn}
use Rattle.tree_read.specs.Children.{Child, child, is_name, scope_of_kids, elements_of, element_children, named, children}
use Rattle.tree_read.specs.Views.{tree_of}
use Rattle.tree_read.specs.declared.at.At.{At}
use Rattle.saml_tree.proofs.Numbers.{left_from, size_parts, some_from, kid_from, kids_from}
use Rattle.tree_read.proofs.Placed.{kids_scope}
use Rattle.assertion_model.specs.Contents.{first}
use Rattle.assertion_model.specs.Parts.{own_signature}
use Rattle.assertion_model.specs.Places.{name_place, places_of_attribute, places_of_statement, value_places, IsPlace}
use Rattle.assertion_model.proofs.PartLemmas.{Stands, behind, next, some}
use Rattle.assertion_model.proofs.ValueLemmas.{name_is}

-- WHAT LIES IN AN ELEMENT

-- the last node in a kid is in its parent
ends_within : (tree : Nodes) (e j : ℕ) → j < size (kids_of (from_node tree e)) →
    suc (e + j) + size (kids_of (from_node tree (suc (e + j)))) ≤ e + size (kids_of (from_node tree e))
ends_within tree e j less =
    let kids = kids_of (from_node tree e) in
    let here = kid_from tree e j less in
    let parts = size_parts (from_node kids j) (some_from kids j less) in
    let same : size (kids_of (from_node tree (suc (e + j)))) ≡ size (kids_of (from_node kids j)) = ap (λ nodes. size (kids_of nodes)) here in
    omega (arith, parts, same, left_from kids j)

pub in_itself : (tree : Nodes) (e : ℕ) → IsIn tree e e
in_itself tree e = record { from = omega arith; to = omega arith }

-- what lies in an element that lies in another lies in that one
pub in_both : (tree : Nodes) (e m n : ℕ) → IsIn tree e m → IsIn tree m n → IsIn tree e n
in_both tree e m n outer inner = elim (cases_lt e m) [
  | inl less ↦
      let number : suc (e + (m - suc e)) ≡ m = omega arith in
      let ends = ends_within tree e (m - suc e) (omega (arith, outer.to)) in
      let last : m + size (kids_of (from_node tree m)) ≤ e + size (kids_of (from_node tree e)) =
      subst (λ (k : ℕ). k + size (kids_of (from_node tree k)) ≤ e + size (kids_of (from_node tree e))) number ends in
      record { from = omega (arith, outer.from, inner.from); to = omega (arith, last, inner.to) }
  | inr over ↦
      let same : m ≡ e = omega (arith, outer.from) in
      subst (λ (k : ℕ). IsIn tree k n) same inner
]

-- WHERE CHILDREN STAND

-- the child is an element of the tree, and all of it has numbers from one on and below another
pub record IsThere (tree : Nodes) (low high : ℕ) (c : Child) : Type 0 where
  pub element : IsElement tree c.number
  pub from : low ≤ c.number
  pub to : c.number + size (kids_of (from_node tree c.number)) < high

wider : (tree : Nodes) (low high least most : ℕ) → least ≤ low → high ≤ most → (list : List Child) →
    AllByRecursion (IsThere tree low high) list → AllByRecursion (IsThere tree least most) list
wider tree low high least most h k list all =
    each_weaker (IsThere tree low high) (IsThere tree least most)
    (λ c is. record { element = is.element; from = omega (arith, is.from); to = omega (arith, is.to) }) list all

pub elements_there : (tree : Nodes) (scope : Scope) (k : ℕ) (nodes : Nodes) → (0 < size nodes → Stands tree k scope nodes) →
    AllByRecursion (IsThere tree k (k + size nodes)) (elements_of scope k nodes)
elements_there tree scope k NoNodes stands = tt
elements_there tree scope k (Element name attributes kids rest) stands =
    let here = stands (some (size kids + size rest)) in
    let all : size (kids_of (from_node tree k)) ≡ size kids = ap (λ nodes. size (kids_of nodes)) here.found in (
      record { element = ap kind_of here.found; from = omega arith; to = omega (arith, all) },
      wider tree (suc (k + size kids)) (suc (k + size kids) + size rest) k (k + suc (size kids + size rest)) (omega arith) (omega arith)
          (elements_of scope (suc (k + size kids)) rest)
          (elements_there tree scope (suc (k + size kids)) rest (behind tree k scope (Element name attributes kids rest) here)),
    )
elements_there tree scope k (Text bytes rest) stands =
    wider tree (suc k) (suc k + size rest) k (k + suc (size rest)) (omega arith) (omega arith) (elements_of scope (suc k) rest)
    (elements_there tree scope (suc k) rest (next tree k scope (Text bytes rest) refl (stands (some (size rest)))))
elements_there tree scope k (Comment bytes rest) stands =
    wider tree (suc k) (suc k + size rest) k (k + suc (size rest)) (omega arith) (omega arith) (elements_of scope (suc k) rest)
    (elements_there tree scope (suc k) rest (next tree k scope (Comment bytes rest) refl (stands (some (size rest)))))
elements_there tree scope k (Instruction target value rest) stands =
    wider tree (suc k) (suc k + size rest) k (k + suc (size rest)) (omega arith) (omega arith) (elements_of scope (suc k) rest)
    (elements_there tree scope (suc k) rest (next tree k scope (Instruction target value rest) refl (stands (some (size rest)))))

children_there : (tree : Nodes) (k : ℕ) → AllByRecursion (IsThere tree (suc k) (suc k + size (kids_of (from_node tree k)))) (element_children tree k)
children_there tree k =
    elements_there tree (scope_of_kids (scope_at outermost tree k) (from_node tree k)) (suc k) (kids_of (from_node tree k))
    (λ h. record { found = kids_from tree k h; inside = kids_scope tree k h })

-- what holds of children holds of those of a name
pub of_name : (wanted : ExpandedName) (P : Child → Type 0) (Q : ℕ → Type 0) → ((c : Child) → P c → is_name wanted c.name ≡ true → Q c.number) →
    (list : List Child) → AllByRecursion P list → AllByRecursion Q (named wanted list)
of_name wanted P Q f [] all = tt
of_name wanted P Q f (c ∷ list) all = which (is_name wanted c.name) refl (of_name wanted P Q f list all.1)
  where
    which : (b : Bool) → is_name wanted c.name ≡ b → AllByRecursion Q (named wanted list) →
        AllByRecursion Q (cond b (c.number ∷ named wanted list) (named wanted list))
    which true h others = (f c all.0 h, others)
    which false h others = others

-- an element that lies in another
pub record IsElementIn (tree : Nodes) (k n : ℕ) : Type 0 where
  pub element : IsElement tree n
  pub inside : IsIn tree k n

pub children_in : (tree : Nodes) (k : ℕ) (wanted : ExpandedName) → AllByRecursion (IsElementIn tree k) (children tree k wanted)
children_in tree k wanted =
    of_name wanted (IsThere tree (suc k) (suc k + size (kids_of (from_node tree k)))) (IsElementIn tree k)
    (λ c is _. record { element = is.element; inside = record { from = omega (arith, is.from); to = omega (arith, is.to) } })
    (element_children tree k) (children_there tree k)

-- NO NODE LIES IN TWO CHILDREN

abbrev Holds : Nodes → ℕ → Child → Child → Type 0
Holds tree n one c = IsIn tree c.number n → c ≡ one

-- those from a number on do not hold a node in front of it
none_holds : (tree : Nodes) (n : ℕ) (one : Child) (low high : ℕ) → n < low → (list : List Child) → AllByRecursion (IsThere tree low high) list →
    AllByRecursion (Holds tree n one) list
none_holds tree n one low high less list all =
    each_weaker (IsThere tree low high) (Holds tree n one) (λ c is h. absurd (omega (arith, is.from, h.from))) list all

-- one child alone holds a node
one_holds : (tree : Nodes) (n : ℕ) (scope : Scope) (k : ℕ) (nodes : Nodes) → (0 < size nodes → Stands tree k scope nodes) →
    (one : Child) × AllByRecursion (Holds tree n one) (elements_of scope k nodes)
one_holds tree n scope k NoNodes stands = (child 0 (record { namespace = []; local = [] }), tt)
one_holds tree n scope k (Element name attributes kids rest) stands =
    let here = stands (some (size kids + size rest)) in
    let all : size (kids_of (from_node tree k)) ≡ size kids = ap (λ nodes. size (kids_of nodes)) here.found in
    let others = behind tree k scope (Element name attributes kids rest) here in
    let this = child k (element_name (inner_scope attributes scope) name) in
    elim (cases_lt n (suc (k + size kids))) [
      | inl less ↦ (
        this,
        (
          λ _. refl,
          none_holds tree n this (suc (k + size kids)) (suc (k + size kids) + size rest) less (elements_of scope (suc (k + size kids)) rest)
              (elements_there tree scope (suc (k + size kids)) rest others),
        ),
      )
      | inr past ↦
          let later = one_holds tree n scope (suc (k + size kids)) rest others in
          (later.0, (λ h. absurd (omega (arith, all, past, h.to)), later.1))
    ]
one_holds tree n scope k (Text bytes rest) stands =
    one_holds tree n scope (suc k) rest (next tree k scope (Text bytes rest) refl (stands (some (size rest))))
one_holds tree n scope k (Comment bytes rest) stands =
    one_holds tree n scope (suc k) rest (next tree k scope (Comment bytes rest) refl (stands (some (size rest))))
one_holds tree n scope k (Instruction target value rest) stands =
    one_holds tree n scope (suc k) rest (next tree k scope (Instruction target value rest) refl (stands (some (size rest))))

-- a node lies in children of one name alone
one_name : (tree : Nodes) (e n : ℕ) → (one : Child) × ((wanted : ExpandedName) → AllByRecursion (λ k. IsIn tree k n → wanted ≡ one.name) (children tree e wanted))
one_name tree e n =
    let held = one_holds tree n (scope_of_kids (scope_at outermost tree e) (from_node tree e)) (suc e) (kids_of (from_node tree e))
    (λ h. record { found = kids_from tree e h; inside = kids_scope tree e h }) in (
      held.0,
      λ wanted. of_name wanted (Holds tree n held.0) (λ k. IsIn tree k n → wanted ≡ held.0.name)
          (λ c holds is inside. sym (name_is wanted c.name is) ∙ ap (λ (d : Child). d.name) (holds inside))
          (element_children tree e) held.1,
    )

pub of_first : {X : Type 0} (P : X → Type 0) (xs : List X) (x : X) → AllByRecursion P xs → first xs ≡ Some x → P x
of_first P [] x all e = absurd (let clash : None ≡ Some x = e in cc)
of_first P (y ∷ xs) x all e = let same : y ≡ x = cc in subst P same all.0

for_each : {X : Type 0} (P : ℕ → X → Type 0) (xs : List X) → ((n : ℕ) → AllByRecursion (P n) xs) → AllByRecursion (λ x. (n : ℕ) → P n x) xs
for_each P [] h = tt
for_each P (x ∷ xs) h = (λ n. (h n).0, for_each P xs (λ n. (h n).1))

-- WHAT LIES IN A CHILD OF ASSERTIONS

-- what lies in element m lies in element e, and not in the Signature of e
pub record IsBelow (tree : Nodes) (e m : ℕ) : Type 0 where
  pub inside : (n : ℕ) → IsIn tree m n → IsIn tree e n
  pub outside : (n : ℕ) → IsIn tree m n → (s : ℕ) → own_signature tree e ≡ Some s → ¬ (IsIn tree s n)

not_in_signature : (tree : Nodes) (e n : ℕ) (local : List ℕ) →
    AllByRecursion (λ m. IsIn tree m n → (s : ℕ) → own_signature tree e ≡ Some s → ¬ (IsIn tree s n)) (children tree e (saml local))
not_in_signature tree e n local =
    let held = one_name tree e n in
    each_weaker (λ m. IsIn tree m n → saml local ≡ held.0.name) _
    (λ m names inside s is also.
    let there : ds (codes "Signature") ≡ held.0.name = of_first (λ k. IsIn tree k n → ds (codes "Signature") ≡ held.0.name) _ s (held.1 (ds (codes "Signature"))) is also in
    differ (names inside ∙ sym there)) (children tree e (saml local)) (held.1 (saml local))
  where
    differ : saml local ≡ ds (codes "Signature") → ⊥
    differ e = let clash : true ≡ false = ap (λ (n : ExpandedName). bytes_eq n.namespace saml_namespace) e in cc

pub children_below : (tree : Nodes) (e : ℕ) (local : List ℕ) → AllByRecursion (IsBelow tree e) (children tree e (saml local))
children_below tree e local =
    both (IsElementIn tree e) (λ m. (n : ℕ) → IsIn tree m n → (s : ℕ) → own_signature tree e ≡ Some s → ¬ (IsIn tree s n)) (IsBelow tree e)
    (λ m is outside. record { inside = λ n. in_both tree e m n is.inside; outside = outside }) (children tree e (saml local))
    (children_in tree e (saml local)) (for_each (λ n m. IsIn tree m n → (s : ℕ) → own_signature tree e ≡ Some s → ¬ (IsIn tree s n))
    (children tree e (saml local)) (λ n. not_in_signature tree e n local))
  where
    both : (P Q R : ℕ → Type 0) → ((m : ℕ) → P m → Q m → R m) → (ms : List ℕ) → AllByRecursion P ms → AllByRecursion Q ms → AllByRecursion R ms
    both P Q R f [] p q = tt
    both P Q R f (m ∷ ms) p q = (f m p.0 q.0, both P Q R f ms p.1 q.1)

-- and the children of what lies there lie there too
pub below_more : (tree : Nodes) (e m : ℕ) → IsBelow tree e m → (wanted : ExpandedName) → AllByRecursion (IsBelow tree e) (children tree m wanted)
below_more tree e m below wanted =
    each_weaker (IsElementIn tree m) (IsBelow tree e) (λ n is. record {
      inside = λ l h. below.inside l (in_both tree m n l is.inside h);
      outside = λ l h. below.outside l (in_both tree m n l is.inside h);
    }) (children tree m wanted) (children_in tree m wanted)

places_below : (tree : Nodes) (e m : ℕ) → IsBelow tree e m → (wanted : ExpandedName) → AllByRecursion (IsPlace tree e) (children tree m wanted)
places_below tree e m below wanted =
    each_weaker (IsElementIn tree m) (IsPlace tree e)
    (λ n is. record {
      element = is.element;
      inside = below.inside n is.inside;
      outside = below.outside n is.inside;
    }) (children tree m wanted) (children_in tree m wanted)

pub of_all : {X Y : Type 0} (P : X → Type 0) (Q : Y → Type 0) (f : X → List Y) → ((x : X) → P x → AllByRecursion Q (f x)) →
    (xs : List X) → AllByRecursion P xs → AllByRecursion Q (flat_map f xs)
of_all P Q f g [] all = tt
of_all P Q f g (x ∷ xs) all = all_append Q (f x) (flat_map f xs) (g x all.0) (of_all P Q f g xs all.1)

pub value_places_are : (tree : Nodes) (e : ℕ) → AllByRecursion (IsPlace tree e) (value_places tree e)
value_places_are tree e =
    of_all (IsBelow tree e) (IsPlace tree e) (places_of_statement tree)
    (λ statement below. of_all (IsBelow tree e) (IsPlace tree e) (places_of_attribute tree)
    (λ attribute b. places_below tree e attribute b (saml (codes "AttributeValue")))
    (children tree statement (saml (codes "Attribute"))) (below_more tree e statement below (saml (codes "Attribute"))))
    (children tree e (saml (codes "AttributeStatement"))) (children_below tree e (codes "AttributeStatement"))

pub name_place_is : (tree : Nodes) (e : ℕ) → IfSome (name_place tree e) (IsPlace tree e)
name_place_is tree e = subjects (children tree e (saml (codes "Subject"))) (children_below tree e (codes "Subject"))
  where
    of_begun : (ks : List ℕ) → AllByRecursion (IsPlace tree e) ks → IfSome (first ks) (IsPlace tree e)
    of_begun [] all = tt
    of_begun (k ∷ ks) all = all.0

    subjects : (ks : List ℕ) → AllByRecursion (IsBelow tree e) ks →
        IfSome (option_and_then (λ subject. first (children tree subject (saml (codes "NameID")))) (first ks)) (IsPlace tree e)
    subjects [] all = tt
    subjects (k ∷ ks) all = of_begun (children tree k (saml (codes "NameID"))) (places_below tree e k all.0 (saml (codes "NameID")))

-- WHILE THEY ARE FOUND

-- one more element of this name is taken, and found
pub one_found : (wanted name : ExpandedName) (before after : List Child) (k : ℕ) (found now whole : List ℕ) → name ≡ wanted →
    named name before ≡ k ∷ named name after → found ++ named wanted before ≡ whole → now ≡ found ++ k ∷ [] → now ++ named wanted after ≡ whole
one_found wanted name before after k found now whole n taken h is =
    ap (λ ks. ks ++ named wanted after) is ∙ append_assoc found (k ∷ []) (named wanted after)
    ∙ ap (λ m. found ++ k ∷ named m after) (sym n) ∙ ap (λ ks. found ++ ks) (sym taken) ∙ ap (λ m. found ++ named m before) n ∙ h

-- or what is in it
pub more_found : (f : ℕ → List ℕ) (wanted name : ExpandedName) (before after : List Child) (k : ℕ) (found now whole : List ℕ) → name ≡ wanted →
    named name before ≡ k ∷ named name after → found ++ flat_map f (named wanted before) ≡ whole → now ≡ found ++ f k →
    now ++ flat_map f (named wanted after) ≡ whole
more_found f wanted name before after k found now whole n taken h is =
    ap (λ ks. ks ++ flat_map f (named wanted after)) is ∙ append_assoc found (f k) (flat_map f (named wanted after))
    ∙ ap (λ m. found ++ flat_map f (k ∷ named m after)) (sym n) ∙ ap (λ ks. found ++ flat_map f ks) (sym taken)
    ∙ ap (λ m. found ++ flat_map f (named m before)) n ∙ h

-- AT A PLACE IN A DOCUMENT

pub name_at : (at : At) (d : DocumentView) (k : ℕ) (o : Option ℕ) → at.doc.now ≡ d → at.node.0 ≡ k → o ≡ name_place (tree_of at) at.node.0 →
    name_place d.tree k ≡ o
name_at at d k o e f is = (λ i. name_place (sym e i).tree (sym f i)) ∙ sym is

pub values_at : (at : At) (d : DocumentView) (k : ℕ) (found : List ℕ) → at.doc.now ≡ d → at.node.0 ≡ k → found ≡ value_places (tree_of at) at.node.0 →
    value_places d.tree k ≡ found
values_at at d k found e f is = (λ i. value_places (sym e i).tree (sym f i)) ∙ sym is

pub name_element : (tree : Nodes) (e n : ℕ) → name_place tree e ≡ Some n → IsElement tree n
name_element tree e n is = let place : IsPlace tree e n = subst (λ o. IfSome o (IsPlace tree e)) is (name_place_is tree e) in place.element

pub value_elements : (tree : Nodes) (e : ℕ) (found : List ℕ) → value_places tree e ≡ found → AllByRecursion (λ n. IsElement tree n) found
value_elements tree e found is =
    subst (AllByRecursion (λ n. IsElement tree n)) is
    (each_weaker (IsPlace tree e) (λ n. IsElement tree n) (λ n place. place.element) (value_places tree e) (value_places_are tree e))
