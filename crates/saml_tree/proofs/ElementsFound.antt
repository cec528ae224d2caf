-- What is found by an ID, or as a parent, is an element.
use Rattle.std.proofs.Common.{◌≡◌, ℕ, zero, suc, ◌+◌, ◌-◌, ◌<◌, ◌≤◌, ◌⊎◌, true, false, Bool, cond, ltb, List, [], ◌∷◌, ◌++◌, codes, Option, Some, None, is_some, refl, ap, ◌∙◌, inl, inr, subst, arith}
use Rattle.std.specs.Option.{option_map, option_map_or}
use Rattle.std.specs.List.{filter_map, cons_option}
use Rattle.std.specs.Str.{bytes_eq}
use Rattle.std.proofs.lemmas.Bool.{cond-true, cond-false, lt-ltb, le-ltb}
use Rattle.xml_spec.specs.Tree.{Attribute, Nodes, NoNodes, Element, Text, Comment, Instruction}
use Rattle.xml_spec.specs.Numbering.{size, from_node, parent_of}
use Rattle.xml_spec.specs.Identifiers.{Identifier, identifier_at, identifiers_from, identifiers, node_with}
use Rattle.saml_tree.specs.Documents.{kind_of}
use Rattle.saml_tree.specs.declared.node.NodeKind.TheVariants as kinds
use Rattle.saml_tree.proofs.Nodes.{in_tree}

-- node k of the list is an element
abbrev IsElementAt : Nodes → ℕ → Type 0
IsElementAt tree k = kind_of (from_node tree k) ≡ Some kinds.Element

inside : (tree : Nodes) (k : ℕ) → IsElementAt tree k → k < size tree
inside tree k h = in_tree tree k (ap (λ o. is_some o) h)

-- an element among an element's kids, and behind them
kid_element : (name : List ℕ) (attributes : List Attribute) (kids rest : Nodes) (k : ℕ) → IsElementAt kids k →
    IsElementAt (Element name attributes kids rest) (suc k)
kid_element name attributes kids rest k h =
    ap kind_of (cond-true (ltb k (size kids)) (from_node kids k) (from_node rest (k - size kids)) (lt-ltb k (size kids) (inside kids k h))) ∙ h

rest_element : (name : List ℕ) (attributes : List Attribute) (kids rest : Nodes) (k : ℕ) → IsElementAt rest k →
    IsElementAt (Element name attributes kids rest) (suc (size kids + k))
rest_element name attributes kids rest k h =
    let past : size kids ≤ size kids + k = omega arith in
    let same : size kids + k - size kids ≡ k = omega arith in
    ap kind_of (cond-false (ltb (size kids + k) (size kids)) (from_node kids (size kids + k)) (from_node rest (size kids + k - size kids)) (le-ltb (size kids + k) (size kids) past))
    ∙ ap (λ n. kind_of (from_node rest n)) same ∙ h

-- the parent that is a number behind another one
behind_parent : (f : ℕ → ℕ) (o : Option ℕ) (p : ℕ) → option_map f o ≡ Some p → (q : ℕ) × (o ≡ Some q) × (f q ≡ p)
behind_parent f None p h = absurd (let clash : None ≡ Some p = h in cc)
behind_parent f (Some q) p h = (q, refl, let same : Some (f q) ≡ Some p = h in cc)

pub parent_element : (tree : Nodes) (k p : ℕ) → parent_of tree k ≡ Some p → kind_of (from_node tree p) ≡ Some kinds.Element
parent_element NoNodes k p h = absurd (let clash : None ≡ Some p = h in cc)
parent_element (Element name attributes kids rest) zero p h = absurd (let clash : None ≡ Some p = h in cc)
parent_element (Element name attributes kids rest) (suc k) p h =
    by_test (ltb k (size kids)) (λ q at. parent_element kids k q at) (λ q at. parent_element rest (k - size kids) q at) h
  where
    of_kid : (o : Option ℕ) → ((q : ℕ) → o ≡ Some q → IsElementAt kids q) → Some (option_map_or (λ q. suc q) o 0) ≡ Some p →
        IsElementAt (Element name attributes kids rest) p
    of_kid None inner e =
        let same : 0 ≡ p = (let numbers : Some 0 ≡ Some p = e in cc) in
        subst (IsElementAt (Element name attributes kids rest)) same refl
    of_kid (Some q) inner e =
        let same : suc q ≡ p = (let numbers : Some (suc q) ≡ Some p = e in cc) in
        subst (IsElementAt (Element name attributes kids rest)) same (kid_element name attributes kids rest q (inner q refl))

    by_test : (b : Bool) → ((q : ℕ) → parent_of kids k ≡ Some q → IsElementAt kids q) →
        ((q : ℕ) → parent_of rest (k - size kids) ≡ Some q → IsElementAt rest q) →
        cond b (Some (option_map_or (λ q. suc q) (parent_of kids k) 0)) (option_map (λ q. suc (size kids + q)) (parent_of rest (k - size kids))) ≡ Some p →
        IsElementAt (Element name attributes kids rest) p
    by_test true inner behind e = of_kid (parent_of kids k) inner e
    by_test false inner behind e =
        let found = behind_parent (λ q. suc (size kids + q)) (parent_of rest (k - size kids)) p e in
        subst (IsElementAt (Element name attributes kids rest)) found.2 (rest_element name attributes kids rest found.0 (behind found.0 found.1))
parent_element (Text text rest) zero p h = absurd (let clash : None ≡ Some p = h in cc)
parent_element (Text text rest) (suc k) p h =
    let found = behind_parent (λ q. suc q) (parent_of rest k) p h in
    subst (IsElementAt (Text text rest)) found.2 (parent_element rest k found.0 found.1)
parent_element (Comment text rest) zero p h = absurd (let clash : None ≡ Some p = h in cc)
parent_element (Comment text rest) (suc k) p h =
    let found = behind_parent (λ q. suc q) (parent_of rest k) p h in
    subst (IsElementAt (Comment text rest)) found.2 (parent_element rest k found.0 found.1)
parent_element (Instruction target value rest) zero p h = absurd (let clash : None ≡ Some p = h in cc)
parent_element (Instruction target value rest) (suc k) p h =
    let found = behind_parent (λ q. suc q) (parent_of rest k) p h in
    subst (IsElementAt (Instruction target value rest)) found.2 (parent_element rest k found.0 found.1)

-- an ID is found among the first ones or among the others
found_in : (front back : List Identifier) (value : List ℕ) (n : ℕ) → node_with (front ++ back) value ≡ Some n →
    (node_with front value ≡ Some n) ⊎ (node_with back value ≡ Some n)
found_in [] back value n h = inr h
found_in (first ∷ front) back value n h = by_test (bytes_eq first.value value) (λ e. found_in front back value n e) h
  where
    by_test : (b : Bool) →
        (node_with (front ++ back) value ≡ Some n → (node_with front value ≡ Some n) ⊎ (node_with back value ≡ Some n)) →
        cond b (Some first.node) (node_with (front ++ back) value) ≡ Some n →
        (cond b (Some first.node) (node_with front value) ≡ Some n) ⊎ (node_with back value ≡ Some n)
    by_test true others e = inl e
    by_test false others e = others e

-- among the IDs of one element: that element
own_node : (k : ℕ) (attributes : List Attribute) (value : List ℕ) (n : ℕ) → node_with (filter_map (identifier_at k) attributes) value ≡ Some n → k ≡ n
own_node k [] value n h = absurd (let clash : None ≡ Some n = h in cc)
own_node k (a ∷ attributes) value n h = by_name (bytes_eq a.name (codes "ID")) (λ e. own_node k attributes value n e) h
  where
    by_value : (b : Bool) → (node_with (filter_map (identifier_at k) attributes) value ≡ Some n → k ≡ n) →
        cond b (Some k) (node_with (filter_map (identifier_at k) attributes) value) ≡ Some n → k ≡ n
    by_value true others e = let numbers : Some k ≡ Some n = e in cc
    by_value false others e = others e

    by_name : (b : Bool) → (node_with (filter_map (identifier_at k) attributes) value ≡ Some n → k ≡ n) →
        node_with (cons_option (cond b (Some (record { value = a.value; node = k })) None) (filter_map (identifier_at k) attributes)) value ≡ Some n → k ≡ n
    by_name true others e = by_value (bytes_eq a.value value) others e
    by_name false others e = others e

-- node n is an element of this list, which begins with node k
abbrev IsElementFrom : ℕ → Nodes → ℕ → Type 0
IsElementFrom k tree n = (i : ℕ) × (k + i ≡ n) × IsElementAt tree i

found_from : (k : ℕ) (tree : Nodes) (value : List ℕ) (n : ℕ) → node_with (identifiers_from k tree) value ≡ Some n → IsElementFrom k tree n
found_from k NoNodes value n h = absurd (let clash : None ≡ Some n = h in cc)
found_from k (Element name attributes kids rest) value n h =
    elim (found_in (filter_map (identifier_at k) attributes ++ identifiers_from (suc k) kids) (identifiers_from (suc (k + size kids)) rest) value n h) [
      | inl front ↦ elim (found_in (filter_map (identifier_at k) attributes) (identifiers_from (suc k) kids) value n front) [
        | inl mine ↦ (0, (let same = own_node k attributes value n mine in omega arith), refl)
        | inr inner ↦
            let found = found_from (suc k) kids value n inner in
            (suc found.0, (let same = found.1 in omega arith), kid_element name attributes kids rest found.0 found.2)
      ]
      | inr behind ↦
          let found = found_from (suc (k + size kids)) rest value n behind in
          (suc (size kids + found.0), (let same = found.1 in omega arith), rest_element name attributes kids rest found.0 found.2)
    ]
found_from k (Text text rest) value n h =
    let found = found_from (suc k) rest value n h in (suc found.0, (let same = found.1 in omega arith), found.2)
found_from k (Comment text rest) value n h =
    let found = found_from (suc k) rest value n h in (suc found.0, (let same = found.1 in omega arith), found.2)
found_from k (Instruction target value rest) wanted n h =
    let found = found_from (suc k) rest wanted n h in (suc found.0, (let same = found.1 in omega arith), found.2)

pub identified_element : (tree : Nodes) (value : List ℕ) (n : ℕ) → node_with (identifiers tree) value ≡ Some n →
    kind_of (from_node tree n) ≡ Some kinds.Element
identified_element tree value n h =
    let found = found_from 0 tree value n h in
    let same : found.0 ≡ n = (let number = found.1 in omega arith) in
    subst (IsElementAt tree) same found.2
