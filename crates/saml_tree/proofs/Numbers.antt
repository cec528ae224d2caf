-- Nodes by number: what stands at a node, in it and behind it.
use Rattle.std.proofs.Common.{◌≡◌, ℕ, zero, suc, ◌+◌, ◌-◌, ◌<◌, ◌≤◌, true, false, ltb, List, IsSome, Some, None, refl, sym, ap, ◌∙◌, inl, inr, arith}
use Rattle.std.proofs.lemmas.Bool.{cases_lt, cond-true, cond-false, lt-ltb, le-ltb}
use Rattle.xml_spec.specs.Tree.{Attribute, Nodes, NoNodes, Element, Text, Comment, Instruction}
use Rattle.xml_spec.specs.Numbering.{size, from_node, kids_of, rest_of, number_if_any}
use Rattle.saml_tree.specs.Documents.{kind_of}

-- node 0 is the first
pub from_first : (nodes : Nodes) → from_node nodes 0 ≡ nodes
from_first NoNodes = refl
from_first (Element name attributes kids rest) = refl
from_first (Text text rest) = refl
from_first (Comment text rest) = refl
from_first (Instruction target value rest) = refl

pub in_kids : (name : List ℕ) (attributes : List Attribute) (kids rest : Nodes) (k : ℕ) → k < size kids →
    from_node (Element name attributes kids rest) (suc k) ≡ from_node kids k
in_kids name attributes kids rest k h = cond-true (ltb k (size kids)) _ _ (lt-ltb _ _ h)

pub in_rest : (name : List ℕ) (attributes : List Attribute) (kids rest : Nodes) (k : ℕ) → size kids ≤ k →
    from_node (Element name attributes kids rest) (suc k) ≡ from_node rest (k - size kids)
in_rest name attributes kids rest k h = cond-false (ltb k (size kids)) _ _ (le-ltb _ _ h)

-- a node and those that follow it are no more than the numbers that are left
pub left_from : (nodes : Nodes) (k : ℕ) → size (from_node nodes k) ≤ size nodes - k
left_from NoNodes k = omega arith
left_from (Element name attributes kids rest) zero = omega arith
left_from (Element name attributes kids rest) (suc k) = elim (cases_lt k (size kids)) [
  | inl less ↦ omega (arith, left_from kids k, ap size (in_kids name attributes kids rest k less))
  | inr past ↦ omega (arith, left_from rest (k - size kids), ap size (in_rest name attributes kids rest k past))
]
left_from (Text text rest) zero = omega arith
left_from (Text text rest) (suc k) = omega (arith, left_from rest k)
left_from (Comment text rest) zero = omega arith
left_from (Comment text rest) (suc k) = omega (arith, left_from rest k)
left_from (Instruction target value rest) zero = omega arith
left_from (Instruction target value rest) (suc k) = omega (arith, left_from rest k)

-- to count on from a node
pub from_on : (nodes : Nodes) (k j : ℕ) → j < size (from_node nodes k) → from_node nodes (k + j) ≡ from_node (from_node nodes k) j
from_on NoNodes k j h = absurd (omega arith)
from_on (Element name attributes kids rest) zero j h =
    let same : 0 + j ≡ j = omega arith in ap (from_node (Element name attributes kids rest)) same
from_on (Element name attributes kids rest) (suc k) j h =
    let next : suc k + j ≡ suc (k + j) = omega arith in
    elim (cases_lt k (size kids)) [
      | inl less ↦
          let here = in_kids name attributes kids rest k less in
          let h' : j < size (from_node kids k) = omega (arith, ap size here) in
          ap (from_node (Element name attributes kids rest)) next
          ∙ in_kids name attributes kids rest (k + j) (omega (arith, left_from kids k))
          ∙ from_on kids k j h' ∙ ap (λ nodes. from_node nodes j) (sym here)
      | inr past ↦
          let here = in_rest name attributes kids rest k past in
          let h' : j < size (from_node rest (k - size kids)) = omega (arith, ap size here) in
          let place : k + j - size kids ≡ k - size kids + j = omega arith in
          ap (from_node (Element name attributes kids rest)) next
          ∙ in_rest name attributes kids rest (k + j) (omega arith) ∙ ap (from_node rest) place
          ∙ from_on rest (k - size kids) j h' ∙ ap (λ nodes. from_node nodes j) (sym here)
    ]
from_on (Text text rest) zero j h = let same : 0 + j ≡ j = omega arith in ap (from_node (Text text rest)) same
from_on (Text text rest) (suc k) j h =
    let next : suc k + j ≡ suc (k + j) = omega arith in ap (from_node (Text text rest)) next ∙ from_on rest k j h
from_on (Comment text rest) zero j h = let same : 0 + j ≡ j = omega arith in ap (from_node (Comment text rest)) same
from_on (Comment text rest) (suc k) j h =
    let next : suc k + j ≡ suc (k + j) = omega arith in ap (from_node (Comment text rest)) next ∙ from_on rest k j h
from_on (Instruction target value rest) zero j h =
    let same : 0 + j ≡ j = omega arith in ap (from_node (Instruction target value rest)) same
from_on (Instruction target value rest) (suc k) j h =
    let next : suc k + j ≡ suc (k + j) = omega arith in
    ap (from_node (Instruction target value rest)) next ∙ from_on rest k j h

-- a list is its first node with its kids, and the rest
pub size_parts : (nodes : Nodes) → 0 < size nodes → size nodes ≡ suc (size (kids_of nodes) + size (rest_of nodes))
size_parts NoNodes h = absurd (omega arith)
size_parts (Element name attributes kids rest) h = refl
size_parts (Text text rest) h = omega arith
size_parts (Comment text rest) h = omega arith
size_parts (Instruction target value rest) h = omega arith

-- the first kid stands behind its element, and what follows an element behind all that it holds
first_kid_at : (nodes : Nodes) → 0 < size (kids_of nodes) → from_node nodes 1 ≡ kids_of nodes
first_kid_at NoNodes h = absurd (omega arith)
first_kid_at (Element name attributes kids rest) h = in_kids name attributes kids rest 0 h ∙ from_first kids
first_kid_at (Text text rest) h = absurd (omega arith)
first_kid_at (Comment text rest) h = absurd (omega arith)
first_kid_at (Instruction target value rest) h = absurd (omega arith)

rest_at : (nodes : Nodes) → from_node nodes (suc (size (kids_of nodes))) ≡ rest_of nodes
rest_at NoNodes = refl
rest_at (Element name attributes kids rest) =
    let none : size kids - size kids ≡ 0 = omega arith in
    in_rest name attributes kids rest (size kids) (omega arith) ∙ ap (from_node rest) none ∙ from_first rest
rest_at (Text text rest) = from_first rest
rest_at (Comment text rest) = from_first rest
rest_at (Instruction target value rest) = from_first rest

pub some_kids : (nodes : Nodes) → 0 < size (kids_of nodes) → 1 < size nodes
some_kids NoNodes h = absurd (omega arith)
some_kids (Element name attributes kids rest) h = omega arith
some_kids (Text text rest) h = absurd (omega arith)
some_kids (Comment text rest) h = absurd (omega arith)
some_kids (Instruction target value rest) h = absurd (omega arith)

pub some_rest : (nodes : Nodes) → 0 < size (rest_of nodes) → suc (size (kids_of nodes)) < size nodes
some_rest NoNodes h = absurd (omega arith)
some_rest (Element name attributes kids rest) h = omega arith
some_rest (Text text rest) h = omega arith
some_rest (Comment text rest) h = omega arith
some_rest (Instruction target value rest) h = omega arith

pub kids_from : (tree : Nodes) (n : ℕ) → 0 < size (kids_of (from_node tree n)) → from_node tree (suc n) ≡ kids_of (from_node tree n)
kids_from tree n h =
    let next : suc n ≡ n + 1 = omega arith in
    ap (from_node tree) next ∙ from_on tree n 1 (some_kids (from_node tree n) h) ∙ first_kid_at (from_node tree n) h

pub kids_there : (tree : Nodes) (n : ℕ) → 0 < size (kids_of (from_node tree n)) → suc n < size tree
kids_there tree n h = omega (arith, some_kids (from_node tree n) h, left_from tree n)

pub rest_from : (tree : Nodes) (n : ℕ) → 0 < size (rest_of (from_node tree n)) →
    from_node tree (suc (n + size (kids_of (from_node tree n)))) ≡ rest_of (from_node tree n)
rest_from tree n h =
    let next : suc (n + size (kids_of (from_node tree n))) ≡ n + suc (size (kids_of (from_node tree n))) = omega arith in
    ap (from_node tree) next
    ∙ from_on tree n (suc (size (kids_of (from_node tree n)))) (some_rest (from_node tree n) h) ∙ rest_at (from_node tree n)

pub rest_there : (tree : Nodes) (n : ℕ) → 0 < size (rest_of (from_node tree n)) →
    suc (n + size (kids_of (from_node tree n))) < size tree
rest_there tree n h = omega (arith, some_rest (from_node tree n) h, left_from tree n)

some_kind : (nodes : Nodes) → IsSome (kind_of nodes) → 0 < size nodes
some_kind NoNodes h = absurd (let clash : false ≡ true = h in cc)
some_kind (Element name attributes kids rest) h = omega arith
some_kind (Text text rest) h = omega arith
some_kind (Comment text rest) h = omega arith
some_kind (Instruction target value rest) h = omega arith

-- what has a kind is there
pub node_there : (tree : Nodes) (n : ℕ) → IsSome (kind_of (from_node tree n)) → n < size tree
node_there tree n h = omega (arith, some_kind (from_node tree n) h, left_from tree n)

-- a node that is there is the first of some
pub some_from : (nodes : Nodes) (k : ℕ) → k < size nodes → 0 < size (from_node nodes k)
some_from NoNodes k h = absurd (omega arith)
some_from (Element name attributes kids rest) zero h = omega arith
some_from (Element name attributes kids rest) (suc k) h = elim (cases_lt k (size kids)) [
  | inl less ↦ omega (arith, some_from kids k less, ap size (in_kids name attributes kids rest k less))
  | inr past ↦ omega (arith, some_from rest (k - size kids) (omega arith), ap size (in_rest name attributes kids rest k past))
]
some_from (Text text rest) zero h = omega arith
some_from (Text text rest) (suc k) h = some_from rest k (omega arith)
some_from (Comment text rest) zero h = omega arith
some_from (Comment text rest) (suc k) h = some_from rest k (omega arith)
some_from (Instruction target value rest) zero h = omega arith
some_from (Instruction target value rest) (suc k) h = some_from rest k (omega arith)

-- what is below a node, by its number among the kids
pub kid_from : (tree : Nodes) (n j : ℕ) → j < size (kids_of (from_node tree n)) →
    from_node tree (suc (n + j)) ≡ from_node (kids_of (from_node tree n)) j
kid_from tree n j h =
    let here = kids_from tree n (omega arith) in
    let place : suc (n + j) ≡ suc n + j = omega arith in
    ap (from_node tree) place ∙ from_on tree (suc n) j (omega (arith, ap size here)) ∙ ap (λ nodes. from_node nodes j) here

pub kid_there : (tree : Nodes) (n j : ℕ) → j < size (kids_of (from_node tree n)) → suc (n + j) < size tree
kid_there tree n j h = omega (arith, left_from tree (suc n), ap size (kids_from tree n (omega arith)))

-- a number that is there is that of the first node, and there are some
pub number_is : (nodes : Nodes) (k m : ℕ) → number_if_any nodes k ≡ Some m → (m ≡ k) × (0 < size nodes)
number_is NoNodes k m e = absurd (let clash : None ≡ Some m = e in cc)
number_is (Element name attributes kids rest) k m e = (let same : Some k ≡ Some m = e in cc, omega arith)
number_is (Text text rest) k m e = (let same : Some k ≡ Some m = e in cc, omega arith)
number_is (Comment text rest) k m e = (let same : Some k ≡ Some m = e in cc, omega arith)
number_is (Instruction target value rest) k m e = (let same : Some k ≡ Some m = e in cc, omega arith)

pub number_none : (nodes : Nodes) (k : ℕ) → number_if_any nodes k ≡ None → size nodes ≡ 0
number_none NoNodes k e = refl
number_none (Element name attributes kids rest) k e = absurd (let clash : Some k ≡ None = e in cc)
number_none (Text text rest) k e = absurd (let clash : Some k ≡ None = e in cc)
number_none (Comment text rest) k e = absurd (let clash : Some k ≡ None = e in cc)
number_none (Instruction target value rest) k e = absurd (let clash : Some k ≡ None = e in cc)

pub kid_number_there : (tree : Nodes) (n k : ℕ) → n ≤ k → k < n + size (kids_of (from_node tree n)) → k + 1 < size tree
kid_number_there tree n k low high = omega (arith, kid_there tree n (k - n) (omega arith))
