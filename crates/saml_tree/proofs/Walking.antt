-- From a node to its first kid and to the next one: each is a node of the tree.
use Rattle.std.proofs.Common.{◌≡◌, ℕ, zero, suc, ◌+◌, ◌-◌, ◌<◌, ◌≤◌, ltb, Some, None, ap, inl, inr, arith}
use Rattle.std.proofs.lemmas.Bool.{cases_lt, cond-true, cond-false, lt-ltb, le-ltb}
use Rattle.xml_spec.specs.Tree.{Nodes, NoNodes, Element, Text, Comment, Instruction}
use Rattle.xml_spec.specs.Numbering.{size, from_node, number_if_any}

-- a node's list ends within the tree
list_fits : (tree : Nodes) (p : ℕ) → p < size tree → p + size (from_node tree p) ≤ size tree
list_fits NoNodes p h = absurd (omega arith)
list_fits (Element name attributes kids rest) zero h = omega arith
list_fits (Element name attributes kids rest) (suc p) h = elim (cases_lt p (size kids)) [
  | inl less ↦ omega (arith, list_fits kids p less, ap size (cond-true (ltb p (size kids)) (from_node kids p) (from_node rest (p - size kids)) (lt-ltb _ _ less)))
  | inr past ↦ omega (arith, list_fits rest (p - size kids) (omega arith), ap size (cond-false (ltb p (size kids)) (from_node kids p) (from_node rest (p - size kids)) (le-ltb _ _ past)))
]
list_fits (Text text rest) zero h = omega arith
list_fits (Text text rest) (suc p) h = omega (arith, list_fits rest p (omega arith))
list_fits (Comment text rest) zero h = omega arith
list_fits (Comment text rest) (suc p) h = omega (arith, list_fits rest p (omega arith))
list_fits (Instruction target value rest) zero h = omega arith
list_fits (Instruction target value rest) (suc p) h = omega (arith, list_fits rest p (omega arith))

-- a list that has a first node is not empty, and the node's number is the one given
numbered : (nodes : Nodes) (k n : ℕ) → number_if_any nodes k ≡ Some n → (n ≡ k) × (0 < size nodes)
numbered NoNodes k n h = absurd (let clash : None ≡ Some n = h in cc)
numbered (Element name attributes kids rest) k n h = (cc, omega arith)
numbered (Text text rest) k n h = (cc, omega arith)
numbered (Comment text rest) k n h = (cc, omega arith)
numbered (Instruction target value rest) k n h = (cc, omega arith)
