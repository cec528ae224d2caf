-- What one found child says of those behind it.
use Rattle.std.proofs.Common.{◌≡◌, ℕ, ◌+◌, ◌<◌, ◌≤◌, false, Option, Some, None, IfSome, is_some, ap, arith}
use Rattle.std.proofs.lemmas.Bool.{cond-false}
use Rattle.xml_spec.specs.Tree.{Nodes}
use Rattle.xml_spec.specs.Numbering.{size, next_of}
use Rattle.xml_spec.specs.Names.{ExpandedName}
use Rattle.saml_tree.specs.declared.node.NodeNo.{NodeNo}
use Rattle.saml_tree.specs.Elements.{IsElement}
use Rattle.tree_read.specs.Children.{is_name, named}
use Rattle.tree_read.specs.Walk.{name_of_node, children_from, children_first, IsFrom, IsPlace}
use Rattle.saml_tree.proofs.Numbers.{node_there}
use Rattle.tree_read.proofs.Walking.{number_of, IsBehind, left_at, from_behind}

pub element_there : (tree : Nodes) (n : ℕ) → IsElement tree n → n < size tree
element_there tree n h = node_there tree n (ap is_some h)

-- what is behind a node is a place
pub place_behind : (tree : Nodes) (n : ℕ) (o : Option ℕ) → IsBehind tree n o → IsPlace tree o
place_behind tree n None h = tt
place_behind tree n (Some k) h = (omega (arith, h.0), h.1)

pub place_there : (tree : Nodes) (o : Option NodeNo) → IsPlace tree (number_of o) → IfSome o (λ k. k.0 < size tree)
place_there tree None h = tt
place_there tree (Some k) h = h.1

-- what is found behind an element leaves fewer numbers than the element did
pub less_left : (tree : Nodes) (o next : Option ℕ) (found : Option NodeNo) (k : ℕ) → o ≡ Some k →
    IfSome o (λ n. IsElement tree n) → IsBehind tree k next → IfSome found (λ n. IsFrom next n.0) →
    left_at tree (number_of found) < left_at tree o
less_left tree None next found k e element behind from = absurd (let clash : None ≡ Some k = e in cc)
less_left tree (Some m) next None k e element behind from = omega (arith, element_there tree m element)
less_left tree (Some m) next (Some n) k e element behind from =
    let same : m ≡ k = cc in omega (arith, from_behind tree k next n.0 behind from, element_there tree m element)

-- one more was counted, or not, and what is found behind has a greater number
pub still_below : (tree : Nodes) (count more k : ℕ) (next : Option ℕ) (found : Option NodeNo) → count < k → more ≤ count + 1 → IsBehind tree k next →
    IfSome found (λ n. IsFrom next n.0) → IfSome (number_of found) (λ n. more < n)
still_below tree count more k next None less few behind from = tt
still_below tree count more k next (Some n) less few behind from = omega (arith, from_behind tree k next n.0 behind from)

module _ (wanted : ExpandedName) (tree : Nodes) where
  -- another element
  pub named_behind : (k : ℕ) → is_name wanted (name_of_node tree k) ≡ false →
      named wanted (children_first tree (Some k)) ≡ named wanted (children_from tree (next_of tree k))
  named_behind k e = cond-false (is_name wanted (name_of_node tree k)) _ _ e
