-- The walk from a node to its kids, and from one to the next, passes over all that is written.
use Rattle.std.proofs.Common.{◌≡◌, ℕ, suc, ◌+◌, ◌-◌, ◌<◌, ◌≤◌, List, [], ◌++◌, Option, Some, None, IfSome, refl, sym, ap, ◌∙◌, arith}
use Rattle.std.specs.Option.{option_map, option_map_or}
use Rattle.xml_spec.specs.Tree.{Nodes, NoNodes, Element, Text, Comment, Instruction}
use Rattle.xml_spec.specs.Numbering.{size, from_node, kids_of, rest_of, number_if_any, first_kid_of, next_of}
use Rattle.xml_spec.specs.Names.{Scope}
use Rattle.saml_tree.specs.declared.node.NodeNo.{NodeNo}
use Rattle.excl_c14n.specs.NodeByNode.{nodes_form, node_form}
use Rattle.saml_tree.proofs.Numbers.{kids_from, kids_there, rest_from, rest_there}

-- the number of a node, if there is one
abbrev pub number_of : Option NodeNo → Option ℕ
number_of o = option_map (λ (k : NodeNo). k.0) o

-- a node, if there is one, and those that follow it
abbrev pub form_from : List (List ℕ) → Option ℕ → Scope → Scope → Nodes → Option ℕ → List ℕ
form_from listed skip scope rendered tree o = option_map_or (λ k. nodes_form listed skip k scope rendered (from_node tree k)) o []

-- it stands behind node n
abbrev pub IsBehind : Nodes → ℕ → Option ℕ → Type 0
IsBehind tree n o = IfSome o (λ k. (n < k) × (k < size tree))

-- how many numbers are left from there
abbrev pub left_at : Nodes → Option ℕ → ℕ
left_at tree o = option_map_or (λ k. size tree - k) o 0

module _ (listed : List (List ℕ)) (skip : Option ℕ) (scope rendered : Scope) where
  list_form : (tree nodes : Nodes) (k : ℕ) → (0 < size nodes → from_node tree k ≡ nodes) →
      nodes_form listed skip k scope rendered nodes ≡ form_from listed skip scope rendered tree (number_if_any nodes k)
  unfolding nodes_form
  list_form tree NoNodes k there = refl
  list_form tree (Element name attributes kids rest) k there = ap (nodes_form listed skip k scope rendered) (sym (there (omega arith)))
  list_form tree (Text text rest) k there = ap (nodes_form listed skip k scope rendered) (sym (there (omega arith)))
  list_form tree (Comment text rest) k there = ap (nodes_form listed skip k scope rendered) (sym (there (omega arith)))
  list_form tree (Instruction target value rest) k there = ap (nodes_form listed skip k scope rendered) (sym (there (omega arith)))

  -- the kids of a node
  pub kids_form : (tree : Nodes) (n : ℕ) →
      nodes_form listed skip (suc n) scope rendered (kids_of (from_node tree n)) ≡ form_from listed skip scope rendered tree (first_kid_of tree n)
  kids_form tree n = list_form tree (kids_of (from_node tree n)) (suc n) (kids_from tree n)

  parts_form : (n : ℕ) (nodes : Nodes) →
      nodes_form listed skip n scope rendered nodes
      ≡ node_form listed skip n scope rendered nodes
      ++ nodes_form listed skip (suc (n + size (kids_of nodes))) scope rendered (rest_of nodes)
  unfolding nodes_form node_form
  parts_form n NoNodes = refl
  parts_form n (Element name attributes kids rest) = refl
  parts_form n (Text text rest) = let same : n ≡ n + 0 = omega arith in rw (← same) refl
  parts_form n (Comment text rest) = let same : n ≡ n + 0 = omega arith in rw (← same) refl
  parts_form n (Instruction target value rest) = let same : n ≡ n + 0 = omega arith in rw (← same) refl

  -- a node, and what is behind it
  pub node_then : (tree : Nodes) (n : ℕ) →
      form_from listed skip scope rendered tree (Some n)
      ≡ node_form listed skip n scope rendered (from_node tree n) ++ form_from listed skip scope rendered tree (next_of tree n)
  node_then tree n =
      parts_form n (from_node tree n)
      ∙ ap (λ xs. node_form listed skip n scope rendered (from_node tree n) ++ xs)
      (list_form tree (rest_of (from_node tree n)) (suc (n + size (kids_of (from_node tree n)))) (rest_from tree n))

list_behind : (tree nodes : Nodes) (n k : ℕ) → n < k → (0 < size nodes → k < size tree) → IsBehind tree n (number_if_any nodes k)
list_behind tree NoNodes n k behind there = tt
list_behind tree (Element name attributes kids rest) n k behind there = (behind, there (omega arith))
list_behind tree (Text text rest) n k behind there = (behind, there (omega arith))
list_behind tree (Comment text rest) n k behind there = (behind, there (omega arith))
list_behind tree (Instruction target value rest) n k behind there = (behind, there (omega arith))

pub kids_behind : (tree : Nodes) (n : ℕ) → IsBehind tree n (first_kid_of tree n)
kids_behind tree n = list_behind tree (kids_of (from_node tree n)) n (suc n) (omega arith) (kids_there tree n)

pub next_behind : (tree : Nodes) (n : ℕ) → IsBehind tree n (next_of tree n)
next_behind tree n =
    list_behind tree (rest_of (from_node tree n)) n (suc (n + size (kids_of (from_node tree n)))) (omega arith) (rest_there tree n)

pub behind_both : (tree : Nodes) (n k : ℕ) (o : Option ℕ) → IsBehind tree n (Some k) → IsBehind tree k o → IsBehind tree n o
behind_both tree n k None first then = tt
behind_both tree n k (Some m) first then = (omega arith, then.1)

pub skip_behind : (n : ℕ) (skip : Option NodeNo) → IfSome skip (λ s. n < s.0) →
    IfSome (number_of skip) (λ s. n ≤ s)
skip_behind n None below = tt
skip_behind n (Some s) below = omega arith
