-- The last node of those below a node is found by going from each node to its last kid.
use Rattle.std.proofs.Common.{◌≡◌, ℕ, suc, ◌+◌, ◌<◌, Some, None, sym, ap, ◌∙◌, arith}
use Rattle.xml_spec.specs.Tree.{Nodes}
use Rattle.xml_spec.specs.Numbering.{size, from_node, kids_of, rest_of, first_kid_of, next_of}
use Rattle.saml_tree.proofs.Numbers.{size_parts, some_from, kids_from, rest_from, number_is, number_none}

-- the first kid, and what follows it in its list, end where what is below the node ends
pub record IsAmongKids (tree : Nodes) (node kid : ℕ) : Type 0 where
  pub behind : node < kid
  pub last : kid + size (from_node tree kid) ≡ suc (node + size (kids_of (from_node tree node)))

pub first_is : (tree : Nodes) (node kid : ℕ) → Some kid ≡ first_kid_of tree node → IsAmongKids tree node kid
first_is tree node kid e =
    let found = number_is (kids_of (from_node tree node)) (suc node) kid (sym e) in
    let here = ap (λ k. size (from_node tree k)) found.0 ∙ ap size (kids_from tree node found.1) in
    record { behind = omega (arith, found.0); last = omega (arith, found.0, here) }

pub next_is : (tree : Nodes) (node kid next : ℕ) → kid < size tree → Some next ≡ next_of tree kid → IsAmongKids tree node kid →
    IsAmongKids tree node next
next_is tree node kid next there e among =
    let found = number_is (rest_of (from_node tree kid)) (suc (kid + size (kids_of (from_node tree kid)))) next (sym e) in
    let here = ap (λ k. size (from_node tree k)) found.0 ∙ ap size (rest_from tree kid found.1) in
    let parts = size_parts (from_node tree kid) (some_from tree kid there) in
    record { behind = omega (arith, found.0, among.behind); last = omega (arith, found.0, here, parts, among.last) }

pub next_is_behind : (tree : Nodes) (kid next : ℕ) → Some next ≡ next_of tree kid → kid < next
next_is_behind tree kid next e =
    let found = number_is (rest_of (from_node tree kid)) (suc (kid + size (kids_of (from_node tree kid)))) next (sym e) in
    omega (arith, found.0)

pub last_is : (tree : Nodes) (node kid : ℕ) → kid < size tree → None ≡ next_of tree kid → IsAmongKids tree node kid →
    kid + size (kids_of (from_node tree kid)) ≡ node + size (kids_of (from_node tree node))
last_is tree node kid there e among =
    let none = number_none (rest_of (from_node tree kid)) (suc (kid + size (kids_of (from_node tree kid)))) (sym e) in
    let parts = size_parts (from_node tree kid) (some_from tree kid there) in
    omega (arith, none, parts, among.last)
