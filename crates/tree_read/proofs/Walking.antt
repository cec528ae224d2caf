-- The walk along the kids of an element finds its element children.
use Rattle.std.proofs.Common.{◌≡◌, ◌≢◌, ℕ, suc, ◌+◌, ◌-◌, ◌<◌, ◌∷◌, Option, Some, None, IfSome, refl, sym, ap, ◌∙◌, arith}
use Rattle.std.specs.Option.{option_map, option_map_or}
use Rattle.xml_spec.specs.Tree.{Nodes, NoNodes, Element, Text, Comment, Instruction}
use Rattle.xml_spec.specs.Numbering.{size, from_node, kids_of, rest_of, number_if_any, first_kid_of, next_of}
use Rattle.xml_spec.specs.Names.{Scope, outermost}
use Rattle.xml_spec.specs.Canonical.{scope_at}
use Rattle.saml_tree.specs.Elements.{IsElement}
use Rattle.saml_tree.specs.Documents.{kind_of}
use Rattle.saml_tree.specs.declared.node.NodeNo.{NodeNo}
use Rattle.saml_tree.specs.declared.node.NodeKind.TheVariants as kinds
use Rattle.tree_read.specs.Children.{child, elements_of, scope_of_kids, element_children}
use Rattle.tree_read.specs.Walk.{first_name, name_of_node, children_from, children_first, IsFrom}
use Rattle.saml_tree.proofs.Numbers.{kids_from, kids_there, rest_from, rest_there}
use Rattle.tree_read.proofs.Placed.{kids_scope, rest_scope}

-- the number of a node, if there is one
abbrev pub number_of : Option NodeNo → Option ℕ
number_of o = option_map (λ (k : NodeNo). k.0) o

-- it stands behind node n
abbrev pub IsBehind : Nodes → ℕ → Option ℕ → Type 0
IsBehind tree n o = IfSome o (λ k. (n < k) × (k < size tree))

-- how many numbers are left from there
abbrev pub left_at : Nodes → Option ℕ → ℕ
left_at tree o = option_map_or (λ k. size tree - k) o 0

list_behind : (tree nodes : Nodes) (n k : ℕ) → n < k → (0 < size nodes → k < size tree) → IsBehind tree n (number_if_any nodes k)
list_behind tree NoNodes n k behind there = tt
list_behind tree (Element name attributes kids rest) n k behind there = (behind, there (omega arith))
list_behind tree (Text text rest) n k behind there = (behind, there (omega arith))
list_behind tree (Comment text rest) n k behind there = (behind, there (omega arith))
list_behind tree (Instruction target value rest) n k behind there = (behind, there (omega arith))

pub kids_behind : (tree : Nodes) (n : ℕ) → IsBehind tree n (first_kid_of tree n)
kids_behind tree n = list_behind tree (kids_of (from_node tree n)) n (suc n) (omega arith) (kids_there tree n)

pub next_behind : (tree : Nodes) (n : ℕ) → IsBehind tree n (next_of tree n)
next_behind tree n =
    list_behind tree (rest_of (from_node tree n)) n (suc (n + size (kids_of (from_node tree n)))) (omega arith) (rest_there tree n)

pub behind_there : (tree : Nodes) (n : ℕ) (o : Option ℕ) → IsBehind tree n o → IfSome o (λ k. k < size tree)
behind_there tree n None h = tt
behind_there tree n (Some k) h = h.1

-- what is from there on is behind what that is behind
pub from_behind : (tree : Nodes) (n : ℕ) (o : Option ℕ) (k : ℕ) → IsBehind tree n o → IsFrom o k → n < k
from_behind tree n None k behind from = absurd from
from_behind tree n (Some m) k behind from = omega (arith, behind.0)

pub from_on : (tree : Nodes) (o next : Option ℕ) (k : ℕ) → IsFrom o k → IsBehind tree k next → IfSome next (λ n. IsFrom o n)
from_on tree o None k from behind = tt
from_on tree None (Some n) k from behind = from
from_on tree (Some m) (Some n) k from behind = omega (arith, behind.0)

list_children : (tree nodes : Nodes) (scope : Scope) (k : ℕ) → (0 < size nodes → from_node tree k ≡ nodes) →
    (0 < size nodes → scope_at outermost tree k ≡ scope) →
    elements_of scope k nodes ≡ children_from tree (number_if_any nodes k)
list_children tree NoNodes scope k there inside = refl
list_children tree (Element name attributes kids rest) scope k there inside =
    λ i. elements_of (sym (inside (omega arith)) i) k (sym (there (omega arith)) i)
list_children tree (Text text rest) scope k there inside =
    λ i. elements_of (sym (inside (omega arith)) i) k (sym (there (omega arith)) i)
list_children tree (Comment text rest) scope k there inside =
    λ i. elements_of (sym (inside (omega arith)) i) k (sym (there (omega arith)) i)
list_children tree (Instruction target value rest) scope k there inside =
    λ i. elements_of (sym (inside (omega arith)) i) k (sym (there (omega arith)) i)

-- the element children are found from the first kid on
pub all_children : (tree : Nodes) (n : ℕ) → element_children tree n ≡ children_from tree (first_kid_of tree n)
all_children tree n =
    list_children tree (kids_of (from_node tree n)) (scope_of_kids (scope_at outermost tree n) (from_node tree n)) (suc n)
    (kids_from tree n) (kids_scope tree n)

rest_children : (tree : Nodes) (k : ℕ) →
    elements_of (scope_at outermost tree k) (suc (k + size (kids_of (from_node tree k)))) (rest_of (from_node tree k))
    ≡ children_from tree (next_of tree k)
rest_children tree k =
    list_children tree (rest_of (from_node tree k)) (scope_at outermost tree k) (suc (k + size (kids_of (from_node tree k))))
    (rest_from tree k) (rest_scope tree k)

element_parts : (scope : Scope) (k : ℕ) (nodes : Nodes) → kind_of nodes ≡ Some kinds.Element →
    elements_of scope k nodes
    ≡ child k (first_name scope nodes) ∷ elements_of scope (suc (k + size (kids_of nodes))) (rest_of nodes)
element_parts scope k NoNodes e = absurd (let clash : None ≡ Some kinds.Element = e in cc)
element_parts scope k (Element name attributes kids rest) e = refl
element_parts scope k (Text text rest) e = absurd (let clash : Some kinds.Text ≡ Some kinds.Element = e in cc)
element_parts scope k (Comment text rest) e = absurd (let clash : Some kinds.Comment ≡ Some kinds.Element = e in cc)
element_parts scope k (Instruction target value rest) e = absurd (let clash : Some kinds.Instruction ≡ Some kinds.Element = e in cc)

other_parts : (scope : Scope) (k : ℕ) (nodes : Nodes) → kind_of nodes ≢ Some kinds.Element →
    elements_of scope k nodes ≡ elements_of scope (suc (k + size (kids_of nodes))) (rest_of nodes)
other_parts scope k NoNodes h = refl
other_parts scope k (Element name attributes kids rest) h = absurd (h refl)
other_parts scope k (Text text rest) h = let same : k ≡ k + 0 = omega arith in ap (λ n. elements_of scope (suc n) rest) same
other_parts scope k (Comment text rest) h = let same : k ≡ k + 0 = omega arith in ap (λ n. elements_of scope (suc n) rest) same
other_parts scope k (Instruction target value rest) h =
    let same : k ≡ k + 0 = omega arith in ap (λ n. elements_of scope (suc n) rest) same

-- an element, and those behind it
pub element_here : (tree : Nodes) (k : ℕ) → IsElement tree k → children_from tree (Some k) ≡ children_first tree (Some k)
element_here tree k e =
    element_parts (scope_at outermost tree k) k (from_node tree k) e
    ∙ ap (λ xs. child k (name_of_node tree k) ∷ xs) (rest_children tree k)

-- another node
pub element_behind : (tree : Nodes) (k : ℕ) → kind_of (from_node tree k) ≢ Some kinds.Element →
    children_from tree (Some k) ≡ children_from tree (next_of tree k)
element_behind tree k h = other_parts (scope_at outermost tree k) k (from_node tree k) h ∙ rest_children tree k
