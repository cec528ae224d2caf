-- Nodes by number and by path. Node number k of a list is the k-th in document order, counted from 0: a node
-- comes before its kids, and they come before what follows it. A path says at each level which node of the list
-- to take, counted from 0, and goes on in that node's kids; so the root's path is 0 alone.
use Rattle.std.specs.Prelude.{ℕ, zero, suc, ◌+◌, ◌-◌, List, [], ◌∷◌, Option, Some, None, nat_lt, if◌then◌else◌}
use Rattle.std.specs.Option.{option_map, option_map_or}
use Rattle.xml_spec.specs.Tree.{Nodes, NoNodes, Element, Text, Comment, Instruction}

-- how many nodes there are, at every depth
abbrev pub size : Nodes → ℕ
size NoNodes = 0
size (Element name attributes kids rest) = suc (size kids + size rest)
size (Text text rest) = suc (size rest)
size (Comment text rest) = suc (size rest)
size (Instruction target value rest) = suc (size rest)

-- node k and those that follow it in its list; none where there is no node k
abbrev pub from_node : Nodes → ℕ → Nodes
from_node NoNodes k = NoNodes
from_node (Element name attributes kids rest) zero = Element name attributes kids rest
from_node (Element name attributes kids rest) (suc k) =
    if nat_lt k (size kids) then from_node kids k else from_node rest (k - size kids)
from_node (Text text rest) zero = Text text rest
from_node (Text text rest) (suc k) = from_node rest k
from_node (Comment text rest) zero = Comment text rest
from_node (Comment text rest) (suc k) = from_node rest k
from_node (Instruction target value rest) zero = Instruction target value rest
from_node (Instruction target value rest) (suc k) = from_node rest k

-- the list without node k and what is below it
abbrev pub without_node : Nodes → ℕ → Nodes
without_node NoNodes k = NoNodes
without_node (Element name attributes kids rest) zero = rest
without_node (Element name attributes kids rest) (suc k) =
    if nat_lt k (size kids) then Element name attributes (without_node kids k) rest
    else Element name attributes kids (without_node rest (k - size kids))
without_node (Text text rest) zero = rest
without_node (Text text rest) (suc k) = Text text (without_node rest k)
without_node (Comment text rest) zero = rest
without_node (Comment text rest) (suc k) = Comment text (without_node rest k)
without_node (Instruction target value rest) zero = rest
without_node (Instruction target value rest) (suc k) = Instruction target value (without_node rest k)

-- the same path in a list that has one more node in front
abbrev pub one_on : List ℕ → List ℕ
one_on [] = []
one_on (place ∷ path) = suc place ∷ path

-- the path of node k
abbrev pub path_of : Nodes → ℕ → Option (List ℕ)
path_of NoNodes k = None
path_of (Element name attributes kids rest) zero = Some (0 ∷ [])
path_of (Element name attributes kids rest) (suc k) =
    if nat_lt k (size kids) then option_map (λ path. 0 ∷ path) (path_of kids k)
    else option_map one_on (path_of rest (k - size kids))
path_of (Text text rest) zero = Some (0 ∷ [])
path_of (Text text rest) (suc k) = option_map one_on (path_of rest k)
path_of (Comment text rest) zero = Some (0 ∷ [])
path_of (Comment text rest) (suc k) = option_map one_on (path_of rest k)
path_of (Instruction target value rest) zero = Some (0 ∷ [])
path_of (Instruction target value rest) (suc k) = option_map one_on (path_of rest k)

-- of a node that has no kids: its number in front of the rest
abbrev pub number_in : List ℕ → (List ℕ → Option ℕ) → Option ℕ
number_in [] rest = None
number_in (zero ∷ []) rest = Some 0
number_in (zero ∷ place ∷ path) rest = None
number_in (suc place ∷ path) rest = option_map (λ k. suc k) (rest (place ∷ path))

-- the number of the node at a path
abbrev pub number_of : Nodes → List ℕ → Option ℕ
number_of NoNodes path = None
number_of (Element name attributes kids rest) [] = None
number_of (Element name attributes kids rest) (zero ∷ []) = Some 0
number_of (Element name attributes kids rest) (zero ∷ place ∷ path) =
    option_map (λ k. suc k) (number_of kids (place ∷ path))
number_of (Element name attributes kids rest) (suc place ∷ path) =
    option_map (λ k. suc (size kids + k)) (number_of rest (place ∷ path))
number_of (Text text rest) path = number_in path (number_of rest)
number_of (Comment text rest) path = number_in path (number_of rest)
number_of (Instruction target value rest) path = number_in path (number_of rest)

-- how many elements there are, at every depth
abbrev pub elements : Nodes → ℕ
elements NoNodes = 0
elements (Element name attributes kids rest) = suc (elements kids + elements rest)
elements (Text text rest) = elements rest
elements (Comment text rest) = elements rest
elements (Instruction target value rest) = elements rest

-- how many elements come before node k in document order
abbrev pub elements_before : Nodes → ℕ → ℕ
elements_before NoNodes k = 0
elements_before (Element name attributes kids rest) zero = 0
elements_before (Element name attributes kids rest) (suc k) =
    if nat_lt k (size kids) then suc (elements_before kids k)
    else suc (elements kids + elements_before rest (k - size kids))
elements_before (Text text rest) zero = 0
elements_before (Text text rest) (suc k) = elements_before rest k
elements_before (Comment text rest) zero = 0
elements_before (Comment text rest) (suc k) = elements_before rest k
elements_before (Instruction target value rest) zero = 0
elements_before (Instruction target value rest) (suc k) = elements_before rest k

-- the kids of the first node, and the nodes behind it
abbrev pub kids_of : Nodes → Nodes
kids_of (Element name attributes kids rest) = kids
kids_of _ = NoNodes

abbrev pub rest_of : Nodes → Nodes
rest_of NoNodes = NoNodes
rest_of (Element name attributes kids rest) = rest
rest_of (Text text rest) = rest
rest_of (Comment text rest) = rest
rest_of (Instruction target value rest) = rest

-- the number of the first node of a list that begins with node k
abbrev pub number_if_any : Nodes → ℕ → Option ℕ
number_if_any NoNodes k = None
number_if_any _ k = Some k

-- the first kid of node k, and the node behind it in its list
abbrev pub first_kid_of : Nodes → ℕ → Option ℕ
first_kid_of tree k = number_if_any (kids_of (from_node tree k)) (suc k)

abbrev pub next_of : Nodes → ℕ → Option ℕ
next_of tree k = number_if_any (rest_of (from_node tree k)) (suc (k + size (kids_of (from_node tree k))))

-- the element that node k is a kid of, none where it stands in the list itself
abbrev pub parent_of : Nodes → ℕ → Option ℕ
parent_of NoNodes k = None
parent_of (Element name attributes kids rest) zero = None
parent_of (Element name attributes kids rest) (suc k) =
    if nat_lt k (size kids) then Some (option_map_or (λ p. suc p) (parent_of kids k) 0)
    else option_map (λ p. suc (size kids + p)) (parent_of rest (k - size kids))
parent_of (Text text rest) zero = None
parent_of (Text text rest) (suc k) = option_map (λ p. suc p) (parent_of rest k)
parent_of (Comment text rest) zero = None
parent_of (Comment text rest) (suc k) = option_map (λ p. suc p) (parent_of rest k)
parent_of (Instruction target value rest) zero = None
parent_of (Instruction target value rest) (suc k) = option_map (λ p. suc p) (parent_of rest k)
