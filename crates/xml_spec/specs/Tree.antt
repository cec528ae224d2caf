-- The tree of a document: XML 1.0 (fifth edition), 2 and 3. What is left of a document when the choices of
-- spelling are forgotten.
use Rattle.std.specs.Prelude.{ℕ, suc, ◌≤◌, Bool, true, false, max, List, [], ◌∷◌, ◌++◌, length, not, ◌&&◌, nat_lt, IsTrue, ⊤}
use Rattle.xml_spec.specs.declared.TheConstants.{MAX_DEPTH, MAX_ATTRIBUTES}

-- an attribute with its name as written and its normalized value; a declaration of a namespace is one too
pub record Attribute : Type 0 where
  pub name : List ℕ
  pub value : List ℕ

-- A list of nodes in the order of the document: no node, or a first one and the rest of the list. An element
-- has its name as written, its attributes in written order and the list of its kids.
pub data Nodes : Type 0 where
  NoNodes : Nodes
  Element : (name : List ℕ) (attributes : List Attribute) (kids rest : Nodes) → Nodes
  Text : (text : List ℕ) (rest : Nodes) → Nodes
  Comment : (text : List ℕ) (rest : Nodes) → Nodes
  Instruction : (target value : List ℕ) (rest : Nodes) → Nodes

-- the text and then the nodes; texts that meet are one, and an empty one is none
abbrev pub with_text : List ℕ → Nodes → Nodes
with_text [] nodes = nodes
with_text (b ∷ bytes) (Text text rest) = Text ((b ∷ bytes) ++ text) rest
with_text (b ∷ bytes) nodes = Text (b ∷ bytes) nodes

-- the list begins with a text
abbrev pub begins_with_text : Nodes → Bool
begins_with_text (Text text rest) = true
begins_with_text _ = false

-- no text is empty, and no two are neighbours
abbrev pub IsJoined : Nodes → Type 0
IsJoined NoNodes = ⊤
IsJoined (Element name attributes kids rest) = IsJoined kids × IsJoined rest
IsJoined (Text text rest) = IsTrue (nat_lt 0 (length text) && not (begins_with_text rest)) × IsJoined rest
IsJoined (Comment text rest) = IsJoined rest
IsJoined (Instruction target value rest) = IsJoined rest

-- how deep the deepest element stands; those of the list itself have depth 1
abbrev pub depth : Nodes → ℕ
depth NoNodes = 0
depth (Element name attributes kids rest) = max (suc (depth kids)) (depth rest)
depth (Text text rest) = depth rest
depth (Comment text rest) = depth rest
depth (Instruction target value rest) = depth rest

-- the greatest number of attributes of one element, declarations with them
abbrev pub most_attributes : Nodes → ℕ
most_attributes NoNodes = 0
most_attributes (Element name attributes kids rest) =
    max (length attributes) (max (most_attributes kids) (most_attributes rest))
most_attributes (Text text rest) = most_attributes rest
most_attributes (Comment text rest) = most_attributes rest
most_attributes (Instruction target value rest) = most_attributes rest

-- the limits of the profile: no element stands deeper than MAX_DEPTH or has more than MAX_ATTRIBUTES attributes
pub record IsWithinLimits (tree : Nodes) : Type 0 where
  pub depth : depth tree ≤ MAX_DEPTH
  pub attributes : most_attributes tree ≤ MAX_ATTRIBUTES
