-- Elements that are made, and the tree that one stands for.
use Rattle.std.specs.Prelude.{◌≢◌, ℕ, List, [], ◌∷◌, ◌++◌, map, codes, Option, Some, None, if◌then◌else◌, ⊤}
use Rattle.std.specs.List.{list_any, AllByRecursion}
use Rattle.std.specs.Str.{bytes_eq}
use Rattle.xml_spec.specs.Ascii.{colon}
use Rattle.xml_spec.specs.Characters.{IsText, IsNoColonName}
use Rattle.xml_spec.specs.Tree.{Attribute, Nodes, NoNodes, Element, with_text}
use Rattle.xml_spec.specs.Names.{AreDistinct}
use Rattle.xml_spec.specs.Canonical.{byte_order, sorted, declaration_name, canonical}
use Rattle.element_make.specs.declared.names.Ns.{Ns}
use Rattle.element_make.specs.Prefixes.{prefix, namespace, same}

-- a list of made nodes: none, or a first one and the rest; an element has a local name in one of the namespaces,
-- attributes without prefixes in the order in which they were given, and its kids
pub data MadeNodes : Type 0 where
  NothingMade : MadeNodes
  MadeElement : (ns : Ns) (local : List ℕ) (attributes : List Attribute) (kids rest : MadeNodes) → MadeNodes
  MadeText : (text : List ℕ) (rest : MadeNodes) → MadeNodes

-- one made element
pub record Made : Type 0 where
  pub ns : Ns
  pub local : List ℕ
  pub attributes : List Attribute
  pub kids : MadeNodes

-- the element alone
abbrev pub alone : Made → MadeNodes
alone made = MadeElement made.ns made.local made.attributes made.kids NothingMade

-- the nodes and then others
abbrev pub joined : MadeNodes → MadeNodes → MadeNodes
joined NothingMade others = others
joined (MadeElement ns local attributes kids rest) others = MadeElement ns local attributes kids (joined rest others)
joined (MadeText text rest) others = MadeText text (joined rest others)

-- the nodes with others behind the first one
abbrev pub with_second : MadeNodes → MadeNodes → MadeNodes
with_second NothingMade others = others
with_second (MadeElement ns local attributes kids rest) others = MadeElement ns local attributes kids (joined others rest)
with_second (MadeText text rest) others = MadeText text (joined others rest)

-- there is a node
abbrev pub IsAny : MadeNodes → Type 0
IsAny NothingMade = ⊥
IsAny (MadeElement ns local attributes kids rest) = ⊤
IsAny (MadeText text rest) = ⊤

-- the value of the first attribute of this name
abbrev pub value_of : List ℕ → List Attribute → Option (List ℕ)
value_of name [] = None
value_of name (a ∷ attributes) = if bytes_eq a.name name then Some a.value else value_of name attributes

-- the qualified name: Namespaces in XML 1.0, 4
abbrev pub qualified : Ns → List ℕ → List ℕ
qualified ns local = prefix ns ++ colon ∷ local

-- the declaration of a namespace, where no element outside declares it
abbrev pub declaration_in : List Ns → Ns → List Attribute
declaration_in declared ns =
    if list_any (same ns) declared then [] else record { name = declaration_name (prefix ns); value = namespace ns } ∷ []

-- The nodes of a document that made nodes stand for, inside elements that declare these namespaces. A namespace is
-- declared at the outermost element that uses it. Texts that meet are one.
abbrev pub nodes_of : List Ns → MadeNodes → Nodes
nodes_of declared NothingMade = NoNodes
nodes_of declared (MadeElement ns local attributes kids rest) =
    Element (qualified ns local) (declaration_in declared ns ++ sorted (λ a b. byte_order a.name b.name) attributes)
    (nodes_of (ns ∷ declared) kids) (nodes_of declared rest)
nodes_of declared (MadeText text rest) = with_text text (nodes_of declared rest)

-- the document that a made element stands for
abbrev pub tree_of : Made → Nodes
tree_of made = nodes_of [] (alone made)

-- what is written of a made element: its exclusive canonical form
abbrev pub written : Made → List ℕ
written made = canonical (tree_of made) 0 None []

-- what the calls ask of names and texts: a local name is a Name without a colon, an attribute is none that declares a
-- namespace and is given once, and texts hold characters that XML allows
pub record IsMadeAttribute (a : Attribute) : Type 0 where
  pub name : IsNoColonName a.name
  pub no_declaration : a.name ≢ codes "xmlns"
  pub value : IsText a.value

abbrev pub AreMade : MadeNodes → Type 0
AreMade NothingMade = ⊤
AreMade (MadeElement ns local attributes kids rest) =
    IsNoColonName local × AllByRecursion IsMadeAttribute attributes × AreDistinct (map (λ a. a.name) attributes)
    × AreMade kids × AreMade rest
AreMade (MadeText text rest) = IsText text × AreMade rest

abbrev pub IsMade : Made → Type 0
IsMade made = AreMade (alone made)
