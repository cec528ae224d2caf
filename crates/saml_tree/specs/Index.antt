-- How a document finds its elements by their IDs.
use Rattle.std.specs.Prelude.{◌≡◌, ℕ, suc, List, [], ◌∷◌, ◌++◌, map}
use Rattle.std.specs.List.{filter_map}
use Rattle.std.specs.BTreeMap.{get_by_text}
use Rattle.xml_spec.specs.Names.{AreDistinct}
use Rattle.xml_spec.specs.Identifiers.{Identifier, identifier_at, node_with}
use Rattle.tree_rows.specs.Rows.{Shape, ElementShape, TextShape, CommentShape, InstructionShape, Row}
use Rattle.saml_tree.specs.declared.ids.Ids.{Ids}

-- for every value, the index finds the element that has it as an ID
pub record IsIndex (identifiers : List Identifier) (ids : Ids) : Type 0 where
  pub finds : (value : List ℕ) → get_by_text ids.index value ≡ node_with identifiers value

-- no value stands twice
abbrev pub AreOnce : List Identifier → Type 0
AreOnce identifiers = AreDistinct (map (λ identifier. identifier.value) identifiers)

-- the IDs so far: no value stands twice, and the index finds each
pub record AreIndexed (identifiers : List Identifier) (ids : Ids) : Type 0 where
  pub once : AreOnce identifiers
  pub index : IsIndex identifiers ids

-- the IDs of node k
abbrev pub own_identifiers : ℕ → Shape → List Identifier
own_identifiers k (ElementShape name attributes) = filter_map (identifier_at k) attributes
own_identifiers k (TextShape text) = []
own_identifiers k (CommentShape text) = []
own_identifiers k (InstructionShape target value) = []

-- the IDs of rows in order, the first of which is node k
abbrev pub row_identifiers : ℕ → List Row → List Identifier
row_identifiers k [] = []
row_identifiers k (row ∷ rows) = own_identifiers k row.shape ++ row_identifiers (suc k) rows
