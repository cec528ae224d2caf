-- The namespaces that are kept of the names of a document.
use Rattle.std.specs.Prelude.{◌≡◌, ℕ, ◌+◌, ◌<◌, false, List, length, Option, Some, if◌then◌else◌, slice_get, slice_index_or, ⊤}
use Rattle.std.specs.Option.{option_and_then, option_map_or}
use Rattle.xml_spec.specs.Tree.{Nodes}
use Rattle.xml_spec.specs.Names.{Scope, IsNamed, declarations, is_declaration, inner_scope, outermost, xmlns_namespace}
use Rattle.xml_spec.specs.Canonical.{scope_at}
use Rattle.tree_rows.specs.Rows.{Shape, ElementShape, TextShape, CommentShape, InstructionShape, Row, nodes_at, no_row}
use Rattle.element_names.specs.Named.{IsResolvedElement}
use Rattle.element_names.specs.Spaces.{Enters}
use Rattle.element_names.specs.declared.spaces.Spaces.{Spaces}
use Rattle.element_names.specs.declared.names.RowNames.{RowNames}
use Rattle.saml_tree.specs.NodeNames.{attribute_at}
use Rattle.saml_tree.specs.declared.names.Names.{Names}
use Rattle.saml_tree.specs.declared.names.Kept.{Kept}
use Rattle.saml_tree.specs.declared.names.Kept.TheVariants as kept
use Rattle.saml_tree.specs.declared.node.NameAt.{NameAt}
use Rattle.saml_tree.specs.declared.node.NameAt.TheVariants as places

abbrev pub IsResolvedShape : List (List ℕ) → List ℕ → Scope → Shape → RowNames → Type 0
IsResolvedShape table numbers scope (ElementShape name attributes) names =
    IsResolvedElement table numbers (inner_scope attributes scope) name attributes names
IsResolvedShape table numbers scope (TextShape text) names = ⊤
IsResolvedShape table numbers scope (CommentShape text) names = ⊤
IsResolvedShape table numbers scope (InstructionShape target value) names = ⊤

-- an element's names keep the rules, in the scope that it stands in
abbrev pub IsNamedShape : Scope → Shape → Type 0
IsNamedShape scope (ElementShape name attributes) = IsNamed (inner_scope attributes scope) name attributes
IsNamedShape scope (TextShape text) = ⊤
IsNamedShape scope (CommentShape text) = ⊤
IsNamedShape scope (InstructionShape target value) = ⊤

-- what a row does to the namespaces in force: an element begins a level
abbrev pub Moves : Spaces → Spaces → Shape → Type 0
Moves before after (ElementShape name attributes) = Enters before after (declarations attributes)
Moves before after (TextShape text) = after ≡ before
Moves before after (CommentShape text) = after ≡ before
Moves before after (InstructionShape target value) = after ≡ before

-- a row's numbers lead to the namespaces of its names
pub record IsResolvedRow (table : List (List ℕ)) (numbers : List ℕ) (scope : Scope) (shape : Shape) (names : RowNames) : Type 0 where
  pub leads : IsResolvedShape table numbers scope shape names

-- the numbers of each row do, and number 2 is that of xmlns
pub record AreResolved (rows : List Row) (names : Names) : Type 0 where
  pub count : length names.rows.items ≡ length rows
  pub xmlns : slice_get names.table 2 ≡ Some xmlns_namespace
  pub each : (k : ℕ) (d : RowNames) → k < length rows →
      IsResolvedRow names.table names.attributes.items (scope_at outermost (nodes_at 0 rows) k) (slice_index_or rows k no_row).shape
      (slice_index_or names.rows.items k d)

-- the namespace that is kept of an element's name, and that of its attribute i
abbrev pub kept_of_element : Names → ℕ → Option (List ℕ)
kept_of_element names k =
    option_and_then (λ (row : RowNames). slice_get names.table row.element) (slice_get names.rows.items k)

abbrev pub kept_of_attribute : Names → ℕ → ℕ → Option (List ℕ)
kept_of_attribute names k i =
    option_and_then (λ (row : RowNames). option_and_then (slice_get names.table) (slice_get names.attributes.items (row.from + i)))
    (slice_get names.rows.items k)

-- the namespace that is kept
abbrev pub kept_at : Names → Kept → Option (List ℕ)
kept_at names kept.Xmlns = slice_get names.table 2
kept_at names (kept.Element n) = kept_of_element names n.0
kept_at names (kept.Attribute n i) = kept_of_attribute names n.0 i

-- which is kept for a place
abbrev pub kept_for : Nodes → NameAt → Kept
kept_for tree (places.Element n) = kept.Element n
kept_for tree (places.Attribute n i) =
    if option_map_or is_declaration (attribute_at tree n.0 i) false then kept.Xmlns else kept.Attribute n i
kept_for tree (places.Declaration n i) = kept.Attribute n i
