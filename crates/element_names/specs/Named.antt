-- The names of an element: what is asked of them, and what is kept of them.
use Rattle.std.specs.Prelude.{◌≡◌, ◌≢◌, ℕ, ◌<◌, Bool, true, ◌&&◌, not, List, [], ◌∷◌, codes, length, map, Some, MatchOption, take, drop, if◌then◌else◌, slice_get, slice_index_or}
use Rattle.std.specs.List.{list_any, AllByRecursion}
use Rattle.std.specs.Option.{option_map_or}
use Rattle.std.specs.Str.{bytes_eq}
use Rattle.xml_spec.specs.Characters.{IsQualifiedName, prefix_of, local_of}
use Rattle.xml_spec.specs.Tree.{Attribute}
use Rattle.xml_spec.specs.Names.{Scope, ExpandedName, IsInScope, IsBinding, is_declaration, declared_prefix, binding_of, namespace_of, attribute_name, element_name}
use Rattle.xml_tokens.specs.declared.token.Attribute as token
use Rattle.element_names.specs.Keys.{Key, KeyView}
use Rattle.element_names.specs.declared.names.RowNames.{RowNames}
use Rattle.element_names.specs.declared.names.Expanded.{Expanded}

-- what is asked of an element's name alone: it is a qualified name, its prefix is in scope and is not xmlns
pub record IsWellElement (scope : Scope) (name : List ℕ) : Type 0 where
  pub qualified : IsQualifiedName name
  pub in_scope : IsInScope scope name
  pub not_xmlns : prefix_of name ≢ codes "xmlns"

-- what is asked of an attribute alone: its name is a qualified name; a declaration binds what it may, and another's
-- prefix is in scope
pub record IsWellAttribute (scope : Scope) (a : Attribute) : Type 0 where
  pub qualified : IsQualifiedName a.name
  pub bound : MatchOption (binding_of a) (IsInScope scope a.name) IsBinding

-- the namespace that is kept of an attribute: that of its name; of a declaration, that of the prefix which it declares
abbrev pub kept_namespace : Scope → Attribute → List ℕ
kept_namespace scope a = option_map_or (namespace_of scope) (declared_prefix a.name) (attribute_name scope a.name).namespace

-- what is kept of an attribute's name, and whether it declares nothing
abbrev pub Listed : Type 0
Listed = Bool × ExpandedName

abbrev pub listed : Scope → Attribute → Listed
listed scope a = (not (is_declaration a), record { namespace = kept_namespace scope a; local = local_of a.name })

-- what is kept of an attribute's name, by a table of namespaces
abbrev pub expanded_view : List (List ℕ) → Expanded → Listed
expanded_view table e = (e.is_proper, record { namespace = slice_index_or table e.namespace []; local = e.local.now })

-- what is kept stands for this name
pub record IsExpanded (table : List (List ℕ)) (name : Listed) (e : Expanded) : Type 0 where
  pub in_table : e.namespace < length table
  pub is : expanded_view table e ≡ name

-- the numbers are those of the table
abbrev pub AreInTable : List (List ℕ) → List Expanded → Type 0
AreInTable table list = AllByRecursion (λ (e : Expanded). e.namespace < length table) list

-- what is kept stands for these names, in order
pub record AreExpanded (table : List (List ℕ)) (names : List Listed) (list : List Expanded) : Type 0 where
  pub in_table : AreInTable table list
  pub are : map (expanded_view table) list ≡ names

-- it declares nothing, and is the same as this name
abbrev pub is_proper_same : ExpandedName → Listed → Bool
is_proper_same name other = other.0 && (bytes_eq name.local other.1.local && bytes_eq name.namespace other.1.namespace)

-- no two that declare nothing have one expanded name
abbrev pub are_apart_expanded : List Listed → Bool
are_apart_expanded [] = true
are_apart_expanded (x ∷ xs) = not (x.0 && list_any (is_proper_same x.1) xs) && are_apart_expanded xs

-- what is compared of an attribute's name as it is written, and of the expanded names of those that declare nothing
abbrev pub name_key : token.Attribute → KeyView
name_key a = (0, a.name)

abbrev pub proper_keys : List Expanded → List Key
proper_keys [] = []
proper_keys (e ∷ es) = if e.is_proper then (e.namespace, e.local) ∷ proper_keys es else proper_keys es

-- so many numbers of a list, from this place on
abbrev pub numbers_from : List ℕ → ℕ → ℕ → List ℕ
numbers_from numbers from count = take count (drop from numbers)

-- an element's numbers lead to the namespaces of its names, and of what its declarations bind
pub record IsResolvedElement (table : List (List ℕ)) (numbers : List ℕ) (scope : Scope) (name : List ℕ) (attributes : List Attribute) (names : RowNames) : Type 0 where
  pub element : slice_get table names.element ≡ Some (element_name scope name).namespace
  pub each_attribute : map (slice_get table) (numbers_from numbers names.from (length attributes))
      ≡ map (λ a. Some (kept_namespace scope a)) attributes
