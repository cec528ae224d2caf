-- Levels in which each namespace is a number, that of a place which speaks of it.
use Rattle.std.specs.Prelude.{◌≡◌, ℕ, ◌<◌, ◌≤◌, List, [], ◌∷◌, length, map, slice_index_or, Option, None, Some, ⊤}
use Rattle.std.specs.List.{AllByRecursion}
use Rattle.std.specs.Option.{is_some}
use Rattle.namespace_scope.specs.Levels as numbered
use Rattle.xml_spec.specs.Tree.{Nodes}
use Rattle.xml_spec.specs.Names.{Binding}
use Rattle.xml_spec.specs.Canonical.{listed_prefix}
use Rattle.saml_tree.specs.NodeNames.{IsNameAt}
use Rattle.saml_tree.specs.declared.node.NameAt.{NameAt}
use Rattle.excl_c14n.specs.Levels.{Levels, RenderedView, is_among}
use Rattle.excl_c14n.specs.Pairs.{space_at}

-- the namespaces of the places, by number
abbrev pub Table : Type 0
Table = List (List ℕ)

abbrev pub spaces_of : Nodes → List NameAt → Table
spaces_of tree places = map (space_at tree) places

-- the namespace of a number, empty where there is none
abbrev pub name_of_number : Table → Option ℕ → List ℕ
name_of_number table None = []
name_of_number table (Some k) = slice_index_or table k []

abbrev pub binding_of_pair : Table → numbered.Pair → Binding
binding_of_pair table pair = record { prefix = pair.0; namespace = slice_index_or table pair.1 [] }

-- the levels with the namespaces in place of the numbers
abbrev pub levels_named : Table → List numbered.Level → Levels
levels_named table levels = map (map (binding_of_pair table)) levels

abbrev pub rendered_view : Nodes → List NameAt → List numbered.Level → RenderedView
rendered_view tree places levels = record { tree = tree; levels = levels_named (spaces_of tree places) levels }

-- the numbers are below the count
abbrev pub AreBelow : ℕ → List numbered.Level → Type 0
AreBelow count levels = AllByRecursion (λ (level : numbered.Level). AllByRecursion (λ (pair : numbered.Pair). pair.1 < count) level) levels

-- of so many places, those of a level are behind the ones that there were where it began, of which the levels around it
-- have theirs
abbrev pub AreWithin : ℕ → List numbered.Level → List ℕ → Type 0
AreWithin count [] [] = ⊤
AreWithin count (level ∷ outer) (start ∷ starts) =
    (start ≤ count) × AllByRecursion (λ (pair : numbered.Pair). pair.1 < count) level × AreWithin start outer starts
AreWithin count levels starts = ⊥

-- all numbers have places, which are some of the document
pub record IsKept (tree : Nodes) (places : List NameAt) (levels : List numbered.Level) (starts : List ℕ) : Type 0 where
  pub within : AreWithin (length places) levels starts
  pub there : AllByRecursion (IsNameAt tree) places

-- a prefix is found just where a token of the list stands for it
pub record HasPrefixes (tokens : List (List ℕ)) (levels : List numbered.Level) : Type 0 where
  pub found : (q : List ℕ) → is_some (numbered.lookup_of q levels) ≡ is_among q (map listed_prefix tokens)
