-- Which namespace each prefix is bound to at a place of a document, as the program keeps it: a table of namespaces,
-- and levels of prefixes with numbers into the table.
use Rattle.std.specs.Prelude.{◌≡◌, ℕ, ◌<◌, List, [], ◌∷◌, ◌++◌, length, drop, map, Some, slice_get, slice_index_or, ⊤}
use Rattle.std.specs.List.{AllByRecursion}
use Rattle.namespace_scope.specs.Levels.{Pair, Level}
use Rattle.xml_spec.specs.Names.{Binding, Scope, xmlns_namespace}
use Rattle.element_names.specs.declared.spaces.Spaces.{Spaces}

-- the binding that a prefix with a number stands for
abbrev pub binding_at : List (List ℕ) → Pair → Binding
binding_at table pair = record { prefix = pair.0; namespace = slice_index_or table pair.1 [] }

-- the bindings in force, the latest first
abbrev pub bindings_of : List (List ℕ) → List Level → Scope
bindings_of table [] = []
bindings_of table (level ∷ outer) = map (binding_at table) level ++ bindings_of table outer

abbrev pub scope_of : Spaces → Scope
scope_of s = bindings_of s.table s.scope

-- each number of the levels is below this one
abbrev pub AreNumbered : ℕ → List Level → Type 0
AreNumbered count [] = ⊤
AreNumbered count (level ∷ outer) = AllByRecursion (λ (pair : Pair). pair.1 < count) level × AreNumbered count outer

-- each number has its namespace, the levels are counted, number 0 is no namespace and number 2 that of xmlns
pub record IsReady (s : Spaces) : Type 0 where
  pub numbered : AreNumbered (length s.table) s.scope
  pub count : s.levels ≡ length s.scope
  pub some : 0 < length s.scope
  pub none : slice_get s.table 0 ≡ Some []
  pub xmlns : slice_get s.table 2 ≡ Some xmlns_namespace

-- a list has more behind what it had
abbrev pub Grows : {X : Type 0} → List X → List X → Type 0
Grows {X} before after = (more : List X) × (after ≡ before ++ more)

-- these bindings are added in the innermost level
pub record Binds (before after : Spaces) (bindings : List Binding) : Type 0 where
  pub ready : IsReady after
  pub bound : scope_of after ≡ bindings ++ scope_of before
  pub outer : drop 1 after.scope ≡ drop 1 before.scope
  pub grows : Grows before.table after.table

-- an element begins: these bindings are added in a new level
pub record Enters (before after : Spaces) (bindings : List Binding) : Type 0 where
  pub ready : IsReady after
  pub bound : scope_of after ≡ bindings ++ scope_of before
  pub outer : drop 1 after.scope ≡ before.scope
  pub grows : Grows before.table after.table
