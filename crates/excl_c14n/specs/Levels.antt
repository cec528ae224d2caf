-- Bindings by levels: what each start tag binds, the innermost first.
use Rattle.std.specs.Prelude.{◌≡◌, ℕ, Bool, true, false, List, [], ◌∷◌, ◌++◌, map, codes}
use Rattle.std.specs.List.{list_any}
use Rattle.std.specs.Str.{bytes_eq}
use mathlib.Core.Path.{refl}
use Rattle.std.specs.Coded.{Coded, code_by, coded×, coded_list}
use Rattle.xml_spec.specs.Codes.{coded_bytes, coded_nodes}
use Rattle.xml_spec.specs.Tree.{Nodes}
use Rattle.xml_spec.specs.Names.{Binding, Scope, namespace_of}
use Rattle.xml_spec.specs.Canonical.{listed_prefix}

abbrev pub Levels : Type 0
Levels = List (List Binding)

-- the bindings in force, the latest first
abbrev pub in_force : Levels → Scope
in_force [] = []
in_force (level ∷ outer) = level ++ in_force outer

-- one more binding in the innermost level
abbrev pub with_binding : Binding → Levels → Levels
with_binding binding [] = []
with_binding binding (level ∷ outer) = (binding ∷ level) ∷ outer

-- more bindings in the innermost level, the first of them the latest
abbrev pub with_bindings : List Binding → Levels → Levels
with_bindings [] levels = levels
with_bindings (binding ∷ bindings) levels = with_binding binding (with_bindings bindings levels)

-- a document, and the bindings that the elements around a place of it have rendered
pub record RenderedView : Type 0 where
  pub tree : Nodes
  pub levels : Levels

-- its document and its levels tell it from others
abbrev pub coded_binding : Coded Binding
coded_binding =
    code_by (List ℕ × List ℕ) (coded× coded_bytes coded_bytes) (λ b. (b.prefix, b.namespace))
    (λ p. record { prefix = p.0; namespace = p.1 }) (λ _. refl)

abbrev pub coded_rendered : Coded RenderedView
coded_rendered =
    code_by (Nodes × Levels) (coded× coded_nodes (coded_list (coded_list coded_binding))) (λ v. (v.tree, v.levels))
    (λ p. record { tree = p.0; levels = p.1 }) (λ _. refl)

-- a prefix with the namespace that a scope binds it to
abbrev pub binding_in : Scope → List ℕ → Binding
binding_in scope prefix = record { prefix = prefix; namespace = namespace_of scope prefix }

-- the prefix stands in the list
abbrev pub is_among : List ℕ → List (List ℕ) → Bool
is_among prefix prefixes = list_any (bytes_eq prefix) prefixes

-- The namespace of each prefix of the list, but xml, is the rendered one, unless the prefix was declared since the
-- last start tag was written.
abbrev pub AreListedRendered : List (List ℕ) → List (List ℕ) → Scope → Scope → Type 0
AreListedRendered listed declared scope rendered =
    (prefix : List ℕ) → is_among prefix (map listed_prefix listed) ≡ true → bytes_eq prefix (codes "xml") ≡ false →
    is_among prefix declared ≡ false → namespace_of scope prefix ≡ namespace_of rendered prefix
