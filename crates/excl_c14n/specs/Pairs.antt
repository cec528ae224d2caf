-- Prefixes with places of a document that speak of their namespaces.
use Rattle.std.specs.Prelude.{◌≡◌, ℕ, Bool, true, false, ◌&&◌, List, [], ◌∷◌, length, map, unwrap_or}
use Rattle.std.specs.List.{AllByRecursion}
use Rattle.std.specs.Borrow.{Bor}
use Rattle.xml_spec.specs.Laws.{IsAscending}
use Rattle.xml_spec.specs.Tree.{Attribute, Nodes}
use Rattle.xml_spec.specs.Names.{Binding, Scope, namespace_of, declarations}
use Rattle.xml_spec.specs.Canonical.{byte_order, listed_prefix}
use Rattle.saml_tree.specs.NodeNames.{IsNameAt, namespace_at}
use Rattle.saml_tree.specs.declared.node.NameAt.{NameAt}
use Rattle.excl_c14n.specs.Texts.{texts}
use Rattle.excl_c14n.specs.Levels.{is_among, AreListedRendered}
use Rattle.excl_c14n.specs.NodeByNode.{scope_inside}

-- a prefix with its place
abbrev pub Pair : Type 0
Pair = List ℕ × NameAt

abbrev pub pairs_of : List (Bor (List ℕ)) → List NameAt → List Pair
pairs_of [] places = []
pairs_of (p ∷ ps) [] = []
pairs_of (p ∷ ps) (place ∷ places) = (p.now, place) ∷ pairs_of ps places

abbrev pub prefixes_in : List Pair → List (List ℕ)
prefixes_in pairs = map (λ (pair : Pair). pair.0) pairs

-- the namespace that a place speaks of, empty where there is no such place
abbrev pub space_at : Nodes → NameAt → List ℕ
space_at tree place = unwrap_or (namespace_at tree place) []

-- a prefix with the namespace of its place
abbrev pub binding_placed : Nodes → Pair → Binding
binding_placed tree pair = record { prefix = pair.0; namespace = space_at tree pair.1 }

-- the place is one of the document, and speaks of the namespace that the scope binds the prefix to
pub record IsPlaced (tree : Nodes) (scope : Scope) (pair : Pair) : Type 0 where
  pub there : IsNameAt tree pair.1
  pub is : space_at tree pair.1 ≡ namespace_of scope pair.0

abbrev pub ArePlaced : Nodes → Scope → List Pair → Type 0
ArePlaced tree scope pairs = AllByRecursion (IsPlaced tree scope) pairs

-- the places are some of the document
abbrev pub AreThere : Nodes → List Pair → Type 0
AreThere tree pairs = AllByRecursion (λ (pair : Pair). IsNameAt tree pair.1) pairs

-- there are as many places as prefixes, which are in ascending order
pub record IsSorted (prefixes : List (Bor (List ℕ))) (places : List NameAt) : Type 0 where
  pub even : length places ≡ length prefixes
  pub ascending : IsAscending byte_order (texts prefixes)

-- a prefix of the list that attributes declare
abbrev pub is_declared_in : List (List ℕ) → List Attribute → List ℕ → Bool
is_declared_in listed attributes q =
    is_among q (map (λ (b : Binding). b.prefix) (declarations attributes)) && is_among q (map listed_prefix listed)

-- each of them that is not among these is bound in the scope as the attributes bind it
abbrev pub IsBoundAs : List (List ℕ) → List Attribute → List (List ℕ) → Scope → Type 0
IsBoundAs listed attributes among scope =
    (q : List ℕ) → is_declared_in listed attributes q ≡ true → is_among q among ≡ false →
    namespace_of scope q ≡ namespace_of (declarations attributes) q

-- At element n: these prefixes are listed, with the places of their namespaces, and each other prefix of the list was
-- rendered as it is bound there.
pub record AreDeclared (listed : List (List ℕ)) (tree : Nodes) (n : ℕ) (rendered : Scope) (declared : List Pair) : Type 0 where
  pub among : (q : List ℕ) → is_among q (prefixes_in declared) ≡ true → is_among q (map listed_prefix listed) ≡ true
  pub placed : ArePlaced tree (scope_inside tree n) declared
  pub others : AreListedRendered listed (prefixes_in declared) (scope_inside tree n) rendered
