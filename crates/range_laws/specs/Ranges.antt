-- Where elements stand in the bytes of a document, and which lies in which.
use Rattle.std.specs.Prelude.{ℕ, ◌+◌, ◌≤◌, ◌⊎◌, List, IsTrue}
use Rattle.xml_spec.specs.Tree.{Nodes}
use Rattle.xml_spec.specs.Numbering.{size, from_node, kids_of, elements_before}
use Rattle.xml_spec.specs.Document.{Span, IsRange}
use Rattle.canon_laws.specs.Trees.{begins_with_element}

-- node k is an element, which stands there in the bytes
pub record StandsAt (bytes : List ℕ) (tree : Nodes) (k : ℕ) (span : Span) : Type 0 where
  pub element : IsTrue (begins_with_element (from_node tree k))
  pub range : IsRange bytes (elements_before tree k) span

-- node n is node e or lies below it: they are numbered in document order
abbrev pub LiesIn : Nodes → ℕ → ℕ → Type 0
LiesIn tree e n = (e ≤ n) × (n ≤ e + size (kids_of (from_node tree e)))

-- all bytes of the inner range are bytes of the outer one
pub record IsWithin (outer inner : Span) : Type 0 where
  pub start : outer.start ≤ inner.start
  pub end : inner.end ≤ outer.end

-- no byte is in both ranges
abbrev pub AreApart : Span → Span → Type 0
AreApart one other = (one.end ≤ other.start) ⊎ (other.end ≤ one.start)
