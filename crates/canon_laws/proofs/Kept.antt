-- What is kept of a tree that can be written can be written, and its scope can be declared.
use Rattle.std.proofs.Common.{◌≡◌, ℕ, zero, suc, ◌-◌, ◌<◌, Bool, true, false, cond, nat_lt, List, Option, Some, None, IsTrue, refl, sym, subst, arith}
use Rattle.std.specs.Prelude.{IfSome}
use Rattle.xml_spec.specs.Tree.{Attribute, Nodes, NoNodes, Element, Text, Comment, Instruction}
use Rattle.xml_spec.specs.Numbering.{size, from_node, without_node}
use Rattle.xml_spec.specs.Names.{Scope, inner_scope}
use Rattle.xml_spec.specs.Canonical.{alone, scope_at, kept_element}
use Rattle.canon_laws.specs.Trees.{begins_with_element}
use Rattle.canon_laws.specs.Writable.{IsWritable}
use Rattle.canon_laws.proofs.Scopes.{AreDeclarable, inner_declarable}

either : {X : Type 0} (P : X → Type 0) (b : Bool) (x y : X) → P x → P y → P (cond b x y)
either P true x y p q = p
either P false x y p q = q

from_node_writable : (nodes : Nodes) (k : ℕ) → IsWritable nodes → IsWritable (from_node nodes k)
from_node_writable NoNodes k w = tt
from_node_writable (Element name attributes kids rest) zero w = w
from_node_writable (Element name attributes kids rest) (suc k) w =
    either IsWritable (nat_lt k (size kids)) (from_node kids k) (from_node rest (k - size kids))
    (from_node_writable kids k w.2) (from_node_writable rest (k - size kids) w.3)
from_node_writable (Text text rest) zero w = w
from_node_writable (Text text rest) (suc k) w = from_node_writable rest k w.1
from_node_writable (Comment text rest) zero w = w
from_node_writable (Comment text rest) (suc k) w = from_node_writable rest k w
from_node_writable (Instruction target value rest) zero w = w
from_node_writable (Instruction target value rest) (suc k) w = from_node_writable rest k w.1

without_node_writable : (nodes : Nodes) (k : ℕ) → IsWritable nodes → IsWritable (without_node nodes k)
without_node_writable NoNodes k w = tt
without_node_writable (Element name attributes kids rest) zero w = w.3
without_node_writable (Element name attributes kids rest) (suc k) w =
    either IsWritable (nat_lt k (size kids)) (Element name attributes (without_node kids k) rest) (Element name attributes kids (without_node rest (k - size kids)))
    (w.0, w.1, without_node_writable kids k w.2, w.3) (w.0, w.1, w.2, without_node_writable rest (k - size kids) w.3)
without_node_writable (Text text rest) zero w = w.1
without_node_writable (Text text rest) (suc k) w = (w.0, without_node_writable rest k w.1)
without_node_writable (Comment text rest) zero w = w
without_node_writable (Comment text rest) (suc k) w = without_node_writable rest k w
without_node_writable (Instruction target value rest) zero w = w.1
without_node_writable (Instruction target value rest) (suc k) w = (w.0, without_node_writable rest k w.1)

pub scope_declarable : (scope : Scope) (nodes : Nodes) (k : ℕ) → IsWritable nodes → AreDeclarable scope → AreDeclarable (scope_at scope nodes k)
scope_declarable scope NoNodes k w s = s
scope_declarable scope (Element name attributes kids rest) zero w s = s
scope_declarable scope (Element name attributes kids rest) (suc k) w s =
    either AreDeclarable (nat_lt k (size kids)) (scope_at (inner_scope attributes scope) kids k) (scope_at scope rest (k - size kids))
    (scope_declarable (inner_scope attributes scope) kids k w.2 (inner_declarable attributes scope w.1 s)) (scope_declarable scope rest (k - size kids) w.3 s)
scope_declarable scope (Text text rest) zero w s = s
scope_declarable scope (Text text rest) (suc k) w s = scope_declarable scope rest k w.1 s
scope_declarable scope (Comment text rest) zero w s = s
scope_declarable scope (Comment text rest) (suc k) w s = scope_declarable scope rest k w s
scope_declarable scope (Instruction target value rest) zero w s = s
scope_declarable scope (Instruction target value rest) (suc k) w s = scope_declarable scope rest k w.1 s

-- one element that can be written, and nothing behind it
pub record IsElement (nodes : Nodes) : Type 0 where
  pub name : List ℕ
  pub attributes : List Attribute
  pub kids : Nodes
  pub is : nodes ≡ Element name attributes kids NoNodes
  pub writable : IsWritable (Element name attributes kids NoNodes)

alone_element : (nodes : Nodes) → IsTrue (begins_with_element nodes) → IsWritable nodes → IsElement (alone nodes)
alone_element NoNodes h w = absurd (let clash : false ≡ true = h in cc)
alone_element (Element n a k rest) h w = record { name = n; attributes = a; kids = k; is = refl; writable = (w.0, w.1, w.2, tt) }
alone_element (Text text rest) h w = absurd (let clash : false ≡ true = h in cc)
alone_element (Comment text rest) h w = absurd (let clash : false ≡ true = h in cc)
alone_element (Instruction target value rest) h w = absurd (let clash : false ≡ true = h in cc)

-- a node below the one element is taken away
without_below : (n : List ℕ) (a : List Attribute) (k : Nodes) (j : ℕ) → 0 < j → IsWritable (Element n a k NoNodes) →
    IsElement (without_node (Element n a k NoNodes) j)
without_below n a k zero h w = absurd (omega arith)
without_below n a k (suc j) h w =
    either IsElement (nat_lt j (size k)) (Element n a (without_node k j) NoNodes) (Element n a k NoNodes)
    (record { name = n; attributes = a; kids = without_node k j; is = refl; writable = (w.0, w.1, without_node_writable k j w.2, tt) })
    (record { name = n; attributes = a; kids = k; is = refl; writable = w })

pub kept_is_element : (tree : Nodes) (k : ℕ) (skip : Option ℕ) → IsTrue (begins_with_element (from_node tree k)) → IfSome skip (λ s. k < s) →
    IsWritable tree → IsElement (kept_element tree k skip)
kept_is_element tree k None h below w = alone_element (from_node tree k) h (from_node_writable tree k w)
kept_is_element tree k (Some skip) h below w =
    let whole = alone_element (from_node tree k) h (from_node_writable tree k w) in
    subst (λ nodes. IsElement (without_node nodes (skip - k))) (sym whole.is)
    (without_below whole.name whole.attributes whole.kids (skip - k) (omega arith) whole.writable)
