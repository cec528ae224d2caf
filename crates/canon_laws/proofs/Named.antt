-- What is kept of a tree with names has names, and the scope in which it stands binds xml as every scope does.
use Rattle.std.proofs.Common.{◌≡◌, ℕ, zero, suc, ◌-◌, ◌<◌, Bool, true, false, cond, not, nat_lt, length, List, Option, Some, None, IsTrue, refl, sym, subst, arith}
use Rattle.std.specs.Prelude.{IfSome, ⊤}
use Rattle.xml_spec.specs.Tree.{Attribute, Nodes, NoNodes, Element, Text, Comment, Instruction, begins_with_text, IsJoined}
use Rattle.xml_spec.specs.Numbering.{size, from_node, without_node}
use Rattle.xml_spec.specs.Names.{Scope, outermost, declarations, inner_scope, AreNamed, HasNames}
use Rattle.xml_spec.specs.Canonical.{alone, scope_at, kept_element}
use Rattle.xml_spec.proofs.Tests.{both_true}
use Rattle.canon_laws.specs.Trees.{begins_with_element}
use Rattle.canon_laws.proofs.Bindings.{BindsXml, declared_xml}

-- no text is empty
abbrev pub HasNoEmptyText : Nodes → Type 0
HasNoEmptyText NoNodes = ⊤
HasNoEmptyText (Element name attributes kids rest) = HasNoEmptyText kids × HasNoEmptyText rest
HasNoEmptyText (Text text rest) = IsTrue (nat_lt 0 (length text)) × HasNoEmptyText rest
HasNoEmptyText (Comment text rest) = HasNoEmptyText rest
HasNoEmptyText (Instruction target value rest) = HasNoEmptyText rest

pub joined_texts : (nodes : Nodes) → IsJoined nodes → HasNoEmptyText nodes
joined_texts NoNodes h = tt
joined_texts (Element name attributes kids rest) h = (joined_texts kids h.0, joined_texts rest h.1)
joined_texts (Text text rest) h = ((both_true (nat_lt 0 (length text)) (not (begins_with_text rest)) h.0).0, joined_texts rest h.1)
joined_texts (Comment text rest) h = joined_texts rest h
joined_texts (Instruction target value rest) h = joined_texts rest h

either : (P : Nodes → Type 0) (b : Bool) (x y : Nodes) → P x → P y → P (cond b x y)
either P true x y p q = p
either P false x y p q = q

from_texts : (nodes : Nodes) (k : ℕ) → HasNoEmptyText nodes → HasNoEmptyText (from_node nodes k)
from_texts NoNodes k h = h
from_texts (Element name attributes kids rest) zero h = h
from_texts (Element name attributes kids rest) (suc k) h =
    either HasNoEmptyText (nat_lt k (size kids)) (from_node kids k) (from_node rest (k - size kids)) (from_texts kids k h.0) (from_texts rest (k - size kids) h.1)
from_texts (Text text rest) zero h = h
from_texts (Text text rest) (suc k) h = from_texts rest k h.1
from_texts (Comment text rest) zero h = h
from_texts (Comment text rest) (suc k) h = from_texts rest k h
from_texts (Instruction target value rest) zero h = h
from_texts (Instruction target value rest) (suc k) h = from_texts rest k h

without_texts : (nodes : Nodes) (k : ℕ) → HasNoEmptyText nodes → HasNoEmptyText (without_node nodes k)
without_texts NoNodes k h = h
without_texts (Element name attributes kids rest) zero h = h.1
without_texts (Element name attributes kids rest) (suc k) h =
    either HasNoEmptyText (nat_lt k (size kids)) (Element name attributes (without_node kids k) rest)
    (Element name attributes kids (without_node rest (k - size kids))) (without_texts kids k h.0, h.1) (h.0, without_texts rest (k - size kids) h.1)
without_texts (Text text rest) zero h = h.1
without_texts (Text text rest) (suc k) h = (h.0, without_texts rest k h.1)
without_texts (Comment text rest) zero h = h
without_texts (Comment text rest) (suc k) h = without_texts rest k h
without_texts (Instruction target value rest) zero h = h
without_texts (Instruction target value rest) (suc k) h = without_texts rest k h

alone_texts : (nodes : Nodes) → HasNoEmptyText nodes → HasNoEmptyText (alone nodes)
alone_texts NoNodes h = tt
alone_texts (Element name attributes kids rest) h = (h.0, tt)
alone_texts (Text text rest) h = (h.0, tt)
alone_texts (Comment text rest) h = tt
alone_texts (Instruction target value rest) h = tt

pub kept_texts : (tree : Nodes) (k : ℕ) (skip : Option ℕ) → HasNoEmptyText tree → HasNoEmptyText (kept_element tree k skip)
kept_texts tree k None h = alone_texts (from_node tree k) (from_texts tree k h)
kept_texts tree k (Some skip) h = without_texts (alone (from_node tree k)) (skip - k) (alone_texts (from_node tree k) (from_texts tree k h))

from_named : (scope : Scope) (nodes : Nodes) (k : ℕ) → AreNamed scope nodes → AreNamed (scope_at scope nodes k) (from_node nodes k)
from_named scope NoNodes k h = h
from_named scope (Element name attributes kids rest) zero h = h
from_named scope (Element name attributes kids rest) (suc k) h =
    which (nat_lt k (size kids)) (from_named (inner_scope attributes scope) kids k h.1) (from_named scope rest (k - size kids) h.2)
  where
    which : (b : Bool) → AreNamed (scope_at (inner_scope attributes scope) kids k) (from_node kids k) →
        AreNamed (scope_at scope rest (k - size kids)) (from_node rest (k - size kids)) →
        AreNamed (cond b (scope_at (inner_scope attributes scope) kids k) (scope_at scope rest (k - size kids)))
        (cond b (from_node kids k) (from_node rest (k - size kids)))
    which true one other = one
    which false one other = other
from_named scope (Text text rest) zero h = h
from_named scope (Text text rest) (suc k) h = from_named scope rest k h
from_named scope (Comment text rest) zero h = h
from_named scope (Comment text rest) (suc k) h = from_named scope rest k h
from_named scope (Instruction target value rest) zero h = h
from_named scope (Instruction target value rest) (suc k) h = from_named scope rest k h

without_named : (scope : Scope) (nodes : Nodes) (k : ℕ) → AreNamed scope nodes → AreNamed scope (without_node nodes k)
without_named scope NoNodes k h = h
without_named scope (Element name attributes kids rest) zero h = h.2
without_named scope (Element name attributes kids rest) (suc k) h =
    either (AreNamed scope) (nat_lt k (size kids)) (Element name attributes (without_node kids k) rest)
    (Element name attributes kids (without_node rest (k - size kids))) (h.0, without_named (inner_scope attributes scope) kids k h.1, h.2)
    (h.0, h.1, without_named scope rest (k - size kids) h.2)
without_named scope (Text text rest) zero h = h
without_named scope (Text text rest) (suc k) h = without_named scope rest k h
without_named scope (Comment text rest) zero h = h
without_named scope (Comment text rest) (suc k) h = without_named scope rest k h
without_named scope (Instruction target value rest) zero h = h
without_named scope (Instruction target value rest) (suc k) h = without_named scope rest k h

scope_xml : (scope : Scope) (nodes : Nodes) (k : ℕ) → AreNamed scope nodes → BindsXml scope → BindsXml (scope_at scope nodes k)
scope_xml scope NoNodes k named binds = binds
scope_xml scope (Element name attributes kids rest) zero named binds = binds
scope_xml scope (Element name attributes kids rest) (suc k) named binds =
    which (nat_lt k (size kids))
    (scope_xml (inner_scope attributes scope) kids k named.1 (declared_xml (declarations attributes) scope named.0.declares binds))
    (scope_xml scope rest (k - size kids) named.2 binds)
  where
    which : (b : Bool) → BindsXml (scope_at (inner_scope attributes scope) kids k) → BindsXml (scope_at scope rest (k - size kids)) →
        BindsXml (cond b (scope_at (inner_scope attributes scope) kids k) (scope_at scope rest (k - size kids)))
    which true one other = one
    which false one other = other
scope_xml scope (Text text rest) zero named binds = binds
scope_xml scope (Text text rest) (suc k) named binds = scope_xml scope rest k named binds
scope_xml scope (Comment text rest) zero named binds = binds
scope_xml scope (Comment text rest) (suc k) named binds = scope_xml scope rest k named binds
scope_xml scope (Instruction target value rest) zero named binds = binds
scope_xml scope (Instruction target value rest) (suc k) named binds = scope_xml scope rest k named binds

pub xml_at : (tree : Nodes) (k : ℕ) → HasNames tree → BindsXml (scope_at outermost tree k)
xml_at tree k named = scope_xml outermost tree k named refl

-- one element with names in order, and nothing behind it
pub record IsNamedElement (scope : Scope) (nodes : Nodes) : Type 0 where
  pub name : List ℕ
  pub attributes : List Attribute
  pub kids : Nodes
  pub is : nodes ≡ Element name attributes kids NoNodes
  pub named : AreNamed scope (Element name attributes kids NoNodes)

alone_named : (scope : Scope) (nodes : Nodes) → IsTrue (begins_with_element nodes) → AreNamed scope nodes → IsNamedElement scope (alone nodes)
alone_named scope NoNodes h w = absurd (let clash : false ≡ true = h in cc)
alone_named scope (Element n a k rest) h w = record { name = n; attributes = a; kids = k; is = refl; named = (w.0, w.1, tt) }
alone_named scope (Text text rest) h w = absurd (let clash : false ≡ true = h in cc)
alone_named scope (Comment text rest) h w = absurd (let clash : false ≡ true = h in cc)
alone_named scope (Instruction target value rest) h w = absurd (let clash : false ≡ true = h in cc)

-- a node below the one element is taken away
without_below : (scope : Scope) (n : List ℕ) (a : List Attribute) (k : Nodes) (j : ℕ) → 0 < j → AreNamed scope (Element n a k NoNodes) →
    IsNamedElement scope (without_node (Element n a k NoNodes) j)
without_below scope n a k zero h w = absurd (omega arith)
without_below scope n a k (suc j) h w =
    either (IsNamedElement scope) (nat_lt j (size k)) (Element n a (without_node k j) NoNodes) (Element n a k NoNodes)
    (record { name = n; attributes = a; kids = without_node k j; is = refl; named = (w.0, without_named (inner_scope a scope) k j w.1, tt) })
    (record { name = n; attributes = a; kids = k; is = refl; named = w })

pub kept_is_named : (tree : Nodes) (k : ℕ) (skip : Option ℕ) → IsTrue (begins_with_element (from_node tree k)) → IfSome skip (λ s. k < s) →
    HasNames tree → IsNamedElement (scope_at outermost tree k) (kept_element tree k skip)
kept_is_named tree k None h below w = alone_named (scope_at outermost tree k) (from_node tree k) h (from_named outermost tree k w)
kept_is_named tree k (Some skip) h below w =
    let scope = scope_at outermost tree k in
    let whole = alone_named scope (from_node tree k) h (from_named outermost tree k w) in
    subst (λ nodes. IsNamedElement scope (without_node nodes (skip - k))) (sym whole.is)
    (without_below scope whole.name whole.attributes whole.kids (skip - k) (omega arith) whole.named)
