-- The value of an attribute, in a tree that can be written, holds characters that a document may hold.
use Rattle.std.proofs.Common.{ℕ, zero, suc, ◌-◌, Bool, true, false, List, [], ◌∷◌, Option, Some, IfSome, if◌then◌else◌, nat_lt, not}
use Rattle.std.specs.List.{AllByRecursion, filter}
use Rattle.xml_spec.specs.Characters.{IsText}
use Rattle.xml_spec.specs.Document.{Spells}
use Rattle.xml_spec.specs.Names.{is_declaration, proper_attributes}
use Rattle.xml_spec.specs.Numbering.{size, from_node}
use Rattle.xml_spec.specs.Tree.{Attribute, Nodes, NoNodes, Element, Text, Comment, Instruction}
use Rattle.canon_laws.specs.Writable.{IsWritableAttribute, IsWritable}
use Rattle.saml_tree.specs.Elements.{attributes_in}
use Rattle.tree_read.specs.Texts.{value_of, attribute_text, is_unprefixed}

-- each tree that bytes spell can be written
abbrev pub AreWritable : Type 0
AreWritable = (bytes : List ℕ) (tree : Nodes) → Spells bytes tree → IsWritable tree

either_writable : (b : Bool) (one other : Nodes) → IsWritable one → IsWritable other → IsWritable (if b then one else other)
either_writable true one other h k = h
either_writable false one other h k = k

writable_from : (tree : Nodes) (k : ℕ) → IsWritable tree → IsWritable (from_node tree k)
writable_from NoNodes k h = tt
writable_from (Element name attributes kids rest) zero h = h
writable_from (Element name attributes kids rest) (suc k) h =
    either_writable (nat_lt k (size kids)) (from_node kids k) (from_node rest (k - size kids)) (writable_from kids k h.2) (writable_from rest (k - size kids) h.3)
writable_from (Text text rest) zero h = h
writable_from (Text text rest) (suc k) h = writable_from rest k h.1
writable_from (Comment text rest) zero h = h
writable_from (Comment text rest) (suc k) h = writable_from rest k h
writable_from (Instruction target value rest) zero h = h
writable_from (Instruction target value rest) (suc k) h = writable_from rest k h.1

attributes_writable : (nodes : Nodes) → IsWritable nodes → AllByRecursion IsWritableAttribute (attributes_in nodes)
attributes_writable NoNodes h = tt
attributes_writable (Element name attributes kids rest) h = h.1
attributes_writable (Text text rest) h = tt
attributes_writable (Comment text rest) h = tt
attributes_writable (Instruction target value rest) h = tt

pub either_option : (b : Bool) (one other : Option (List ℕ)) → IfSome one IsText → IfSome other IsText → IfSome (if b then one else other) IsText
either_option true one other h k = h
either_option false one other h k = k

either_list : (b : Bool) (one other : List Attribute) → AllByRecursion IsWritableAttribute one → AllByRecursion IsWritableAttribute other →
    AllByRecursion IsWritableAttribute (if b then one else other)
either_list true one other h k = h
either_list false one other h k = k

all_kept : (test : Attribute → Bool) (attributes : List Attribute) → AllByRecursion IsWritableAttribute attributes →
    AllByRecursion IsWritableAttribute (filter test attributes)
all_kept test [] h = tt
all_kept test (a ∷ attributes) h =
    let rest = all_kept test attributes h.1 in
    either_list (test a) (a ∷ filter test attributes) (filter test attributes) (h.0, rest) rest

value_text : (local : List ℕ) (attributes : List Attribute) → AllByRecursion IsWritableAttribute attributes → IfSome (value_of local attributes) IsText
value_text local [] h = tt
value_text local (a ∷ attributes) h =
    either_option (is_unprefixed local a) (Some a.value) (value_of local attributes) h.0.value (value_text local attributes h.1)

pub attribute_is_text : (tree : Nodes) (k : ℕ) (local : List ℕ) → IsWritable tree → IfSome (attribute_text tree k local) IsText
attribute_is_text tree k local h =
    value_text local (proper_attributes (attributes_in (from_node tree k)))
    (all_kept (λ a. not (is_declaration a)) (attributes_in (from_node tree k)) (attributes_writable (from_node tree k) (writable_from tree k h)))
