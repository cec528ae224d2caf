-- Without the Signature in front, the content of an element shows the same attributes, and the same children of another name.
use Rattle.std.proofs.Common.{◌≡◌, ℕ, suc, ◌+◌, ◌-◌, ◌≤◌, Bool, true, false, cond, nat_lt, List, [], ◌∷◌, codes, Some, refl, sym, ap, ◌∙◌, arith}
use Rattle.std.proofs.lemmas.Bool.{cond-false}
use Rattle.xml_spec.specs.Tree.{Nodes, NoNodes, Element, Text, Comment, Instruction}
use Rattle.xml_spec.specs.Numbering.{size, from_node, kids_of, without_node}
use Rattle.xml_spec.specs.Names.{Scope, outermost, inner_scope, ExpandedName, element_name}
use Rattle.xml_spec.specs.Canonical.{alone, scope_at}
use Rattle.xml_spec.specs.Content.{Contents, NoContents, ElementContent, content_attributes, content_nodes, content}
use Rattle.saml_names.specs.Names.{ds}
use Rattle.saml_tree.specs.Documents.{kind_of}
use Rattle.saml_tree.specs.declared.node.NodeKind.TheVariants as kinds
use Rattle.saml_tree.specs.Elements.{IsElement}
use Rattle.tree_read.specs.Children.{Child, child, is_name, scope_of_kids, elements_of, element_children}
use Rattle.assertion_model.specs.Contents.{Part, named}
use Rattle.assertion_model.specs.Parts.{part_in, part_at}
use Rattle.assertion_model.proofs.PartLemmas.{named_behind_text}

abbrev pub signature : ExpandedName
signature = ds (codes "Signature")

-- the part that the first content of a list is, without its name
abbrev pub first_part : Contents → Part
first_part (ElementContent name attributes kids rest) = record { attributes = attributes; kids = kids }
first_part _ = record { attributes = []; kids = NoContents }

numbers_from : (scope : Scope) (n : ℕ) (nodes : Nodes) (c : Child) (others : List Child) → elements_of scope n nodes ≡ c ∷ others → n ≤ c.number
numbers_from scope n NoNodes c others e = absurd (let clash : [] ≡ c ∷ others = e in cc)
numbers_from scope n (Element name attributes kids rest) c others e =
    let same : child n (element_name (inner_scope attributes scope) name) ∷ elements_of scope (suc (n + size kids)) rest ≡ c ∷ others = e in
    let first : child n (element_name (inner_scope attributes scope) name) ≡ c = cc in
    let number : n ≡ c.number = ap (λ (d : Child). d.number) first in omega (arith, number)
numbers_from scope n (Text bytes rest) c others e = omega (arith, numbers_from scope (suc n) rest c others e)
numbers_from scope n (Comment bytes rest) c others e = omega (arith, numbers_from scope (suc n) rest c others e)
numbers_from scope n (Instruction target value rest) c others e = omega (arith, numbers_from scope (suc n) rest c others e)

module _ (wanted : ExpandedName) (apart : is_name wanted signature ≡ false) where
  abbrev shown : Scope → Nodes → List Part
  shown scope nodes = named wanted (content_nodes scope nodes)

  without_same : (scope : Scope) (n : ℕ) (nodes : Nodes) (s : ℕ) (others : List Child) → elements_of scope n nodes ≡ child s signature ∷ others →
      shown scope (without_node nodes (s - n)) ≡ shown scope nodes
  without_same scope n NoNodes s others e = absurd (let clash : [] ≡ child s signature ∷ others = e in cc)
  without_same scope n (Element name attributes kids rest) s others e =
      let same : child n (element_name (inner_scope attributes scope) name) ∷ elements_of scope (suc (n + size kids)) rest ≡ child s signature ∷ others = e in
      let first : child n (element_name (inner_scope attributes scope) name) ≡ child s signature = cc in
      let number : n ≡ s = ap (λ (d : Child). d.number) first in
      let name_is : element_name (inner_scope attributes scope) name ≡ signature = ap (λ (d : Child). d.name) first in
      let none : s - n ≡ 0 = omega (arith, number) in
      ap (λ j. shown scope (without_node (Element name attributes kids rest) j)) none
      ∙ sym (cond-false (is_name wanted (element_name (inner_scope attributes scope) name)) _ _ (ap (is_name wanted) name_is ∙ apart))
  without_same scope n (Text bytes rest) s others e =
      let past = numbers_from scope (suc n) rest (child s signature) others e in
      let place : s - n ≡ suc (s - suc n) = omega (arith, past) in
      ap (λ j. shown scope (without_node (Text bytes rest) j)) place
      ∙ named_behind_text wanted bytes (content_nodes scope (without_node rest (s - suc n)))
      ∙ without_same scope (suc n) rest s others e ∙ sym (named_behind_text wanted bytes (content_nodes scope rest))
  without_same scope n (Comment bytes rest) s others e =
      let past = numbers_from scope (suc n) rest (child s signature) others e in
      let place : s - n ≡ suc (s - suc n) = omega (arith, past) in
      ap (λ j. shown scope (without_node (Comment bytes rest) j)) place ∙ without_same scope (suc n) rest s others e
  without_same scope n (Instruction target value rest) s others e =
      let past = numbers_from scope (suc n) rest (child s signature) others e in
      let place : s - n ≡ suc (s - suc n) = omega (arith, past) in
      ap (λ j. shown scope (without_node (Instruction target value rest) j)) place ∙ without_same scope (suc n) rest s others e

  children_kept : (scope : Scope) (k : ℕ) (nodes : Nodes) (s : ℕ) (others : List Child) → kind_of nodes ≡ Some kinds.Element →
      elements_of (scope_of_kids scope nodes) (suc k) (kids_of nodes) ≡ child s signature ∷ others →
      named wanted (first_part (content_nodes scope (without_node (alone nodes) (s - k)))).kids ≡ named wanted (part_in scope nodes).kids
  children_kept scope k NoNodes s others element e = absurd (cc)
  children_kept scope k (Text bytes rest) s others element e = absurd (cc)
  children_kept scope k (Comment bytes rest) s others element e = absurd (cc)
  children_kept scope k (Instruction target value rest) s others element e = absurd (cc)
  children_kept scope k (Element name given kids rest) s others element e =
      let inner = inner_scope given scope in
      let past = numbers_from inner (suc k) kids (child s signature) others e in
      let place : s - k ≡ suc (s - suc k) = omega (arith, past) in
      ap (λ j. named wanted (first_part (content_nodes scope (without_node (Element name given kids NoNodes) j))).kids) place
      ∙ which (nat_lt (s - suc k) (size kids)) (without_same inner (suc k) kids s others e)
    where
      which : (b : Bool) → shown (inner_scope given scope) (without_node kids (s - suc k)) ≡ shown (inner_scope given scope) kids →
          named wanted (first_part (content_nodes scope (cond b (Element name given (without_node kids (s - suc k)) NoNodes) (Element name given kids NoNodes)))).kids
          ≡ shown (inner_scope given scope) kids
      which true same = same
      which false same = refl

  -- the children of this name
  pub same_children : (tree : Nodes) (e s : ℕ) (others : List Child) → IsElement tree e → element_children tree e ≡ child s signature ∷ others →
      named wanted (first_part (content tree e (Some s))).kids ≡ named wanted (part_at tree e).kids
  same_children tree e s others element front = children_kept (scope_at outermost tree e) e (from_node tree e) s others element front

attributes_kept : (scope : Scope) (k : ℕ) (nodes : Nodes) (s : ℕ) (others : List Child) → kind_of nodes ≡ Some kinds.Element →
    elements_of (scope_of_kids scope nodes) (suc k) (kids_of nodes) ≡ child s signature ∷ others →
    (first_part (content_nodes scope (without_node (alone nodes) (s - k)))).attributes ≡ (part_in scope nodes).attributes
attributes_kept scope k NoNodes s others element e = absurd (cc)
attributes_kept scope k (Text bytes rest) s others element e = absurd (cc)
attributes_kept scope k (Comment bytes rest) s others element e = absurd (cc)
attributes_kept scope k (Instruction target value rest) s others element e = absurd (cc)
attributes_kept scope k (Element name given kids rest) s others element e =
    let past = numbers_from (inner_scope given scope) (suc k) kids (child s signature) others e in
    let place : s - k ≡ suc (s - suc k) = omega (arith, past) in
    ap (λ j. (first_part (content_nodes scope (without_node (Element name given kids NoNodes) j))).attributes) place
    ∙ which (nat_lt (s - suc k) (size kids))
  where
    which : (b : Bool) →
        (first_part (content_nodes scope (cond b (Element name given (without_node kids (s - suc k)) NoNodes) (Element name given kids NoNodes)))).attributes
        ≡ content_attributes (inner_scope given scope) given
    which true = refl
    which false = refl

-- the attributes
pub same_attributes : (tree : Nodes) (e s : ℕ) (others : List Child) → IsElement tree e → element_children tree e ≡ child s signature ∷ others →
    (first_part (content tree e (Some s))).attributes ≡ (part_at tree e).attributes
same_attributes tree e s others element front = attributes_kept (scope_at outermost tree e) e (from_node tree e) s others element front

pub signature_behind : (tree : Nodes) (e s : ℕ) (others : List Child) → element_children tree e ≡ child s signature ∷ others → suc e ≤ s
signature_behind tree e s others front =
    numbers_from (scope_of_kids (scope_at outermost tree e) (from_node tree e)) (suc e) (kids_of (from_node tree e)) (child s signature) others front
