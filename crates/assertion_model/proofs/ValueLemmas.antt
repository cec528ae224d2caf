-- The values of the attributes of an element of a document are those of its content.
use Rattle.std.proofs.Common.{◌≡◌, ℕ, zero, suc, ◌-◌, Bool, true, false, cond, ◌&&◌, nat_lt, List, [], ◌∷◌, map, None, Some, IsSome, IsTrue, refl, sym, ap, ◌∙◌, subst, inl, inr}
use Rattle.std.specs.Prelude.{unwrap_or}
use Rattle.std.specs.List.{AllByRecursion}
use Rattle.std.specs.Ordering.{is_le, ordering_reverse}
use Rattle.std.specs.declared.cmp.Ordering.{Ordering}
use Rattle.std.specs.declared.cmp.Ordering.TheVariants.{Less, Equal, Greater}
use Rattle.std.specs.Str.{bytes_eq}
use Rattle.std.proofs.lemmas.Slice.Eq.{bytes_eq-Decides}
use Rattle.xml_spec.specs.Bytes.{is_empty}
use Rattle.xml_spec.specs.Characters.{prefix_of, local_of}
use Rattle.xml_spec.specs.Tree.{Attribute, Nodes, NoNodes, Element, Text, Comment, Instruction}
use Rattle.xml_spec.specs.Numbering.{size, from_node}
use Rattle.xml_spec.specs.Names.{Binding, Scope, outermost, bound, namespace_of, declarations, proper_attributes, inner_scope, ExpandedName, attribute_name, IsBinding, IsInScope, IsNamed, AreNamed, HasNames}
use Rattle.xml_spec.specs.Canonical.{alone, scope_at, inserted, sorted, expanded_order}
use Rattle.xml_spec.specs.Content.{ContentAttribute, content_attributes}
use Rattle.xml_spec.proofs.Orders.{expanded_order_is_total}
use Rattle.xml_spec.proofs.Sorting.{each_weaker}
use Rattle.xml_spec.proofs.Tests.{both_true}
use Rattle.canon_laws.specs.Trees.{begins_with_element}
use Rattle.canon_laws.proofs.Contents.{all_append}
use Rattle.canon_laws.proofs.Named.{kept_is_named}
use Rattle.saml_tree.specs.Documents.{kind_of}
use Rattle.saml_tree.specs.declared.node.NodeKind.TheVariants as kinds
use Rattle.saml_tree.specs.Elements.{IsElement, attributes_in}
use Rattle.tree_read.specs.Children.{is_name, scope_of_kids}
use Rattle.tree_read.specs.Texts.{value_of, attribute_text}
use Rattle.assertion_model.specs.Contents.{value}
use Rattle.assertion_model.specs.Parts.{part_at}

-- THE ORDER OF THE ATTRIBUTES

not_above_itself : (o : Ordering) → o ≡ ordering_reverse o → is_le o ≡ true
not_above_itself Less e = refl
not_above_itself Equal e = refl
not_above_itself Greater e = absurd (let clash : false ≡ true = ap is_le e in cc)

-- a name without a namespace
abbrev pub plain : List ℕ → ExpandedName
plain local = record { namespace = []; local = local }

pub name_is : (wanted name : ExpandedName) → is_name wanted name ≡ true → name ≡ wanted
name_is wanted name h =
    let parts = both_true (bytes_eq name.namespace wanted.namespace) (bytes_eq name.local wanted.local) h in
    let first = (bytes_eq-Decides name.namespace wanted.namespace).0 parts.0 in
    let second = (bytes_eq-Decides name.local wanted.local).0 parts.1 in
    λ i. record { namespace = first i; local = second i }

both_named : (wanted one other : ExpandedName) → is_name wanted one ≡ true → is_name wanted other ≡ true → is_le (expanded_order one other) ≡ true
both_named wanted one other h k =
    let same : one ≡ other = name_is wanted one h ∙ sym (name_is wanted other k) in
    subst (λ n. is_le (expanded_order one n) ≡ true) same (not_above_itself (expanded_order one one) (expanded_order_is_total.antisymm one one))

abbrev order : ContentAttribute → ContentAttribute → Ordering
order a b = expanded_order a.name b.name

inserted_value : (local : List ℕ) (a : ContentAttribute) (attributes : List ContentAttribute) →
    value local (inserted order a attributes) ≡ value local (a ∷ attributes)
inserted_value local a [] = refl
inserted_value local a (b ∷ attributes) =
    which (is_le (order a b)) refl (is_name (plain local) a.name) refl (is_name (plain local) b.name) refl (inserted_value local a attributes)
  where
    which : (le : Bool) → is_le (order a b) ≡ le → (one : Bool) → is_name (plain local) a.name ≡ one → (other : Bool) → is_name (plain local) b.name ≡ other →
        value local (inserted order a attributes) ≡ cond one (Some a.value) (value local attributes) →
        value local (cond le (a ∷ b ∷ attributes) (b ∷ inserted order a attributes))
        ≡ cond one (Some a.value) (cond other (Some b.value) (value local attributes))
    which true h one k other l later =
        (λ i. cond (k i) (Some a.value) (cond (l i) (Some b.value) (value local attributes)))
    which false h true k true l later = absurd (let clash : true ≡ false = sym (both_named (plain local) a.name b.name k l) ∙ h in cc)
    which false h true k false l later = ap (λ c. cond c (Some b.value) (value local (inserted order a attributes))) l ∙ later
    which false h false k true l later = ap (λ c. cond c (Some b.value) (value local (inserted order a attributes))) l
    which false h false k false l later = ap (λ c. cond c (Some b.value) (value local (inserted order a attributes))) l ∙ later

sorted_value : (local : List ℕ) (attributes : List ContentAttribute) → value local (sorted order attributes) ≡ value local attributes
sorted_value local [] = refl
sorted_value local (a ∷ attributes) =
    inserted_value local a (sorted order attributes)
    ∙ ap (cond (is_name (plain local) a.name) (Some a.value)) (sorted_value local attributes)

-- THE NAMESPACE OF A PREFIX

-- no prefix is bound to the empty name, but the default may be
abbrev BindsSome : Scope → Type 0
BindsSome scope = AllByRecursion (λ b. b.namespace ≡ [] → b.prefix ≡ []) scope

bound_some : (scope : Scope) (prefix : List ℕ) → BindsSome scope → IsSome (bound scope prefix) → namespace_of scope prefix ≡ [] → prefix ≡ []
bound_some [] prefix binds there e = absurd (let clash : false ≡ true = there in cc)
bound_some (b ∷ scope) prefix binds there e = which (bytes_eq b.prefix prefix) refl (bound_some scope prefix binds.1) there e
  where
    which : (same : Bool) → bytes_eq b.prefix prefix ≡ same →
        (IsSome (bound scope prefix) → namespace_of scope prefix ≡ [] → prefix ≡ []) →
        IsSome (cond same (Some b.namespace) (bound scope prefix)) → unwrap_or (cond same (Some b.namespace) (bound scope prefix)) [] ≡ [] → prefix ≡ []
    which true h later there e = sym ((bytes_eq-Decides b.prefix prefix).0 h) ∙ binds.0 e
    which false h later there e = later there e

inner_some : (attributes : List Attribute) (scope : Scope) → AllByRecursion IsBinding (declarations attributes) → BindsSome scope →
    BindsSome (inner_scope attributes scope)
inner_some attributes scope declares binds =
    all_append (λ (b : Binding). b.namespace ≡ [] → b.prefix ≡ []) (declarations attributes) scope
    (each_weaker IsBinding (λ (b : Binding). b.namespace ≡ [] → b.prefix ≡ []) (λ b is. is.not_undeclared) (declarations attributes) declares) binds

scope_some : (scope : Scope) (nodes : Nodes) (k : ℕ) → AreNamed scope nodes → BindsSome scope → BindsSome (scope_at scope nodes k)
scope_some scope NoNodes k named binds = binds
scope_some scope (Element name attributes kids rest) zero named binds = binds
scope_some scope (Element name attributes kids rest) (suc k) named binds =
    which (nat_lt k (size kids))
    (scope_some (inner_scope attributes scope) kids k named.1 (inner_some attributes scope named.0.declares binds))
    (scope_some scope rest (k - size kids) named.2 binds)
  where
    which : (b : Bool) → BindsSome (scope_at (inner_scope attributes scope) kids k) → BindsSome (scope_at scope rest (k - size kids)) →
        BindsSome (cond b (scope_at (inner_scope attributes scope) kids k) (scope_at scope rest (k - size kids)))
    which true one other = one
    which false one other = other
scope_some scope (Text text rest) zero named binds = binds
scope_some scope (Text text rest) (suc k) named binds = scope_some scope rest k named binds
scope_some scope (Comment text rest) zero named binds = binds
scope_some scope (Comment text rest) (suc k) named binds = scope_some scope rest k named binds
scope_some scope (Instruction target value rest) zero named binds = binds
scope_some scope (Instruction target value rest) (suc k) named binds = scope_some scope rest k named binds

outermost_some : BindsSome outermost
outermost_some = (λ e. absurd (cc), tt)

-- THE VALUES

no_namespace : (prefix namespace : List ℕ) → (namespace ≡ [] → prefix ≡ []) →
    bytes_eq (cond (is_empty prefix) [] namespace) [] ≡ is_empty prefix
no_namespace [] namespace h = refl
no_namespace (b ∷ prefix) [] h = absurd (let clash : b ∷ prefix ≡ [] = h refl in cc)
no_namespace (b ∷ prefix) (c ∷ namespace) h = refl

-- the name has a namespace where it has a prefix
abbrev HasNamespace : Scope → Attribute → Type 0
HasNamespace scope a = namespace_of scope (prefix_of a.name) ≡ [] → prefix_of a.name ≡ []

mapped_value : (local : List ℕ) (scope : Scope) (attributes : List Attribute) → AllByRecursion (HasNamespace scope) attributes →
    value local (map (λ a. record { name = attribute_name scope a.name; value = a.value }) attributes) ≡ value_of local attributes
mapped_value local scope [] h = refl
mapped_value local scope (a ∷ attributes) h =
    (λ i. cond (no_namespace (prefix_of a.name) (namespace_of scope (prefix_of a.name)) h.0 i && bytes_eq (local_of a.name) local) (Some a.value)
    (mapped_value local scope attributes h.1 i))

content_value : (local : List ℕ) (scope : Scope) (attributes : List Attribute) → AllByRecursion (HasNamespace scope) (proper_attributes attributes) →
    value local (content_attributes scope attributes) ≡ value_of local (proper_attributes attributes)
content_value local scope attributes h =
    sorted_value local (map (λ a. record { name = attribute_name scope a.name; value = a.value }) (proper_attributes attributes))
    ∙ mapped_value local scope (proper_attributes attributes) h

named_have : (scope : Scope) (name : List ℕ) (attributes : List Attribute) → BindsSome scope → IsNamed scope name attributes →
    AllByRecursion (HasNamespace scope) (proper_attributes attributes)
named_have scope name attributes binds named =
    each_weaker (λ (a : Attribute). IsInScope scope a.name) (HasNamespace scope)
    (λ a inside e. elim inside [ inl none ↦ none | inr some ↦ bound_some scope (prefix_of a.name) binds some e ])
    (proper_attributes attributes) named.all_in_scope

alone_attributes : (nodes : Nodes) → attributes_in (alone nodes) ≡ attributes_in nodes
alone_attributes NoNodes = refl
alone_attributes (Element name attributes kids rest) = refl
alone_attributes (Text text rest) = refl
alone_attributes (Comment text rest) = refl
alone_attributes (Instruction target value rest) = refl

alone_scope : (scope : Scope) (nodes : Nodes) → scope_of_kids scope (alone nodes) ≡ scope_of_kids scope nodes
alone_scope scope NoNodes = refl
alone_scope scope (Element name attributes kids rest) = refl
alone_scope scope (Text text rest) = refl
alone_scope scope (Comment text rest) = refl
alone_scope scope (Instruction target value rest) = refl

pub element_begins : (nodes : Nodes) → kind_of nodes ≡ Some kinds.Element → IsTrue (begins_with_element nodes)
element_begins NoNodes e = absurd (cc)
element_begins (Element name attributes kids rest) e = refl
element_begins (Text text rest) e = absurd (cc)
element_begins (Comment text rest) e = absurd (cc)
element_begins (Instruction target value rest) e = absurd (cc)

-- the value of an attribute of an element
pub value_at : (local : List ℕ) (tree : Nodes) (k : ℕ) → HasNames tree → IsElement tree k →
    value local (part_at tree k).attributes ≡ attribute_text tree k local
value_at local tree k names element =
    let scope = scope_at outermost tree k in
    let here = kept_is_named tree k None (element_begins (from_node tree k) element) tt names in
    let given : attributes_in (from_node tree k) ≡ here.attributes = sym (alone_attributes (from_node tree k)) ∙ ap attributes_in here.is in
    let inside : scope_of_kids scope (from_node tree k) ≡ inner_scope here.attributes scope =
    sym (alone_scope scope (from_node tree k)) ∙ ap (scope_of_kids scope) here.is in
    let binds = inner_some here.attributes scope here.named.0.declares (scope_some outermost tree k names outermost_some) in
    (λ i. value local (content_attributes (inside i) (given i)))
    ∙ content_value local (inner_scope here.attributes scope) here.attributes
    (named_have (inner_scope here.attributes scope) here.name here.attributes binds here.named.0)
    ∙ sym (ap (λ attributes. value_of local (proper_attributes attributes)) given)
