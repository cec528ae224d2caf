-- The attributes of an element as they are written: what they declare, and what their names are.
use Rattle.std.proofs.Common.{◌≡◌, ℕ, Bool, true, false, cond, not, List, [], ◌∷◌, ◌++◌, map, filter, ◌⊎◌, inl, inr, Option, Some, None, refl, sym, ◌∙◌, ap}
use Rattle.std.specs.Prelude.{is_some}
use Rattle.std.specs.List.{list_any, AllByRecursion, cons_option}
use Rattle.std.specs.Option.{option_map}
use Rattle.std.specs.declared.cmp.Ordering.{Ordering}
use Rattle.std.specs.Cmp.{IsTotalOrder}
use Rattle.std.specs.Str.{bytes_eq}
use Rattle.std.proofs.lemmas.Cmp.{nat_list_cmp_total, on_total, then_total}
use Rattle.std.proofs.lemmas.Slice.Eq.{bytes_eq-Decides}
use Rattle.xml_spec.specs.Bytes.{is_empty}
use Rattle.xml_spec.specs.Characters.{prefix_of, local_of}
use Rattle.xml_spec.specs.Tree.{Attribute}
use Rattle.xml_spec.specs.Names.{Binding, Scope, ExpandedName, namespace_of, declared_prefix, binding_of, declarations, is_declaration, proper_attributes, attribute_name}
use Rattle.xml_spec.specs.Canonical.{sorted, expanded_order, written_attributes}
use Rattle.xml_spec.specs.Content.{ContentAttribute, content_attributes}
use Rattle.xml_spec.proofs.Tests.{first_true, second_true}
use Rattle.canon_laws.specs.Trees.{declaration_of}
use Rattle.canon_laws.proofs.Scopes.{all_sorted}
use Rattle.canon_laws.proofs.Sorted.{sorted_twice, map_sorted}

-- the order of attributes by their expanded names
abbrev pub attribute_order : Scope → Attribute → Attribute → Ordering
attribute_order scope x y = expanded_order (attribute_name scope x.name) (attribute_name scope y.name)

-- a written declaration declares its binding again
declares_again : (b : Binding) → binding_of (declaration_of b) ≡ Some b
declares_again b = which b.prefix b.namespace
  where
    which : (prefix namespace : List ℕ) → binding_of (declaration_of (record { prefix = prefix; namespace = namespace })) ≡ Some (record { prefix = prefix; namespace = namespace })
    which [] namespace = refl
    which (c ∷ prefix) namespace = refl

is_one : (b : Binding) → is_declaration (declaration_of b) ≡ true
is_one b = which b.prefix
  where
    which : (prefix : List ℕ) → is_declaration (declaration_of (record { prefix = prefix; namespace = b.namespace })) ≡ true
    which [] = refl
    which (c ∷ prefix) = refl

-- none of the attributes is a declaration
abbrev pub AreProper : List Attribute → Type 0
AreProper attributes = AllByRecursion (λ a. is_declaration a ≡ false) attributes

pub proper_are : (attributes : List Attribute) → AreProper (proper_attributes attributes)
proper_are [] = tt
proper_are (a ∷ attributes) = which (is_declaration a) refl (proper_are attributes)
  where
    which : (b : Bool) → is_declaration a ≡ b → AreProper (proper_attributes attributes) →
        AreProper (cond (not b) (a ∷ proper_attributes attributes) (proper_attributes attributes))
    which true h later = later
    which false h later = (h, later)

pub written_are : (scope : Scope) (attributes : List Attribute) → AreProper (written_attributes scope attributes)
written_are scope attributes =
    all_sorted (λ a. is_declaration a ≡ false) (attribute_order scope)
    (proper_attributes attributes) (proper_are attributes)

none_declared : (attributes : List Attribute) → AreProper attributes → declarations attributes ≡ []
none_declared [] h = refl
none_declared (a ∷ attributes) h = which (declared_prefix a.name) h.0 ∙ none_declared attributes h.1
  where
    which : (o : Option (List ℕ)) → is_some o ≡ false →
        cons_option (option_map (λ (prefix : List ℕ). let b : Binding = record { prefix = prefix; namespace = a.value } in b) o) (declarations attributes)
        ≡ declarations attributes
    which None k = refl
    which (Some prefix) k = absurd (let clash : true ≡ false = k in cc)

-- what is written declares just the bindings
pub written_declares : (bindings : List Binding) (attributes : List Attribute) → AreProper attributes →
    declarations (map declaration_of bindings ++ attributes) ≡ bindings
written_declares [] attributes h = none_declared attributes h
written_declares (b ∷ bindings) attributes h =
    (λ i. cons_option (declares_again b i) (declarations (map declaration_of bindings ++ attributes)))
    ∙ ap (λ bs. b ∷ bs) (written_declares bindings attributes h)

-- and has just these other attributes
pub written_proper : (bindings : List Binding) (attributes : List Attribute) → AreProper attributes →
    proper_attributes (map declaration_of bindings ++ attributes) ≡ attributes
written_proper [] [] h = refl
written_proper [] (a ∷ attributes) h =
    (λ i. cond (not (h.0 i)) (a ∷ proper_attributes attributes) (proper_attributes attributes))
    ∙ ap (λ more. a ∷ more) (written_proper [] attributes h.1)
written_proper (b ∷ bindings) attributes h =
    (λ i. cond (not (is_one b i)) (declaration_of b ∷ proper_attributes (map declaration_of bindings ++ attributes)) (proper_attributes (map declaration_of bindings ++ attributes)))
    ∙ written_proper bindings attributes h

-- one scope has the namespace of each of these prefixes that another one has
abbrev pub HaveSame : Scope → Scope → List (List ℕ) → Type 0
HaveSame one other prefixes = (q : List ℕ) → list_any (bytes_eq q) prefixes ≡ true → namespace_of one q ≡ namespace_of other q

-- the prefixes of attributes that are not empty
abbrev pub prefixes_in : List Attribute → List (List ℕ)
prefixes_in attributes = filter (λ prefix. not (is_empty prefix)) (map (λ a. prefix_of a.name) attributes)

-- the name has no prefix, or one with the same namespace in both scopes
abbrev pub IsSame : Scope → Scope → List ℕ → Type 0
IsSame one other name = (prefix_of name ≡ []) ⊎ (namespace_of one (prefix_of name) ≡ namespace_of other (prefix_of name))

-- where the prefixes have the same namespaces
pub each_same : (one other : Scope) (attributes : List Attribute) → HaveSame one other (prefixes_in attributes) →
    AllByRecursion (λ a. IsSame one other a.name) attributes
each_same one other [] same = tt
each_same one other (a ∷ attributes) same =
    let step = which (prefix_of a.name) same in (step.0, each_same one other attributes step.1)
  where
    which : (prefix : List ℕ) → HaveSame one other (cond (not (is_empty prefix)) (prefix ∷ prefixes_in attributes) (prefixes_in attributes)) →
        ((prefix ≡ []) ⊎ (namespace_of one prefix ≡ namespace_of other prefix)) × HaveSame one other (prefixes_in attributes)
    which [] h = (inl refl, h)
    which (b ∷ prefix) h = (
      inr (h (b ∷ prefix) (first_true _ _ ((bytes_eq-Decides (b ∷ prefix) (b ∷ prefix)).1 refl))),
      λ q k. h q (second_true (bytes_eq q (b ∷ prefix)) _ k),
    )

pub same_name : (one other : Scope) (name : List ℕ) → IsSame one other name → attribute_name one name ≡ attribute_name other name
same_name one other name (inl bare) =
    let none : (scope : Scope) → attribute_name scope name ≡ record { namespace = []; local = local_of name } =
    λ scope. ap (λ prefix. record { namespace = cond (is_empty prefix) [] (namespace_of scope prefix); local = local_of name }) bare
    in
    none one ∙ sym (none other)
same_name one other name (inr same) = ap (λ ns. record { namespace = cond (is_empty (prefix_of name)) [] ns; local = local_of name }) same

-- the attribute with its expanded name
abbrev named_in : Scope → Attribute → ContentAttribute
named_in scope a = record { name = attribute_name scope a.name; value = a.value }

map_named : (one other : Scope) (attributes : List Attribute) → AllByRecursion (λ a. IsSame one other a.name) attributes →
    map (named_in one) attributes ≡ map (named_in other) attributes
map_named one other [] h = refl
map_named one other (a ∷ attributes) h =
    λ i. record { name = same_name one other a.name h.0 i; value = a.value } ∷ map_named one other attributes h.1 i

expanded_order_is_total : IsTotalOrder expanded_order
expanded_order_is_total = then_total (on_total (λ (a : ExpandedName). a.namespace) nat_list_cmp_total) (on_total (λ (a : ExpandedName). a.local) nat_list_cmp_total)

abbrev by_name : ContentAttribute → ContentAttribute → Ordering
by_name a b = expanded_order a.name b.name

by_name_is_total : IsTotalOrder by_name
by_name_is_total = on_total (λ (a : ContentAttribute). a.name) expanded_order_is_total

-- attributes as they are written have the content of the attributes
pub written_content : (one scope : Scope) (bindings : List Binding) (attributes : List Attribute) →
    AllByRecursion (λ a. IsSame one scope a.name) (written_attributes scope attributes) →
    content_attributes one (map declaration_of bindings ++ written_attributes scope attributes) ≡ content_attributes scope attributes
written_content one scope bindings attributes same =
    ap (λ more. sorted by_name (map (named_in one) more)) (written_proper bindings (written_attributes scope attributes) (written_are scope attributes))
    ∙ ap (sorted by_name) (map_named one scope (written_attributes scope attributes) same ∙ map_sorted by_name (named_in scope) (proper_attributes attributes))
    ∙ sorted_twice by_name by_name_is_total (map (named_in scope) (proper_attributes attributes))
