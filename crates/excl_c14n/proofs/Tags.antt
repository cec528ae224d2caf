-- Start tags, put piece by piece.
use Rattle.std.proofs.Common.{◌≡◌, ℕ, ◌+◌, ◌<◌, ◌≤◌, List, [], ◌++◌, length, map, drop, get_or, Option, Some, None, IsSome, IfSome, sym, ap, ◌∙◌, subst, arith}
use Rattle.std.specs.List.{flat_map}
use Rattle.std.specs.Option.{is_some, unwrap_or}
use Rattle.std.proofs.lemmas.List.{length-map, get_or-map, drop_more, drop_all}
use Rattle.canon_octets.specs.Places.{IsAppending, AppendsPart}
use Rattle.canon_octets.proofs.Underway.{IsUnderway, further, complete, broken_off}
use Rattle.xml_spec.specs.Tree.{Attribute, Nodes}
use Rattle.xml_spec.specs.Canonical.{print_attribute, print_binding}
use Rattle.saml_tree.specs.NodeNames.{namespace_at}
use Rattle.saml_tree.specs.declared.node.NameAt.{NameAt}
use Rattle.excl_c14n.specs.Levels.{RenderedView, with_binding, with_bindings}
use Rattle.excl_c14n.specs.Pairs.{Pair, space_at, binding_placed}
use Rattle.excl_c14n.proofs.Nesting.{length-with_bindings}

abbrev pub print_of : Attribute → List ℕ
print_of a = print_attribute a.name a.value

-- the numbers lead to the attributes
pub record LeadTo (at : ℕ → Option Attribute) (order : List ℕ) (attributes : List Attribute) : Type 0 where
  pub found : map at order ≡ map Some attributes

no_attribute : Attribute
no_attribute = record { name = []; value = [] }

module _ (at : ℕ → Option Attribute) (order : List ℕ) (attributes : List Attribute) (lead : LeadTo at order attributes) where
  pub as_many : length order ≡ length attributes
  as_many = sym (length-map order at) ∙ ap length lead.found ∙ length-map attributes Some

  attribute_found : (k : ℕ) → k < length order → at (get_or order k 0) ≡ Some (get_or attributes k no_attribute)
  attribute_found k h =
      sym (get_or-map at order k 0 None h) ∙ ap (λ xs. get_or xs k None) lead.found
      ∙ get_or-map Some attributes k no_attribute None (omega (arith, as_many))

  pub is_found : (k : ℕ) → k < length order → IsSome (at (get_or order k 0))
  is_found k h = ap is_some (attribute_found k h)

  next_written : (k : ℕ) → k < length order →
      flat_map print_of (drop k attributes) ≡ print_of (get_or attributes k no_attribute) ++ flat_map print_of (drop (k + 1) attributes)
  next_written k h = ap (flat_map print_of) (drop_more attributes k no_attribute (omega (arith, as_many)))

  module _ {S : Type 0} {R : S → S → List ℕ → Type 0} (law : IsAppending R) (start now next : S) where
    pub one_more_put : (k : ℕ) → k < length order → IsUnderway R start now (flat_map print_of (drop k attributes)) (flat_map print_of attributes) →
        IfSome (at (get_or order k 0)) (λ a. R now next (print_of a)) →
        IsUnderway R start next (flat_map print_of (drop (k + 1) attributes)) (flat_map print_of attributes)
    one_more_put k h so_far put =
        further law start now next (print_of (get_or attributes k no_attribute)) (flat_map print_of (drop (k + 1) attributes)) _ _ (next_written k h) so_far
        (subst (λ (o : Option Attribute). IfSome o (λ a. R now next (print_of a))) (attribute_found k h) put)

    pub one_put_partly : (k : ℕ) → k < length order → IsUnderway R start now (flat_map print_of (drop k attributes)) (flat_map print_of attributes) →
        IfSome (at (get_or order k 0)) (λ a. AppendsPart R now next (print_of a)) → AppendsPart R start next (flat_map print_of attributes)
    one_put_partly k h so_far put =
        broken_off law start now next (print_of (get_or attributes k no_attribute)) (flat_map print_of (drop (k + 1) attributes)) _ _ (next_written k h) so_far
        (subst (λ (o : Option Attribute). IfSome o (λ a. AppendsPart R now next (print_of a))) (attribute_found k h) put)

    pub all_put : (k : ℕ) → length order ≤ k → IsUnderway R start now (flat_map print_of (drop k attributes)) (flat_map print_of attributes) →
        R start now (flat_map print_of attributes)
    all_put k end so_far =
        complete law start now (flat_map print_of (drop k attributes)) (flat_map print_of attributes)
        (ap (flat_map print_of) (drop_all k attributes (omega (arith, as_many)))) so_far

-- the declarations of these prefixes
abbrev pub declared_in : Nodes → List Pair → List ℕ
declared_in tree wanted = flat_map print_binding (map (binding_placed tree) wanted)

module _ (tree : Nodes) (wanted : List Pair) (k : ℕ) (prefix : List ℕ) (place : NameAt) (namespace : List ℕ) (h : k < length wanted)
    (is : (d : Pair) → prefix ≡ (get_or wanted k d).0) (at : (d : Pair) → place ≡ (get_or wanted k d).1) (found : namespace_at tree place ≡ Some namespace) where
  next_declared : declared_in tree (drop k wanted)
      ≡ print_binding (record { prefix = prefix; namespace = namespace }) ++ declared_in tree (drop (k + 1) wanted)
  next_declared =
      let d : Pair = (prefix, place) in
      ap (declared_in tree) (drop_more wanted k d h)
      ∙ (λ i. print_binding (record { prefix = sym (is d) i; namespace = space_at tree (sym (at d) i) }) ++ declared_in tree (drop (k + 1) wanted))
      ∙ ap (λ o. print_binding (record { prefix = prefix; namespace = unwrap_or o [] }) ++ declared_in tree (drop (k + 1) wanted)) found

  module _ {S : Type 0} {R : S → S → List ℕ → Type 0} (law : IsAppending R) (start now next : S)
      (so_far : IsUnderway R start now (declared_in tree (drop k wanted)) (declared_in tree wanted)) where
    pub one_more_declared : R now next (print_binding (record { prefix = prefix; namespace = namespace })) →
        IsUnderway R start next (declared_in tree (drop (k + 1) wanted)) (declared_in tree wanted)
    one_more_declared put = further law start now next _ (declared_in tree (drop (k + 1) wanted)) _ _ next_declared so_far put

    pub one_declared_partly : AppendsPart R now next (print_binding (record { prefix = prefix; namespace = namespace })) →
        AppendsPart R start next (declared_in tree wanted)
    one_declared_partly put = broken_off law start now next _ (declared_in tree (drop (k + 1) wanted)) _ _ next_declared so_far put

pub all_declared : {S : Type 0} {R : S → S → List ℕ → Type 0} (law : IsAppending R) (tree : Nodes) (wanted : List Pair) (k : ℕ) (start now : S) →
    length wanted ≤ k → IsUnderway R start now (declared_in tree (drop k wanted)) (declared_in tree wanted) → R start now (declared_in tree wanted)
all_declared law tree wanted k start now end so_far =
    complete law start now (declared_in tree (drop k wanted)) (declared_in tree wanted) (ap (declared_in tree) (drop_all k wanted end)) so_far

-- what is rendered where the prefixes from number k on are
abbrev pub rendered_from : RenderedView → List Pair → ℕ → RenderedView
rendered_from start wanted k =
    record { tree = start.tree; levels = with_bindings (map (binding_placed start.tree) (drop k wanted)) start.levels }

pub none_rendered : (start : RenderedView) (wanted : List Pair) (k : ℕ) → k ≡ length wanted → start ≡ rendered_from start wanted k
none_rendered start wanted k end =
    ap (λ xs. record { tree = start.tree; levels = with_bindings (map (binding_placed start.tree) xs) start.levels })
    (sym (drop_all k wanted (omega arith)))

pub one_more_rendered : (start now new : RenderedView) (wanted : List Pair) (k next : ℕ) (prefix : List ℕ) (place : NameAt) → k < length wanted →
    next ≡ k + 1 → ((d : Pair) → prefix ≡ (get_or wanted k d).0) → ((d : Pair) → place ≡ (get_or wanted k d).1) →
    now ≡ rendered_from start wanted next →
    new ≡ record { tree = now.tree; levels = with_binding (binding_placed now.tree (prefix, place)) now.levels } →
    new ≡ rendered_from start wanted k
one_more_rendered start now new wanted k next prefix place h on is at so_far put =
    let d : Pair = (prefix, place) in
    put ∙ ap (λ (v : RenderedView). record { tree = v.tree; levels = with_binding (binding_placed v.tree (prefix, place)) v.levels }) so_far
    ∙ (λ i. record {
      tree = start.tree;
      levels = with_binding (binding_placed start.tree (is d i, at d i)) (with_bindings (map (binding_placed start.tree) (drop (on i) wanted)) start.levels);
    })
    ∙ ap (λ xs. record { tree = start.tree; levels = with_bindings (map (binding_placed start.tree) xs) start.levels }) (sym (drop_more wanted k d h))

pub rendered_level : (start now : RenderedView) (wanted : List Pair) (k : ℕ) → now ≡ rendered_from start wanted k →
    0 < length start.levels → 0 < length now.levels
rendered_level start now wanted k so_far h =
    omega (arith, ap (λ (v : RenderedView). length v.levels) so_far, length-with_bindings (map (binding_placed start.tree) (drop k wanted)) start.levels)

pub leads_to : (at : ℕ → Option Attribute) (seen order : List ℕ) (attributes : List Attribute) → seen ≡ order → map at order ≡ map Some attributes →
    LeadTo at seen attributes
leads_to at seen order attributes same found = record { found = ap (map at) same ∙ found }

-- what is said of the name and the value of an attribute
pub if_some_named : (o : Option Attribute) (P : List ℕ → List ℕ → Type 0) (name value : List ℕ) → IfSome o (λ a. name ≡ a.name) →
    IfSome o (λ a. value ≡ a.value) → P name value → IfSome o (λ a. P a.name a.value)
if_some_named None P name value named valued is = tt
if_some_named (Some a) P name value named valued is = subst (λ v. P a.name v) valued (subst (λ n. P n value) named is)

pub if_some_each : {X : Type 0} {P : X → Type 0} (o : Option X) → ((x : X) → P x) → IfSome o P
if_some_each None each = tt
if_some_each (Some x) each = each x

-- what is said of a text
pub if_some_text : (o : Option (List ℕ)) (P : List ℕ → Type 0) (text : List ℕ) → IfSome o (λ t. text ≡ t) → P text → IfSome o P
if_some_text None P text is p = tt
if_some_text (Some t) P text is p = subst P is p
