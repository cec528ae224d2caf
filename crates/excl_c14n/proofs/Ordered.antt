-- The numbers of an element's proper attributes, sorted by the attributes' expanded names.
use Rattle.std.proofs.Common.{◌≡◌, ℕ, zero, suc, ◌+◌, ◌-◌, ◌<◌, List, [], ◌∷◌, length, map, Bool, true, false, not, cond, filter, Option, Some, None, IsSome, IfSome, Bor, refl, sym, ap, ◌∙◌, subst, arith}
use Rattle.std.specs.List.{slice_get, range_with_len}
use Rattle.std.specs.Option.{option_map, option_map_or, option_and_then, is_some, unwrap_or}
use Rattle.std.specs.declared.cmp.Ordering.{Ordering}
use Rattle.xml_spec.specs.Tree.{Attribute, Nodes}
use Rattle.xml_spec.specs.Numbering.{from_node}
use Rattle.xml_spec.specs.Characters.{local_of}
use Rattle.xml_spec.specs.Names.{Scope, ExpandedName, outermost, inner_scope, xmlns_namespace, declared_prefix, is_declaration, proper_attributes, attribute_name}
use Rattle.xml_spec.specs.Canonical.{scope_at, expanded_order, inserted, sorted, written_attributes}
use Rattle.saml_tree.specs.Documents.{attributes_of}
use Rattle.saml_tree.specs.NodeNames.{ShownName, attribute_at, shown_attribute_name}
use Rattle.saml_tree.specs.declared.node.NodeNo.{NodeNo}
use Rattle.saml_tree.specs.declared.node.NameAt.TheVariants as places
use Rattle.saml_tree.specs.Elements.{attributes_in}
use Rattle.excl_c14n.specs.Pairs.{space_at}
use Rattle.excl_c14n.specs.NodeByNode.{scope_inside, attribute_name_of, attribute_order_in, number_order, is_proper_number}
use Rattle.excl_c14n.proofs.Sorting.{map-sorted}

-- the numbers from `from` up to the count whose attributes declare nothing, sorted
abbrev pub IsOrder : Scope → Nodes → ℕ → ℕ → ℕ → List ℕ → Type 0
IsOrder scope tree n count from order =
    order ≡ sorted (number_order scope tree n) (filter (is_proper_number tree n) (range_with_len from (count - from)))

-- there are so many attributes
abbrev pub HasCount : Nodes → ℕ → ℕ → Type 0
HasCount tree n count = option_map length (attributes_of (from_node tree n)) ≡ Some count

pub attribute_there : (tree : Nodes) (n count i : ℕ) → HasCount tree n count → i < count → IsSome (attribute_at tree n i)
attribute_there tree n count i counted h = which (attributes_of (from_node tree n)) counted
  where
    which : (o : Option (List Attribute)) → option_map length o ≡ Some count → IsSome (option_and_then (λ attributes. slice_get attributes i) o)
    which None e = absurd (let clash : None ≡ Some count = e in cc)
    which (Some attributes) e =
        let same : length attributes ≡ count = cc in
        let h' : i < length attributes = omega arith in
        attribute_at_place attributes i h'
      where
        attribute_at_place : (attributes : List Attribute) (i : ℕ) → i < length attributes → IsSome (slice_get attributes i)
        attribute_at_place [] i h = absurd (omega arith)
        attribute_at_place (a ∷ attributes) zero h = refl
        attribute_at_place (a ∷ attributes) (suc i) h = attribute_at_place attributes i (omega arith)

pub none_ordered : (scope : Scope) (tree : Nodes) (n count : ℕ) → IsOrder scope tree n count count []
none_ordered scope tree n count =
    let none : count - count ≡ 0 = omega arith in
    sym (ap (λ m. sorted (number_order scope tree n) (filter (is_proper_number tree n) (range_with_len count m))) none)

is_some_map : (o : Option (Bor (List ℕ))) → is_some (option_map (λ (p : Bor (List ℕ)). p.now) o) ≡ is_some o
is_some_map None = refl
is_some_map (Some p) = refl

-- what the test of attribute i says, of the prefix that it declares
proper_by : (o : Option Attribute) (declared : Option (List ℕ)) → IsSome o → IfSome o (λ a. declared ≡ declared_prefix a.name) →
    option_map_or (λ (a : Attribute). not (is_declaration a)) o false ≡ not (is_some declared)
proper_by None declared there is = absurd (let clash : false ≡ true = there in cc)
proper_by (Some a) declared there is = ap (λ p. not (is_some p)) (sym is)

in_front : (scope : Scope) (tree : Nodes) (n count i : ℕ) → i < count → (b : Bool) → is_proper_number tree n i ≡ b →
    sorted (number_order scope tree n) (filter (is_proper_number tree n) (range_with_len i (count - i)))
    ≡ sorted (number_order scope tree n) (cond b (i ∷ filter (is_proper_number tree n) (range_with_len (i + 1) (count - (i + 1))))
    (filter (is_proper_number tree n) (range_with_len (i + 1) (count - (i + 1)))))
in_front scope tree n count i h b is =
    let more : count - i ≡ suc (count - (i + 1)) = omega arith in
    ap (λ m. sorted (number_order scope tree n) (filter (is_proper_number tree n) (range_with_len i m))) more
    ∙ ap (λ t. sorted (number_order scope tree n) (cond t (i ∷ filter (is_proper_number tree n) (range_with_len (i + 1) (count - (i + 1))))
    (filter (is_proper_number tree n) (range_with_len (i + 1) (count - (i + 1)))))) is

pub one_more_ordered : (scope : Scope) (tree : Nodes) (n count i next : ℕ) (order new : List ℕ) (declared : Option (Bor (List ℕ))) →
    i < count → next ≡ i + 1 → IsSome (attribute_at tree n i) →
    IfSome (attribute_at tree n i) (λ a. option_map (λ (p : Bor (List ℕ)). p.now) declared ≡ declared_prefix a.name) → is_some declared ≡ false →
    IsOrder scope tree n count next order → new ≡ inserted (number_order scope tree n) i order → IsOrder scope tree n count i new
one_more_ordered scope tree n count i next order new declared h on there known none is put =
    put ∙ ap (inserted (number_order scope tree n) i) (subst (λ (k : ℕ). IsOrder scope tree n count k order) on is)
    ∙ sym (in_front scope tree n count i h true (proper_by (attribute_at tree n i) (option_map (λ (p : Bor (List ℕ)). p.now) declared) there known
    ∙ ap not (is_some_map declared ∙ none)))

pub one_passed : (scope : Scope) (tree : Nodes) (n count i next : ℕ) (order : List ℕ) (declared : Option (Bor (List ℕ))) →
    i < count → next ≡ i + 1 → IsSome (attribute_at tree n i) →
    IfSome (attribute_at tree n i) (λ a. option_map (λ (p : Bor (List ℕ)). p.now) declared ≡ declared_prefix a.name) → is_some declared ≡ true →
    IsOrder scope tree n count next order → IsOrder scope tree n count i order
one_passed scope tree n count i next order declared h on there known some is =
    subst (λ (k : ℕ). IsOrder scope tree n count k order) on is
    ∙ sym (in_front scope tree n count i h false (proper_by (attribute_at tree n i) (option_map (λ (p : Bor (List ℕ)). p.now) declared) there known
    ∙ ap not (is_some_map declared ∙ some)))

all_numbers : (at : ℕ → Option Attribute) (attributes : List Attribute) (a : ℕ) →
    ((j : ℕ) → j < length attributes → at (a + j) ≡ slice_get attributes j) →
    map at (range_with_len a (length attributes)) ≡ map Some attributes
all_numbers at [] a each = refl
all_numbers at (x ∷ attributes) a each =
    let here : a + 0 ≡ a = omega arith in
    (λ i. (ap at (sym here) ∙ each 0 (omega arith)) i
    ∷ all_numbers at attributes (a + 1) (λ j h. (let next : a + 1 + j ≡ a + suc j = omega arith in ap at next) ∙ each (suc j) (omega arith)) i)

-- what is found at a number is a proper attribute
abbrev is_proper_found : Option Attribute → Bool
is_proper_found o = option_map_or (λ (a : Attribute). not (is_declaration a)) o false

-- the order of what is found at the numbers
abbrev found_order : Scope → Option Attribute → Option Attribute → Ordering
found_order scope o p =
    expanded_order (attribute_name scope (option_map_or (λ (a : Attribute). a.name) o []))
    (attribute_name scope (option_map_or (λ (a : Attribute). a.name) p []))

map-filter : {X Y : Type 0} (f : X → Y) (test : X → Bool) (other : Y → Bool) → ((x : X) → test x ≡ other (f x)) → (xs : List X) →
    map f (filter test xs) ≡ filter other (map f xs)
map-filter f test other same [] = refl
map-filter f test other same (x ∷ xs) =
    which (test x) (map-filter f test other same xs)
    ∙ ap (λ b. cond b (f x ∷ filter other (map f xs)) (filter other (map f xs))) (same x)
  where
    which : (b : Bool) → map f (filter test xs) ≡ filter other (map f xs) →
        map f (cond b (x ∷ filter test xs) (filter test xs)) ≡ cond b (f x ∷ filter other (map f xs)) (filter other (map f xs))
    which true later = ap (λ ys. f x ∷ ys) later
    which false later = later

pub all_ordered : (scope : Scope) (tree : Nodes) (n count from : ℕ) (order : List ℕ) → HasCount tree n count → IsOrder scope tree n count from order →
    from ≡ 0 →
    map (attribute_at tree n) order ≡ map Some (written_attributes scope (attributes_in (from_node tree n)))
all_ordered scope tree n count from order counted is first = which (attributes_of (from_node tree n)) refl counted
  where
    which : (o : Option (List Attribute)) → attributes_of (from_node tree n) ≡ o → option_map length o ≡ Some count →
        map (attribute_at tree n) order ≡ map Some (written_attributes scope (unwrap_or o []))
    which None here e = absurd (let clash : None ≡ Some count = e in cc)
    which (Some attributes) here e =
        let same : length attributes ≡ count = cc in
        let all : count - from ≡ length attributes = omega arith in
        ap (map (attribute_at tree n)) (is ∙ (λ i. sorted (number_order scope tree n) (filter (is_proper_number tree n) (range_with_len (first i) (all i)))))
        ∙ map-sorted (attribute_at tree n) (number_order scope tree n) (found_order scope)
        (λ i j. refl) (filter (is_proper_number tree n) (range_with_len 0 (length attributes)))
        ∙ ap (sorted (found_order scope))
        (map-filter (attribute_at tree n) (is_proper_number tree n) is_proper_found (λ i. refl) (range_with_len 0 (length attributes))
        ∙ ap (filter is_proper_found)
        (all_numbers (attribute_at tree n) attributes 0
        (λ j h. (let same : 0 + j ≡ j = omega arith in ap (attribute_at tree n) same) ∙ ap (option_and_then (λ attributes. slice_get attributes j)) here))
        ∙ sym (map-filter Some (λ (a : Attribute). not (is_declaration a)) is_proper_found (λ a. refl) attributes))
        ∙ sym (map-sorted Some (attribute_order_in scope) (found_order scope)
        (λ a b. refl) (proper_attributes attributes))

-- the expanded name of an attribute that declares nothing, by its place and its local part
pub expanded_attribute : (tree : Nodes) (n : NodeNo) (i : ℕ) (local : List ℕ) → IsSome (attribute_at tree n.0 i) →
    IfSome (attribute_at tree n.0 i) (λ a. declared_prefix a.name ≡ None) → IfSome (attribute_at tree n.0 i) (λ a. local ≡ local_of a.name) →
    let named : ExpandedName = record { namespace = space_at tree (places.Attribute n i); local = local } in
    named ≡ attribute_name (scope_inside tree n.0) (attribute_name_of tree n.0 i)
expanded_attribute tree n i local there proper part = which (attributes_of (from_node tree n.0)) there proper part
  where
    which : (o : Option (List Attribute)) → IsSome (option_and_then (λ attributes. slice_get attributes i) o) →
        IfSome (option_and_then (λ attributes. slice_get attributes i) o) (λ a. declared_prefix a.name ≡ None) →
        IfSome (option_and_then (λ attributes. slice_get attributes i) o) (λ a. local ≡ local_of a.name) →
        let named : ExpandedName = record {
          namespace =
              unwrap_or (option_map (λ (name : ShownName). name.namespace)
              (option_and_then (λ attributes. option_map (shown_attribute_name (inner_scope attributes (scope_at outermost tree n.0))) (slice_get attributes i)) o)) [];
          local = local;
        } in
        named ≡ attribute_name (inner_scope (unwrap_or o []) (scope_at outermost tree n.0))
        (option_map_or (λ (a : Attribute). a.name) (option_and_then (λ attributes. slice_get attributes i) o) [])
    which None there proper part = absurd (let clash : false ≡ true = there in cc)
    which (Some attributes) there proper part = at (slice_get attributes i) there proper part
      where
        at : (o : Option Attribute) → IsSome o → IfSome o (λ a. declared_prefix a.name ≡ None) → IfSome o (λ a. local ≡ local_of a.name) →
            let inner = inner_scope attributes (scope_at outermost tree n.0) in
            let named : ExpandedName = record {
              namespace = unwrap_or (option_map (λ (name : ShownName). name.namespace) (option_map (shown_attribute_name inner) o)) [];
              local = local;
            } in
            named ≡ attribute_name inner (option_map_or (λ (a : Attribute). a.name) o [])
        at None there proper part = absurd (let clash : false ≡ true = there in cc)
        at (Some a) there proper part =
            let inner = inner_scope attributes (scope_at outermost tree n.0) in
            λ j. record {
              namespace = cond (is_some (proper j)) xmlns_namespace (attribute_name inner a.name).namespace;
              local = part j;
            }
