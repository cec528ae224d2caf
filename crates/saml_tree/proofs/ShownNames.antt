-- The names that are shown of a node, by the namespaces that are kept.
use Rattle.std.proofs.Common.{◌≡◌, ℕ, zero, suc, ◌+◌, ◌<◌, true, false, cond, List, [], ◌∷◌, length, get_or, map, take, drop, Option, Some, None, is_some, IsSome, refl, sym, ap, ◌∙◌, subst, arith}
use Rattle.std.specs.List.{slice_get}
use Rattle.std.specs.Option.{option_map, option_map_or, option_and_then, unwrap_or}
use Rattle.std.proofs.lemmas.Option.{slice_get-map, slice_get_within}
use Rattle.xml_spec.specs.Tree.{Attribute, Nodes, NoNodes, Element, Text, Comment, Instruction}
use Rattle.xml_spec.specs.Numbering.{from_node, size}
use Rattle.xml_spec.specs.Names.{Scope, outermost, inner_scope, element_name, attribute_name, namespace_of, declared_prefix, is_declaration, xmlns_namespace, HasNames}
use Rattle.xml_spec.specs.Canonical.{scope_at}
use Rattle.saml_tree.specs.Documents.{kind_of, attributes_of}
use Rattle.saml_tree.specs.Elements.{attributes_in}
use Rattle.saml_tree.specs.NodeNames.{ShownName, shown, shown_name, name_at, attribute_at, shown_attribute_name, attribute_name_at}
use Rattle.tree_rows.specs.Rows.{Shape, ElementShape, TextShape, CommentShape, InstructionShape, Row, node, nodes_at, no_row}
use Rattle.tree_rows.specs.Shaped.{IsShaped}
use Rattle.element_names.specs.Named.{kept_namespace, numbers_from}
use Rattle.saml_tree.specs.Resolved.{IsNamedShape, IsResolvedShape, AreResolved, kept_of_element, kept_of_attribute}
use Rattle.saml_tree.specs.declared.node.NodeKind.TheVariants as kinds
use Rattle.element_names.specs.declared.names.RowNames.{RowNames}
use Rattle.saml_tree.specs.declared.names.Names.{Names}
use Rattle.saml_tree.proofs.Nodes.{in_tree, in_tree_by_attributes}
use Rattle.saml_tree.proofs.Rows.{size_is, node_is}
use Rattle.saml_tree.proofs.Scopes.{row_has_names}
use Rattle.saml_tree.proofs.Declared.{AreOnce}

abbrev space_of : ShownName → List ℕ
space_of name = name.namespace

-- an element of a list
there : {X : Type 0} (xs : List X) (k : ℕ) → k < length xs → (x : X) × (slice_get xs k ≡ Some x) × ((d : X) → get_or xs k d ≡ x)
there [] k h = absurd (omega arith)
there (x ∷ xs) zero h = (x, refl, λ d. refl)
there (x ∷ xs) (suc k) h = there xs k (omega arith)

-- what is kept of a row that is an element
shape_namespace : (table : List (List ℕ)) (numbers : List ℕ) (scope : Scope) (shape : Shape) (kids rest : Nodes) (names : RowNames) →
    kind_of (node shape kids rest) ≡ Some kinds.Element → IsResolvedShape table numbers scope shape names →
    slice_get table names.element ≡ option_map space_of (shown_name scope (node shape kids rest))
shape_namespace table numbers scope (ElementShape name attributes) kids rest names e h = h.element
shape_namespace table numbers scope (TextShape text) kids rest names e h = absurd (let clash : Some kinds.Text ≡ Some kinds.Element = e in cc)
shape_namespace table numbers scope (CommentShape text) kids rest names e h = absurd (let clash : Some kinds.Comment ≡ Some kinds.Element = e in cc)
shape_namespace table numbers scope (InstructionShape target value) kids rest names e h = absurd (let clash : Some kinds.Instruction ≡ Some kinds.Element = e in cc)

joined : (o : Option ℕ) (f : ℕ → Option (List ℕ)) (y : List ℕ) → option_map f o ≡ Some (Some y) → option_and_then f o ≡ Some y
joined None f y h = absurd (let clash : None ≡ Some (Some y) = h in cc)
joined (Some n) f y h = (let pair : Some (f n) ≡ Some (Some y) = h in cc)

number_found : (from count i : ℕ) (numbers : List ℕ) → i < count → slice_get (numbers_from numbers from count) i ≡ slice_get numbers (from + i)
number_found zero count i numbers h = let same : i ≡ 0 + i = omega arith in taken_found count i numbers h ∙ ap (slice_get numbers) same
  where
    taken_found : (count i : ℕ) (numbers : List ℕ) → i < count → slice_get (take count numbers) i ≡ slice_get numbers i
    taken_found zero i numbers h = absurd (omega arith)
    taken_found (suc count) i [] h = refl
    taken_found (suc count) zero (n ∷ numbers) h = refl
    taken_found (suc count) (suc i) (n ∷ numbers) h = taken_found count i numbers (omega arith)
number_found (suc from) zero i [] h = absurd (omega arith)
number_found (suc from) (suc count) i [] h = refl
number_found (suc from) count i (n ∷ numbers) h =
    let same : suc (from + i) ≡ suc from + i = omega arith in number_found from count i numbers h ∙ ap (slice_get (n ∷ numbers)) same

found_attribute : (table : List (List ℕ)) (f : Attribute → List ℕ) (attributes : List Attribute) (numbers : List ℕ) (from i : ℕ) (o : Option Attribute) →
    slice_get attributes i ≡ o → IsSome o → map (slice_get table) (numbers_from numbers from (length attributes)) ≡ map (λ a. Some (f a)) attributes →
    option_and_then (slice_get table) (slice_get numbers (from + i)) ≡ option_map f o
found_attribute table f attributes numbers from i None e some h = absurd (let clash : false ≡ true = some in cc)
found_attribute table f attributes numbers from i (Some a) e some h =
    let own : List ℕ = numbers_from numbers from (length attributes) in
    ap (option_and_then (slice_get table)) (sym (number_found from (length attributes) i numbers (slice_get_within attributes i a e)))
    ∙ joined (slice_get own i) (slice_get table) (f a)
    (sym (slice_get-map (slice_get table) own i) ∙ ap (λ list. slice_get list i) h ∙ slice_get-map (λ x. Some (f x)) attributes i ∙ ap (option_map (λ x. Some (f x))) e)

-- what is kept of an attribute that declares nothing is the namespace of its name
pub proper_kept : (scope : Scope) (o : Option Attribute) → option_map_or is_declaration o false ≡ false →
    option_map (kept_namespace scope) o ≡ option_map space_of (option_map (shown_attribute_name scope) o)
proper_kept scope None h = refl
proper_kept scope (Some a) h = by_case (declared_prefix a.name) h
  where
    by_case : (p : Option (List ℕ)) → is_some p ≡ false →
        Some (option_map_or (namespace_of scope) p (attribute_name scope a.name).namespace) ≡ Some (cond (is_some p) xmlns_namespace (attribute_name scope a.name).namespace)
    by_case None e = refl
    by_case (Some p) e = absurd (let clash : true ≡ false = e in cc)

-- the name of a declaration is in the namespace of xmlns
pub declaration_named : (scope : Scope) (o : Option Attribute) → option_map_or is_declaration o false ≡ true →
    Some xmlns_namespace ≡ option_map space_of (option_map (shown_attribute_name scope) o)
declaration_named scope None h = absurd (let clash : false ≡ true = h in cc)
declaration_named scope (Some a) h = ap (λ b. Some (cond b xmlns_namespace (attribute_name scope a.name).namespace)) (sym h)

abbrev attribute_in : Nodes → ℕ → Option Attribute
attribute_in nodes i = option_and_then (λ attributes. slice_get attributes i) (attributes_of nodes)

shape_attribute_namespace : (table : List (List ℕ)) (numbers : List ℕ) (scope : Scope) (shape : Shape) (kids rest : Nodes) (names : RowNames) (i : ℕ) →
    IsSome (attribute_in (node shape kids rest) i) → IsResolvedShape table numbers scope shape names →
    option_and_then (slice_get table) (slice_get numbers (names.from + i))
    ≡ option_map (kept_namespace (inner_scope (attributes_in (node shape kids rest)) scope)) (attribute_in (node shape kids rest) i)
shape_attribute_namespace table numbers scope (ElementShape name attributes) kids rest names i some h =
    found_attribute table (kept_namespace (inner_scope attributes scope)) attributes numbers names.from i (slice_get attributes i) refl some h.each_attribute
shape_attribute_namespace table numbers scope (TextShape text) kids rest names i some h = absurd (let clash : false ≡ true = some in cc)
shape_attribute_namespace table numbers scope (CommentShape text) kids rest names i some h = absurd (let clash : false ≡ true = some in cc)
shape_attribute_namespace table numbers scope (InstructionShape target value) kids rest names i some h = absurd (let clash : false ≡ true = some in cc)

-- the names of a row that keep the rules declare no prefix twice
shape_once : (scope : Scope) (shape : Shape) (kids rest : Nodes) → IsNamedShape scope shape → AreOnce (attributes_in (node shape kids rest))
shape_once scope (ElementShape name attributes) kids rest h = h.prefixes_once
shape_once scope (TextShape text) kids rest h = tt
shape_once scope (CommentShape text) kids rest h = tt
shape_once scope (InstructionShape target value) kids rest h = tt

-- the scope inside a node, with its own declarations
abbrev pub inside : Nodes → ℕ → Scope
inside tree k = inner_scope (attributes_in (from_node tree k)) (scope_at outermost tree k)

module _ (rows : List Row) (names : Names) (tree : Nodes) (shaped : IsShaped rows) (resolved : AreResolved rows names) (is : nodes_at 0 rows ≡ tree) where
  in_rows : (k : ℕ) → k < size tree → k < length rows
  in_rows k h = omega (arith, size_is rows shaped, ap size is)

  row_node : (k : ℕ) → k < length rows →
      from_node tree k ≡ node (get_or rows k no_row).shape (nodes_at (suc (get_or rows k no_row).depth) (drop (suc k) rows)) (nodes_at (get_or rows k no_row).depth (drop (suc k) rows))
  row_node k less = ap (λ t. from_node t k) (sym is) ∙ node_is rows shaped k less

  row_resolved : (k : ℕ) (found : RowNames) → ((d : RowNames) → get_or names.rows.items k d ≡ found) → k < length rows →
      IsResolvedShape names.table names.attributes.items (scope_at outermost tree k) (get_or rows k no_row).shape found
  row_resolved k found at less =
      subst (λ t. IsResolvedShape names.table names.attributes.items (scope_at outermost t k) (get_or rows k no_row).shape found) is
      (subst (IsResolvedShape names.table names.attributes.items (scope_at outermost (nodes_at 0 rows) k) (get_or rows k no_row).shape) (at found) (resolved.each k found less).leads)

  pub namespace_kept : (k : ℕ) → kind_of (from_node tree k) ≡ Some kinds.Element → kept_of_element names k ≡ option_map space_of (name_at tree k)
  namespace_kept k e =
      let less = in_rows k (in_tree tree k (ap is_some e)) in
      let found = there names.rows.items k (omega (arith, resolved.count)) in
      let scope = scope_at outermost tree k in
      let row = get_or rows k no_row in
      let kids = nodes_at (suc row.depth) (drop (suc k) rows) in
      let rest = nodes_at row.depth (drop (suc k) rows) in
      let here = row_node k less in
      ap (option_and_then (λ (r : RowNames). slice_get names.table r.element)) found.1
      ∙ shape_namespace names.table names.attributes.items scope row.shape kids rest found.0 (sym (ap kind_of here) ∙ e)
      (row_resolved k found.0 found.2 less)
      ∙ ap (λ nodes. option_map space_of (shown_name scope nodes)) (sym here)

  pub attribute_namespace_kept : (k i : ℕ) → IsSome (attribute_at tree k i) →
      kept_of_attribute names k i ≡ option_map (kept_namespace (inside tree k)) (attribute_at tree k i)
  attribute_namespace_kept k i some =
      let less = in_rows k (in_tree_by_attributes tree k (some_attributes (attributes_of (from_node tree k)) some)) in
      let found = there names.rows.items k (omega (arith, resolved.count)) in
      let scope = scope_at outermost tree k in
      let row = get_or rows k no_row in
      let kids = nodes_at (suc row.depth) (drop (suc k) rows) in
      let rest = nodes_at row.depth (drop (suc k) rows) in
      let here = row_node k less in
      ap (option_and_then (λ (r : RowNames). option_and_then (slice_get names.table) (slice_get names.attributes.items (r.from + i)))) found.1
      ∙ shape_attribute_namespace names.table names.attributes.items scope row.shape kids rest found.0 i
      (subst (λ nodes. IsSome (attribute_in nodes i)) here some) (row_resolved k found.0 found.2 less)
      ∙ ap (λ nodes. option_map (kept_namespace (inner_scope (attributes_in nodes) scope)) (attribute_in nodes i)) (sym here)
    where
      some_attributes : (o : Option (List Attribute)) → IsSome (option_and_then (λ attributes. slice_get attributes i) o) → IsSome o
      some_attributes None h = h
      some_attributes (Some attributes) h = refl

  pub declared_once : (k : ℕ) → HasNames tree → k < size tree → AreOnce (attributes_in (from_node tree k))
  declared_once k named there =
      let less = in_rows k there in
      subst (λ nodes. AreOnce (attributes_in nodes)) (sym (row_node k less))
      (shape_once _ (get_or rows k no_row).shape _ _ (row_has_names rows k shaped (subst HasNames (sym is) named) less))

-- the name of an attribute, by the attributes of its node
pub attribute_name_is : (tree : Nodes) (k i : ℕ) →
    attribute_name_at tree k i ≡ option_map (shown_attribute_name (inside tree k)) (attribute_at tree k i)
attribute_name_is tree k i = by_case (attributes_of (from_node tree k))
  where
    by_case : (o : Option (List Attribute)) →
        option_and_then (λ attributes. option_map (shown_attribute_name (inner_scope attributes (scope_at outermost tree k))) (slice_get attributes i)) o
        ≡ option_map (shown_attribute_name (inner_scope (unwrap_or o []) (scope_at outermost tree k))) (option_and_then (λ attributes. slice_get attributes i) o)
    by_case None = refl
    by_case (Some attributes) = refl

-- an attribute stands among those of its node
pub attribute_is : (tree : Nodes) (k i : ℕ) → slice_get (attributes_in (from_node tree k)) i ≡ attribute_at tree k i
attribute_is tree k i = by_case (attributes_of (from_node tree k))
  where
    by_case : (o : Option (List Attribute)) → slice_get (unwrap_or o []) i ≡ option_and_then (λ attributes. slice_get attributes i) o
    by_case None = refl
    by_case (Some attributes) = refl

-- a name with the namespace that was found
some_name : (name space : List ℕ) (o : Option ShownName) (x : List ℕ) → o ≡ Some (shown name x) → option_map space_of o ≡ Some space → o ≡ Some (shown name space)
some_name name space o x is h =
    let both : Some x ≡ Some space = sym (ap (option_map space_of) is) ∙ h in
    let same : x ≡ space = cc in
    is ∙ ap (λ s. Some (shown name s)) same

pub element_named : (tree : Nodes) (k : ℕ) (shape : Shape) (kids rest : Nodes) (name space : List ℕ) (attributes : List Attribute) →
    from_node tree k ≡ node shape kids rest → shape ≡ ElementShape name attributes → option_map space_of (name_at tree k) ≡ Some space →
    name_at tree k ≡ Some (shown name space)
element_named tree k shape kids rest name space attributes here is h =
    let scope = scope_at outermost tree k in
    some_name name space (name_at tree k) (element_name (inner_scope attributes scope) name).namespace
    (ap (shown_name scope) (here ∙ ap (λ s. node s kids rest) is)) h

attribute_named_in : (scope : Scope) (o : Option (List Attribute)) (i : ℕ) (a : Attribute) →
    option_and_then (λ attributes. slice_get attributes i) o ≡ Some a →
    (x : List ℕ) × (option_and_then (λ attributes. option_map (shown_attribute_name (inner_scope attributes scope)) (slice_get attributes i)) o ≡ Some (shown a.name x))
attribute_named_in scope None i a h = absurd (let clash : None ≡ Some a = h in cc)
attribute_named_in scope (Some attributes) i a h =
    ((shown_attribute_name (inner_scope attributes scope) a).namespace, ap (option_map (shown_attribute_name (inner_scope attributes scope))) h)

pub attribute_named : (tree : Nodes) (k i : ℕ) (a : Attribute) (space : List ℕ) → attribute_at tree k i ≡ Some a →
    option_map space_of (attribute_name_at tree k i) ≡ Some space → attribute_name_at tree k i ≡ Some (shown a.name space)
attribute_named tree k i a space found h =
    let x = attribute_named_in (scope_at outermost tree k) (attributes_of (from_node tree k)) i a found in
    some_name a.name space (attribute_name_at tree k i) x.0 x.1 h

-- what is shown is there
pub shown_element : (tree : Nodes) (k : ℕ) → kind_of (from_node tree k) ≡ Some kinds.Element → IsSome (option_map space_of (name_at tree k))
shown_element tree k e = by_case (from_node tree k) e
  where
    by_case : (nodes : Nodes) → kind_of nodes ≡ Some kinds.Element → IsSome (option_map space_of (shown_name (scope_at outermost tree k) nodes))
    by_case NoNodes f = absurd (let clash : None ≡ Some kinds.Element = f in cc)
    by_case (Element name attributes kids rest) f = refl
    by_case (Text text rest) f = absurd (let clash : Some kinds.Text ≡ Some kinds.Element = f in cc)
    by_case (Comment text rest) f = absurd (let clash : Some kinds.Comment ≡ Some kinds.Element = f in cc)
    by_case (Instruction target value rest) f = absurd (let clash : Some kinds.Instruction ≡ Some kinds.Element = f in cc)

pub shown_attribute : (tree : Nodes) (k i : ℕ) → IsSome (attribute_at tree k i) → IsSome (option_map space_of (attribute_name_at tree k i))
shown_attribute tree k i some = by_case (attributes_of (from_node tree k)) some
  where
    by_found : (attributes : List Attribute) (o : Option Attribute) → IsSome o →
        IsSome (option_map space_of (option_map (shown_attribute_name (inner_scope attributes (scope_at outermost tree k))) o))
    by_found attributes None h = h
    by_found attributes (Some a) h = refl

    by_case : (o : Option (List Attribute)) → IsSome (option_and_then (λ attributes. slice_get attributes i) o) →
        IsSome (option_map space_of (option_and_then (λ attributes. option_map (shown_attribute_name (inner_scope attributes (scope_at outermost tree k))) (slice_get attributes i)) o))
    by_case None h = h
    by_case (Some attributes) h = by_found attributes (slice_get attributes i) h

-- an element has as many attributes as are counted
some_there : {X : Type 0} (xs : List X) (i : ℕ) → i < length xs → IsSome (slice_get xs i)
some_there [] i h = absurd (omega arith)
some_there (x ∷ xs) zero h = refl
some_there (x ∷ xs) (suc i) h = some_there xs i (omega arith)

pub attribute_there : (o : Option (List Attribute)) (n i : ℕ) → option_map length o ≡ Some n → i < n →
    IsSome (option_and_then (λ attributes. slice_get attributes i) o)
attribute_there None n i count h = absurd (let clash : None ≡ Some n = count in cc)
attribute_there (Some attributes) n i count h =
    let both : Some (length attributes) ≡ Some n = count in
    let same : length attributes ≡ n = cc in
    some_there attributes i (omega arith)
