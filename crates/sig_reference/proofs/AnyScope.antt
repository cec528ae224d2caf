-- The canonical form of made nodes is the same wherever they stand: of the elements around them it depends on what was rendered
-- there alone.
use Rattle.std.proofs.Common.{◌≡◌, ℕ, Bool, true, false, not, cond, ◌&&◌, List, [], ◌∷◌, ◌++◌, map, filter, codes, refl, sym, ap, ◌∙◌, append_assoc}
use Rattle.std.specs.List.{AllByRecursion, list_any}
use Rattle.std.specs.Str.{bytes_eq}
use Rattle.std.proofs.lemmas.List.Concat.{flat_map-append}
use Rattle.xml_spec.specs.Tree.{Attribute, Nodes, NoNodes, Element, Text, Comment, Instruction, with_text}
use Rattle.xml_spec.specs.Names.{Binding, Scope, outermost, namespace_of, proper_attributes, inner_scope, attribute_name}
use Rattle.xml_spec.specs.Canonical.{byte_order, expanded_order, sorted, once, used_prefixes, is_rendered_anew, written_declarations, written_attributes, print_start, print_end, escape_text, escape_text_byte, canonical_nodes}
use Rattle.element_make.specs.declared.names.Ns.{Ns}
use Rattle.element_make.specs.declared.names.Ns.TheVariants.{Saml, Samlp, Ds, Md}
use Rattle.element_make.specs.Prefixes.{prefix, namespace, same}
use Rattle.element_make.specs.Made.{Made, MadeNodes, NothingMade, MadeElement, MadeText, alone, qualified, declaration_in, nodes_of, written, IsMadeAttribute, AreMade, IsMade}
use Rattle.element_make.specs.Writing.{by_name}
use Rattle.element_make.proofs.Plain.{non_empty, no_prefixes, all_proper, each_by_name, by_name_stays}
use Rattle.element_make.proofs.Forms.{given, added, prefix_is}
use Rattle.sig_reference.proofs.MadeScopes.{Has, has_none, none_rendered, has_more, has_inside, own_bound}

-- what is written of nodes below elements that rendered these namespaces
abbrev pub form_below : List Ns → MadeNodes → List ℕ
form_below outside NothingMade = []
form_below outside (MadeElement ns local attributes kids rest) =
    print_start (qualified ns local) (added (list_any (same ns) outside) ns) (by_name attributes)
    ++ form_below (ns ∷ outside) kids ++ print_end (qualified ns local) ++ form_below outside rest
form_below outside (MadeText text rest) = escape_text text ++ form_below outside rest

declaration_passed : (there : Bool) (ns : Ns) (attributes : List Attribute) → proper_attributes (given there ns ++ attributes) ≡ proper_attributes attributes
declaration_passed true ns attributes = refl
declaration_passed false Saml attributes = refl
declaration_passed false Samlp attributes = refl
declaration_passed false Ds attributes = refl
declaration_passed false Md attributes = refl

-- a prefix that is bound to its namespace is rendered anew where it was not rendered
anew_as : (ns : Ns) (there : Bool) →
    (not (bytes_eq (prefix ns) (codes "xml")) && not (bytes_eq (namespace ns) (cond there (namespace ns) []))) ≡ not there
anew_as Saml true = refl
anew_as Saml false = refl
anew_as Samlp true = refl
anew_as Samlp false = refl
anew_as Ds true = refl
anew_as Ds false = refl
anew_as Md true = refl
anew_as Md false = refl

-- an element, with its declaration and its attributes in order
module _ (declared : List Ns) (scope : Scope) (has : Has declared scope) (ns : Ns) (local : List ℕ) (attributes : List Attribute) (made : AllByRecursion IsMadeAttribute attributes) where
  abbrev all : List Attribute
  all = declaration_in declared ns ++ by_name attributes

  abbrev inner : Scope
  inner = inner_scope all scope

  -- its attributes without the declaration
  pub proper_here : proper_attributes all ≡ by_name attributes
  proper_here =
      declaration_passed (list_any (same ns) declared) ns (by_name attributes)
      ∙ all_proper (by_name attributes) (each_by_name IsMadeAttribute attributes made)

  attributes_here : written_attributes inner all ≡ by_name attributes
  attributes_here =
      ap (sorted (λ (a : Attribute) b. expanded_order (attribute_name inner a.name) (attribute_name inner b.name))) proper_here
      ∙ by_name_stays inner attributes made

  bound_here : namespace_of inner (prefix ns) ≡ namespace ns
  bound_here = own_bound declared scope has ns attributes made

  used : used_prefixes (qualified ns local) all ≡ prefix ns ∷ []
  used =
      ap (λ p. p ∷ non_empty (proper_attributes all)) (prefix_is ns local)
      ∙ ap (λ xs. prefix ns ∷ non_empty xs) proper_here
      ∙ ap (λ ps. prefix ns ∷ ps) (no_prefixes (by_name attributes) (each_by_name IsMadeAttribute attributes made))

  the_one : (t : Bool) → map (λ p. record { prefix = p; namespace = namespace_of inner p }) (cond (not t) (prefix ns ∷ []) []) ≡ added t ns
  the_one true = refl
  the_one false = ap (λ n. record { prefix = prefix ns; namespace = n } ∷ []) bound_here

  -- below elements that rendered these namespaces
  module _ (outside : List Ns) (rendered : Scope) (had : Has outside rendered) where
    abbrev there : Bool
    there = list_any (same ns) outside

    anew : is_rendered_anew inner rendered (prefix ns) ≡ not there
    anew =
        ap (λ n. not (bytes_eq (prefix ns) (codes "xml")) && not (bytes_eq n (namespace_of rendered (prefix ns)))) bound_here
        ∙ ap (λ n. not (bytes_eq (prefix ns) (codes "xml")) && not (bytes_eq (namespace ns) n)) (had.bound ns)
        ∙ anew_as ns there

    declarations_here : written_declarations [] inner rendered (qualified ns local) all ≡ added there ns
    declarations_here =
        ap (λ ps. map (λ p. record { prefix = p; namespace = namespace_of inner p }) (filter (is_rendered_anew inner rendered) (sorted byte_order (once (ps ++ []))))) used
        ∙ ap (λ t. map (λ p. record { prefix = p; namespace = namespace_of inner p }) (cond t (prefix ns ∷ []) [])) anew
        ∙ the_one there

    -- what is written of it, where it is known what is written of its kids and of the nodes behind it
    element_form : (kids rest : Nodes) (k r : List ℕ) → canonical_nodes [] inner (added there ns ++ rendered) kids ≡ k →
        canonical_nodes [] scope rendered rest ≡ r →
        canonical_nodes [] scope rendered (Element (qualified ns local) all kids rest)
        ≡ print_start (qualified ns local) (added there ns) (by_name attributes) ++ k ++ print_end (qualified ns local) ++ r
    element_form kids rest k r kids_are rest_is =
        let name = qualified ns local in
        ap (λ (bs : List Binding). print_start name bs (written_attributes inner all) ++ canonical_nodes [] inner (bs ++ rendered) kids ++ print_end name ++ canonical_nodes [] scope rendered rest)
        declarations_here
        ∙ ap (λ xs. print_start name (added there ns) xs ++ canonical_nodes [] inner (added there ns ++ rendered) kids ++ print_end name ++ canonical_nodes [] scope rendered rest)
        attributes_here
        ∙ (λ i. print_start name (added there ns) (by_name attributes) ++ kids_are i ++ print_end name ++ rest_is i)

-- texts that meet are written one after the other
text_in_front : (scope rendered : Scope) (t : List ℕ) (nodes : Nodes) →
    canonical_nodes [] scope rendered (with_text t nodes) ≡ escape_text t ++ canonical_nodes [] scope rendered nodes
text_in_front scope rendered [] nodes = refl
text_in_front scope rendered (b ∷ t) NoNodes = refl
text_in_front scope rendered (b ∷ t) (Element name attributes kids rest) = refl
text_in_front scope rendered (b ∷ t) (Text other rest) =
    ap (λ xs. xs ++ canonical_nodes [] scope rendered rest) (flat_map-append escape_text_byte (b ∷ t) other)
    ∙ append_assoc (escape_text (b ∷ t)) (escape_text other) (canonical_nodes [] scope rendered rest)
text_in_front scope rendered (b ∷ t) (Comment other rest) = refl
text_in_front scope rendered (b ∷ t) (Instruction target value rest) = refl

pub form_of : (nodes : MadeNodes) (declared : List Ns) (scope : Scope) → Has declared scope → (outside : List Ns) (rendered : Scope) → Has outside rendered →
    AreMade nodes → canonical_nodes [] scope rendered (nodes_of declared nodes) ≡ form_below outside nodes
form_of NothingMade declared scope has outside rendered had made = refl
form_of (MadeElement ns local attributes kids rest) declared scope has outside rendered had made =
    element_form declared scope has ns local attributes made.1 outside rendered had
    (nodes_of (ns ∷ declared) kids) (nodes_of declared rest) (form_below (ns ∷ outside) kids) (form_below outside rest)
    (form_of kids (ns ∷ declared) (inner_scope (declaration_in declared ns ++ by_name attributes) scope) (has_inside declared scope has ns attributes made.1)
    (ns ∷ outside) (added (list_any (same ns) outside) ns ++ rendered) (has_more outside rendered had ns (list_any (same ns) outside) refl) made.3)
    (form_of rest declared scope has outside rendered had made.4)
form_of (MadeText text rest) declared scope has outside rendered had made =
    text_in_front scope rendered text (nodes_of declared rest)
    ∙ ap (λ xs. escape_text text ++ xs) (form_of rest declared scope has outside rendered had made.1)

-- the form of an element inside others is the one that it has as a root
pub same_form : (made : Made) (declared : List Ns) (scope : Scope) → Has declared scope → IsMade made →
    canonical_nodes [] scope [] (nodes_of declared (alone made)) ≡ written made
same_form made declared scope has is =
    form_of (alone made) declared scope has [] [] none_rendered is ∙ sym (form_of (alone made) [] outermost has_none [] [] none_rendered is)
