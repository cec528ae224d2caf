-- What is written of made nodes is their canonical form.
use Rattle.std.proofs.Common.{◌≡◌, ℕ, Bool, true, false, not, cond, ◌&&◌, List, [], ◌∷◌, ◌++◌, map, filter, codes, refl, sym, ap, ◌∙◌, append_assoc}
use Rattle.std.specs.List.{AllByRecursion, list_any}
use Rattle.std.specs.Str.{bytes_eq}
use Rattle.std.proofs.lemmas.List.Concat.{flat_map-append}
use Rattle.xml_spec.specs.Characters.{prefix_of}
use Rattle.xml_spec.specs.Tree.{Attribute, Nodes, NoNodes, Element, Text, Comment, Instruction, with_text}
use Rattle.xml_spec.specs.Names.{Binding, Scope, outermost, namespace_of, declarations, proper_attributes, inner_scope, attribute_name}
use Rattle.xml_spec.specs.Canonical.{byte_order, expanded_order, sorted, once, used_prefixes, is_rendered_anew, written_declarations, written_attributes, declaration_name, print_start, print_end, escape_text, escape_text_byte, canonical_nodes}
use Rattle.element_make.specs.declared.names.Ns.{Ns}
use Rattle.element_make.specs.declared.names.Ns.TheVariants.{Saml, Samlp, Ds, Md}
use Rattle.element_make.specs.declared.scope.Declared.{Declared}
use Rattle.element_make.specs.Prefixes.{prefix, namespace, same}
use Rattle.element_make.specs.Made.{Made, MadeNodes, NothingMade, MadeElement, MadeText, alone, qualified, nodes_of, written, IsMadeAttribute, AreMade, IsMade}
use Rattle.element_make.specs.Pieces.{Piece, StartPiece, EndPiece, pieces_before, pieces_of}
use Rattle.element_make.specs.Writing.{declares, nothing_declared, also_declared, Open, opened, by_name, binding, start_tag, end_tag, inside_of, written_pieces}
use Rattle.element_make.proofs.Plain.{non_empty, all_proper, no_declarations, no_prefixes, each_by_name, by_name_stays}

-- what is written of nodes inside elements that declare these namespaces
abbrev pub written_nodes : Declared → MadeNodes → List ℕ
written_nodes outside NothingMade = []
written_nodes outside (MadeElement ns local attributes kids rest) =
    start_tag outside ns local attributes ++ written_nodes (also_declared outside ns) kids ++ print_end (qualified ns local)
    ++ written_nodes outside rest
written_nodes outside (MadeText text rest) = escape_text text ++ written_nodes outside rest

regroup : (a b c d e : List ℕ) → (((a ++ b) ++ c) ++ d) ++ e ≡ a ++ (b ++ (c ++ (d ++ e)))
regroup a b c d e = simp append_assoc

-- what is written of their pieces, and then of others
pub written_before : (nodes : MadeNodes) (open_elements : List Open) (others : List Piece) →
    written_pieces open_elements (pieces_before nodes others) ≡ written_nodes (inside_of open_elements) nodes ++ written_pieces open_elements others
written_before NothingMade elements others = refl
written_before (MadeElement ns local attributes kids rest) elements others =
    let outside = inside_of elements in
    let start = start_tag outside ns local attributes in
    let element = opened outside ns local in
    ap (λ xs. start ++ xs)
    (written_before kids (element ∷ elements) (EndPiece ∷ pieces_before rest others)
    ∙ ap (λ xs. written_nodes (also_declared outside ns) kids ++ (end_tag element ++ xs)) (written_before rest elements others))
    ∙ sym (regroup start (written_nodes (also_declared outside ns) kids) (end_tag element) (written_nodes outside rest) (written_pieces elements others))
written_before (MadeText text rest) elements others =
    ap (λ xs. escape_text text ++ xs) (written_before rest elements others)
    ∙ sym (append_assoc (escape_text text) (written_nodes (inside_of elements) rest) (written_pieces elements others))

-- a namespace's name where it is declared, and else none
abbrev named : Declared → Ns → List ℕ
named flags ns = cond (declares flags ns) (namespace ns) []

-- the same namespaces are declared in each of these ways
pub record Agree (declared : List Ns) (flags : Declared) (scope : Scope) : Type 0 where
  pub listed : (ns : Ns) → declares flags ns ≡ list_any (same ns) declared
  pub bound : (ns : Ns) → namespace_of scope (prefix ns) ≡ named flags ns

-- the declaration of a namespace, but where there was one
abbrev pub given : Bool → Ns → List Attribute
given there ns = cond there [] (record { name = declaration_name (prefix ns); value = namespace ns } ∷ [])

abbrev pub added : Bool → Ns → List Binding
added there ns = cond there [] (binding ns ∷ [])

pub given_declares : (there : Bool) (ns : Ns) (attributes : List Attribute) → declarations (given there ns ++ attributes) ≡ added there ns ++ declarations attributes
given_declares true ns attributes = refl
given_declares false Saml attributes = refl
given_declares false Samlp attributes = refl
given_declares false Ds attributes = refl
given_declares false Md attributes = refl

given_proper : (there : Bool) (ns : Ns) (attributes : List Attribute) → proper_attributes (given there ns ++ attributes) ≡ proper_attributes attributes
given_proper true ns attributes = refl
given_proper false Saml attributes = refl
given_proper false Samlp attributes = refl
given_proper false Ds attributes = refl
given_proper false Md attributes = refl

pub prefix_is : (ns : Ns) (local : List ℕ) → prefix_of (qualified ns local) ≡ prefix ns
prefix_is Saml local = refl
prefix_is Samlp local = refl
prefix_is Ds local = refl
prefix_is Md local = refl

-- where a namespace was declared and is declared again, nothing changes
still_declared : (flags : Declared) (ns other : Ns) → declares flags ns ≡ true → declares (also_declared flags ns) other ≡ declares flags other
still_declared flags Saml Saml e = sym e
still_declared flags Saml Samlp e = refl
still_declared flags Saml Ds e = refl
still_declared flags Saml Md e = refl
still_declared flags Samlp Saml e = refl
still_declared flags Samlp Samlp e = sym e
still_declared flags Samlp Ds e = refl
still_declared flags Samlp Md e = refl
still_declared flags Ds Saml e = refl
still_declared flags Ds Samlp e = refl
still_declared flags Ds Ds e = sym e
still_declared flags Ds Md e = refl
still_declared flags Md Saml e = refl
still_declared flags Md Samlp e = refl
still_declared flags Md Ds e = refl
still_declared flags Md Md e = sym e

bound_inside : (flags : Declared) (scope : Scope) (ns other : Ns) → namespace_of scope (prefix other) ≡ named flags other →
    namespace_of (binding ns ∷ scope) (prefix other) ≡ named (also_declared flags ns) other
bound_inside flags scope Saml Saml h = refl
bound_inside flags scope Saml Samlp h = h
bound_inside flags scope Saml Ds h = h
bound_inside flags scope Saml Md h = h
bound_inside flags scope Samlp Saml h = h
bound_inside flags scope Samlp Samlp h = refl
bound_inside flags scope Samlp Ds h = h
bound_inside flags scope Samlp Md h = h
bound_inside flags scope Ds Saml h = h
bound_inside flags scope Ds Samlp h = h
bound_inside flags scope Ds Ds h = refl
bound_inside flags scope Ds Md h = h
bound_inside flags scope Md Saml h = h
bound_inside flags scope Md Samlp h = h
bound_inside flags scope Md Ds h = h
bound_inside flags scope Md Md h = refl

listed_inside : (declared : List Ns) (flags : Declared) (ns other : Ns) → declares flags other ≡ list_any (same other) declared →
    declares (also_declared flags ns) other ≡ list_any (same other) (ns ∷ declared)
listed_inside declared flags Saml Saml h = refl
listed_inside declared flags Saml Samlp h = h
listed_inside declared flags Saml Ds h = h
listed_inside declared flags Saml Md h = h
listed_inside declared flags Samlp Saml h = h
listed_inside declared flags Samlp Samlp h = refl
listed_inside declared flags Samlp Ds h = h
listed_inside declared flags Samlp Md h = h
listed_inside declared flags Ds Saml h = h
listed_inside declared flags Ds Samlp h = h
listed_inside declared flags Ds Ds h = refl
listed_inside declared flags Ds Md h = h
listed_inside declared flags Md Saml h = h
listed_inside declared flags Md Samlp h = h
listed_inside declared flags Md Ds h = h
listed_inside declared flags Md Md h = refl

-- inside an element
pub agree_inside : (declared : List Ns) (flags : Declared) (scope : Scope) (ns : Ns) (there : Bool) → declares flags ns ≡ there →
    Agree declared flags scope → Agree (ns ∷ declared) (also_declared flags ns) (added there ns ++ scope)
agree_inside declared flags scope ns true e agree = record {
  listed = λ other. listed_inside declared flags ns other (agree.listed other);
  bound = λ other. agree.bound other ∙ ap (λ t. cond t (namespace other) []) (sym (still_declared flags ns other e));
}
agree_inside declared flags scope ns false e agree = record {
  listed = λ other. listed_inside declared flags ns other (agree.listed other);
  bound = λ other. bound_inside flags scope ns other (agree.bound other);
}

now_declared : (flags : Declared) (ns : Ns) → declares (also_declared flags ns) ns ≡ true
now_declared flags Saml = refl
now_declared flags Samlp = refl
now_declared flags Ds = refl
now_declared flags Md = refl

-- an element's own namespace is bound inside it
pub bound_own : (declared : List Ns) (flags : Declared) (scope : Scope) (ns : Ns) → Agree declared (also_declared flags ns) scope →
    namespace_of scope (prefix ns) ≡ namespace ns
bound_own declared flags scope ns agree = agree.bound ns ∙ ap (λ t. cond t (namespace ns) []) (now_declared flags ns)

-- a prefix that is bound to its namespace is rendered anew where it was not declared
anew_as : (ns : Ns) (there : Bool) →
    (not (bytes_eq (prefix ns) (codes "xml")) && not (bytes_eq (namespace ns) (cond there (namespace ns) []))) ≡ not there
anew_as Saml true = refl
anew_as Saml false = refl
anew_as Samlp true = refl
anew_as Samlp false = refl
anew_as Ds true = refl
anew_as Ds false = refl
anew_as Md true = refl
anew_as Md false = refl

-- an element, with its declaration and its attributes in order
module _ (declared : List Ns) (flags : Declared) (scope rendered : Scope) (ns : Ns) (local : List ℕ) (attributes : List Attribute) (there : Bool)
    (e : declares flags ns ≡ there) (made : AllByRecursion IsMadeAttribute attributes) (agree : Agree declared flags scope) (agreed : Agree declared flags rendered) where
  made_by_name : AllByRecursion IsMadeAttribute (by_name attributes)
  made_by_name = each_by_name IsMadeAttribute attributes made

  abbrev pub all : List Attribute
  all = given there ns ++ by_name attributes

  pub inner_is : inner_scope all scope ≡ added there ns ++ scope
  inner_is =
      ap (λ bs. bs ++ scope) (given_declares there ns (by_name attributes) ∙ ap (λ bs. added there ns ++ bs) (no_declarations (by_name attributes) made_by_name))
      ∙ append_assoc (added there ns) [] scope

  pub proper_is : proper_attributes all ≡ by_name attributes
  proper_is = given_proper there ns (by_name attributes) ∙ all_proper (by_name attributes) made_by_name

  pub attributes_are : (inner : Scope) → written_attributes inner all ≡ by_name attributes
  attributes_are inner =
      ap (sorted (λ (a : Attribute) b. expanded_order (attribute_name inner a.name) (attribute_name inner b.name))) proper_is
      ∙ by_name_stays inner attributes made

  used : used_prefixes (qualified ns local) all ≡ prefix ns ∷ []
  used =
      ap (λ p. p ∷ non_empty (proper_attributes all)) (prefix_is ns local)
      ∙ ap (λ xs. prefix ns ∷ non_empty xs) proper_is
      ∙ ap (λ ps. prefix ns ∷ ps) (no_prefixes (by_name attributes) made_by_name)

  inside : (inner : Scope) → inner ≡ added there ns ++ scope → namespace_of inner (prefix ns) ≡ namespace ns
  inside inner is =
      ap (λ (s : Scope). namespace_of s (prefix ns)) is
      ∙ bound_own (ns ∷ declared) flags (added there ns ++ scope) ns (agree_inside declared flags scope ns there e agree)

  anew : (inner : Scope) → inner ≡ added there ns ++ scope → is_rendered_anew inner rendered (prefix ns) ≡ not there
  anew inner is =
      ap (λ n. not (bytes_eq (prefix ns) (codes "xml")) && not (bytes_eq n (namespace_of rendered (prefix ns)))) (inside inner is)
      ∙ ap (λ n. not (bytes_eq (prefix ns) (codes "xml")) && not (bytes_eq (namespace ns) n))
      (agreed.bound ns ∙ ap (λ t. cond t (namespace ns) []) e)
      ∙ anew_as ns there

  the_one : (t : Bool) (inner : Scope) → namespace_of inner (prefix ns) ≡ namespace ns →
      map (λ p. record { prefix = p; namespace = namespace_of inner p }) (cond (not t) (prefix ns ∷ []) []) ≡ added t ns
  the_one true inner is = refl
  the_one false inner is = ap (λ m. record { prefix = prefix ns; namespace = m } ∷ []) is

  pub declarations_are : (inner : Scope) → inner ≡ added there ns ++ scope → written_declarations [] inner rendered (qualified ns local) all ≡ added there ns
  declarations_are inner is =
      ap (λ ps. map (λ p. record { prefix = p; namespace = namespace_of inner p }) (filter (is_rendered_anew inner rendered) (sorted byte_order (once (ps ++ []))))) used
      ∙ ap (λ t. map (λ p. record { prefix = p; namespace = namespace_of inner p }) (cond t (prefix ns ∷ []) [])) (anew inner is)
      ∙ the_one there inner (inside inner is)

  -- what is written of it, where it is known what is written of its kids and of the nodes behind it
  pub element_form : (kids rest : Nodes) (k r : List ℕ) →
      ((inner written : Scope) → Agree (ns ∷ declared) (also_declared flags ns) inner → Agree (ns ∷ declared) (also_declared flags ns) written →
      canonical_nodes [] inner written kids ≡ k) →
      canonical_nodes [] scope rendered rest ≡ r →
      canonical_nodes [] scope rendered (Element (qualified ns local) all kids rest)
      ≡ start_tag flags ns local attributes ++ k ++ print_end (qualified ns local) ++ r
  element_form kids rest k r kids_are rest_is =
      let name = qualified ns local in
      let inner = inner_scope all scope in
      ap (λ (bs : List Binding). print_start name bs (written_attributes inner all) ++ canonical_nodes [] inner (bs ++ rendered) kids ++ print_end name ++ canonical_nodes [] scope rendered rest)
      (declarations_are inner inner_is)
      ∙ ap (λ xs. print_start name (added there ns) xs ++ canonical_nodes [] inner (added there ns ++ rendered) kids ++ print_end name ++ canonical_nodes [] scope rendered rest)
      (attributes_are inner)
      ∙ ap (λ (s : Scope). print_start name (added there ns) (by_name attributes) ++ canonical_nodes [] s (added there ns ++ rendered) kids ++ print_end name ++ canonical_nodes [] scope rendered rest)
      inner_is
      ∙ ap (λ xs. print_start name (added there ns) (by_name attributes) ++ xs ++ print_end name ++ canonical_nodes [] scope rendered rest)
      (kids_are (added there ns ++ scope) (added there ns ++ rendered) (agree_inside declared flags scope ns there e agree)
      (agree_inside declared flags rendered ns there e agreed))
      ∙ ap (λ xs. print_start name (added there ns) (by_name attributes) ++ k ++ print_end name ++ xs) rest_is
      ∙ ap (λ t. print_start name (cond t [] (binding ns ∷ [])) (by_name attributes) ++ k ++ print_end name ++ r) (sym e)

-- texts that meet are written one after the other
text_in_front : (scope rendered : Scope) (t : List ℕ) (nodes : Nodes) →
    canonical_nodes [] scope rendered (with_text t nodes) ≡ escape_text t ++ canonical_nodes [] scope rendered nodes
text_in_front scope rendered [] nodes = refl
text_in_front scope rendered (b ∷ t) NoNodes = refl
text_in_front scope rendered (b ∷ t) (Element name attributes kids rest) = refl
text_in_front scope rendered (b ∷ t) (Text other rest) =
    ap (λ xs. xs ++ canonical_nodes [] scope rendered rest) (flat_map-append escape_text_byte (b ∷ t) other)
    ∙ append_assoc (escape_text (b ∷ t)) (escape_text other) (canonical_nodes [] scope rendered rest)
text_in_front scope rendered (b ∷ t) (Comment other rest) = refl
text_in_front scope rendered (b ∷ t) (Instruction target value rest) = refl

-- the canonical form of nodes, where the scope and what was rendered are those of the elements outside
pub form_of_nodes : (nodes : MadeNodes) (declared : List Ns) (flags : Declared) (scope rendered : Scope) → AreMade nodes →
    Agree declared flags scope → Agree declared flags rendered → canonical_nodes [] scope rendered (nodes_of declared nodes) ≡ written_nodes flags nodes
form_of_nodes NothingMade declared flags scope rendered made agree agreed = refl
form_of_nodes (MadeElement ns local attributes kids rest) declared flags scope rendered made agree agreed =
    element_form declared flags scope rendered ns local attributes (list_any (same ns) declared) (agree.listed ns) made.1 agree agreed
    (nodes_of (ns ∷ declared) kids) (nodes_of declared rest) (written_nodes (also_declared flags ns) kids) (written_nodes flags rest)
    (λ inner written h k. form_of_nodes kids (ns ∷ declared) (also_declared flags ns) inner written made.3 h k)
    (form_of_nodes rest declared flags scope rendered made.4 agree agreed)
form_of_nodes (MadeText text rest) declared flags scope rendered made agree agreed =
    text_in_front scope rendered text (nodes_of declared rest)
    ∙ ap (λ xs. escape_text text ++ xs) (form_of_nodes rest declared flags scope rendered made.1 agree agreed)

-- outside the root
pub agree_outside : Agree [] nothing_declared outermost
agree_outside = record {
  listed = λ ns. elim ns as (λ n. declares nothing_declared n ≡ false) [ Saml ↦ refl | Samlp ↦ refl | Ds ↦ refl | Md ↦ refl ];
  bound = λ ns. elim ns as (λ n. namespace_of outermost (prefix n) ≡ named nothing_declared n) [ Saml ↦ refl | Samlp ↦ refl | Ds ↦ refl | Md ↦ refl ];
}

pub none_rendered : Agree [] nothing_declared []
none_rendered = record {
  listed = agree_outside.listed;
  bound = λ ns. elim ns as (λ n. namespace_of [] (prefix n) ≡ named nothing_declared n) [ Saml ↦ refl | Samlp ↦ refl | Ds ↦ refl | Md ↦ refl ];
}

ends_with_nothing : (a b c : List ℕ) → a ++ (b ++ (c ++ [])) ≡ a ++ b ++ c ++ []
ends_with_nothing a b c = sym (append_assoc a b (c ++ [])) ∙ sym (append_assoc (a ++ b) c [])

-- what is written of an element's pieces is its canonical form
pub pieces_written : (made : Made) → IsMade made →
    written_pieces [] (StartPiece made.ns made.local made.attributes ∷ pieces_of made.kids) ≡ written made
pieces_written made is =
    let start = start_tag nothing_declared made.ns made.local made.attributes in
    let element = opened nothing_declared made.ns made.local in
    ap (λ xs. start ++ xs) (written_before made.kids (element ∷ []) [])
    ∙ ends_with_nothing start (written_nodes (also_declared nothing_declared made.ns) made.kids) (end_tag element)
    ∙ sym (form_of_nodes (alone made) [] nothing_declared outermost [] is agree_outside none_rendered)
