-- Places of a document, and the namespaces that they speak of.
use Rattle.std.proofs.Common.{◌≡◌, ℕ, true, false, cond, eqb, List, [], ◌∷◌, length, Option, Some, None, IsSome, IfSome, Bor, refl, sym, ap, ◌∙◌, arith}
use Rattle.std.specs.Option.{option_map, option_and_then, is_some, unwrap_or}
use Rattle.std.proofs.lemmas.List.{append-nil}
use Rattle.std.proofs.lemmas.Bool.{ne_eqb}
use Rattle.xml_spec.specs.Bytes.{is_empty}
use Rattle.xml_spec.specs.Characters.{prefix_of}
use Rattle.xml_spec.specs.Tree.{Attribute, Nodes, NoNodes, Element, Text, Comment, Instruction}
use Rattle.xml_spec.specs.Numbering.{from_node}
use Rattle.xml_spec.specs.Names.{Binding, Scope, outermost, HasNames, AreNamed, attribute_name, binding_of, bound, declared_prefix, declarations, namespace_of, xmlns_namespace}
use Rattle.xml_spec.specs.Canonical.{scope_at}
use Rattle.saml_tree.specs.Elements.{attributes_in}
use Rattle.saml_tree.specs.NodeNames.{ShownName, attribute_at, binding_at, IsNameAt, namespace_at, shown_attribute_name}
use Rattle.saml_tree.specs.declared.node.NodeNo.{NodeNo}
use Rattle.saml_tree.specs.declared.node.NameAt.{NameAt}
use Rattle.saml_tree.specs.declared.node.NameAt.TheVariants as places
use Rattle.saml_tree.proofs.Declared.{AreOnce, declared_bound}
use Rattle.saml_tree.proofs.ShownNames.{shown_element, shown_attribute, attribute_name_is, attribute_is}
use Rattle.excl_c14n.specs.NodeByNode.{scope_inside}
use Rattle.excl_c14n.specs.Pairs.{space_at}
use Rattle.excl_c14n.proofs.Named.{named_from}

-- a place speaks of a namespace
pub named_there : (tree : Nodes) (place : NameAt) → IsNameAt tree place → IsSome (namespace_at tree place)
named_there tree (places.Element n) h = shown_element tree n.0 h
named_there tree (places.Attribute n i) h = shown_attribute tree n.0 i h
named_there tree (places.Declaration n i) h = some_namespace (binding_at tree n.0 i) h
  where
    some_namespace : (o : Option Binding) → IsSome o → IsSome (option_map (λ (b : Binding). b.namespace) o)
    some_namespace None k = k
    some_namespace (Some b) k = refl

pub empty_by_length : (p : List ℕ) → eqb (length p) 0 ≡ is_empty p
empty_by_length [] = refl
empty_by_length (b ∷ bytes) = ne_eqb (length (b ∷ bytes)) 0 (λ e. omega arith)

-- and so does an attribute's that declares nothing
pub attribute_speaks : (tree : Nodes) (n : NodeNo) (i : ℕ) (prefix : List ℕ) (declared : Option (Bor (List ℕ))) → IsSome (attribute_at tree n.0 i) →
    IfSome (attribute_at tree n.0 i) (λ a. prefix ≡ prefix_of a.name) →
    IfSome (attribute_at tree n.0 i) (λ a. option_map (λ (p : Bor (List ℕ)). p.now) declared ≡ declared_prefix a.name) →
    is_some declared ≡ false → is_empty prefix ≡ false → space_at tree (places.Attribute n i) ≡ namespace_of (scope_inside tree n.0) prefix
attribute_speaks tree n i prefix declared there is known none some =
    ap (λ (o : Option ShownName). unwrap_or (option_map (λ (name : ShownName). name.namespace) o) []) (attribute_name_is tree n.0 i)
    ∙ which (attribute_at tree n.0 i) there is known
  where
    no_prefix : (o : Option (Bor (List ℕ))) → is_some o ≡ false → option_map (λ (p : Bor (List ℕ)). p.now) o ≡ None
    no_prefix None e = refl
    no_prefix (Some p) e = absurd (let clash : true ≡ false = e in cc)

    which : (o : Option Attribute) → IsSome o → IfSome o (λ a. prefix ≡ prefix_of a.name) →
        IfSome o (λ a. option_map (λ (p : Bor (List ℕ)). p.now) declared ≡ declared_prefix a.name) →
        unwrap_or (option_map (λ (name : ShownName). name.namespace) (option_map (shown_attribute_name (scope_inside tree n.0)) o)) []
        ≡ namespace_of (scope_inside tree n.0) prefix
    which None h e k = absurd (let clash : false ≡ true = h in cc)
    which (Some a) h e k =
        ap (λ (p : Option (List ℕ)). cond (is_some p) xmlns_namespace (attribute_name (scope_inside tree n.0) a.name).namespace)
        (sym k ∙ no_prefix declared none)
        ∙ ap (λ b. cond b [] (namespace_of (scope_inside tree n.0) (prefix_of a.name))) (ap is_empty (sym e) ∙ some)
        ∙ ap (namespace_of (scope_inside tree n.0)) (sym e)

-- no prefix is declared twice
pub declared_once : (tree : Nodes) (n : ℕ) → HasNames tree → AreOnce (attributes_in (from_node tree n))
declared_once tree n named = by_case (scope_at outermost tree n) (from_node tree n) (named_from outermost tree n named)
  where
    by_case : (scope : Scope) (nodes : Nodes) → AreNamed scope nodes → AreOnce (attributes_in nodes)
    by_case scope NoNodes h = tt
    by_case scope (Element name attributes kids rest) h = h.0.prefixes_once
    by_case scope (Text text rest) h = tt
    by_case scope (Comment text rest) h = tt
    by_case scope (Instruction target value rest) h = tt

-- a declaration speaks of what its element binds the prefix to
pub record Declares (tree : Nodes) (n : NodeNo) (i : ℕ) (prefix : List ℕ) : Type 0 where
  pub there : IsNameAt tree (places.Declaration n i)
  pub speaks : space_at tree (places.Declaration n i) ≡ namespace_of (declarations (attributes_in (from_node tree n.0))) prefix

pub declaration_speaks : (tree : Nodes) (n : NodeNo) (i : ℕ) (declared : Option (Bor (List ℕ))) (prefix : Bor (List ℕ)) → HasNames tree →
    IsSome (attribute_at tree n.0 i) →
    IfSome (attribute_at tree n.0 i) (λ a. option_map (λ (p : Bor (List ℕ)). p.now) declared ≡ declared_prefix a.name) →
    declared ≡ Some prefix → Declares tree n i prefix.now
declaration_speaks tree n i declared prefix named there known some = which (attribute_at tree n.0 i) refl there known
  where
    which : (o : Option Attribute) → attribute_at tree n.0 i ≡ o → IsSome o →
        IfSome o (λ a. option_map (λ (p : Bor (List ℕ)). p.now) declared ≡ declared_prefix a.name) → Declares tree n i prefix.now
    which None e h k = absurd (let clash : false ≡ true = h in cc)
    which (Some a) e h k =
        let attributes = attributes_in (from_node tree n.0) in
        let own : declared_prefix a.name ≡ Some prefix.now = sym k ∙ ap (option_map (λ (p : Bor (List ℕ)). p.now)) some in
        let binds : binding_at tree n.0 i ≡ Some (record { prefix = prefix.now; namespace = a.value }) =
        ap (option_and_then binding_of) e ∙ ap (option_map (λ p. record { prefix = p; namespace = a.value })) own in
        record {
          there = ap is_some binds;
          speaks =
              ap (λ (o : Option Binding). unwrap_or (option_map (λ (b : Binding). b.namespace) o) []) binds
              ∙ ap (λ (o : Option (List ℕ)). unwrap_or o [])
              (sym (declared_bound attributes [] i a prefix.now (declared_once tree n.0 named) (attribute_is tree n.0 i ∙ e) own)
              ∙ ap (λ (s : Scope). bound s prefix.now) (append-nil (declarations attributes)));
        }
