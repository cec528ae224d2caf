-- The names of the tree that a canonical form spells are in order.
use Rattle.std.proofs.Common.{not, ◌≡◌, ◌≢◌, ℕ, ◌<◌, Bool, true, false, ◌⊎◌, inl, inr, List, [], ◌∷◌, ◌++◌, codes, map, Option, Some, None, IsSome, IsTrue, refl, sym, ◌∙◌, ap, subst}
use Rattle.std.specs.Prelude.{IfSome, MatchOption, ⊤, unwrap_or, is_some}
use Rattle.std.specs.List.{AllByRecursion}
use Rattle.std.specs.Str.{bytes_eq}
use Rattle.xml_spec.specs.Characters.{prefix_of, IsQualifiedName}
use Rattle.xml_spec.specs.Tree.{Attribute, Nodes, NoNodes, Element, Text, Comment, Instruction, with_text}
use Rattle.xml_spec.specs.Numbering.{from_node}
use Rattle.xml_spec.specs.Names.{Binding, Scope, ExpandedName, outermost, xml_namespace, bound, namespace_of, declared_prefix, declarations, is_declaration, proper_attributes, inner_scope, attribute_name, IsInScope, AreDistinct, IsBinding, IsNamed, AreNamed, HasNames}
use Rattle.xml_spec.specs.Canonical.{declaration_name, written_declarations, written_attributes, scope_at}
use Rattle.xml_spec.proofs.Declared.{declarations_ascend}
use Rattle.xml_spec.proofs.Sorting.{each_weaker}
use Rattle.canon_laws.specs.Trees.{declaration_of, canonical_tree_of, begins_with_element, canonical_tree}
use Rattle.canon_laws.proofs.Contents.{all_append}
use Rattle.canon_laws.proofs.Scopes.{binding, all_sorted, all_filtered}
use Rattle.canon_laws.proofs.Bindings.{same_bytes, BindsXml, RendersNoXml, declared_xml, still_no_xml}
use Rattle.canon_laws.proofs.Attributes.{attribute_order, AreProper, IsSame, same_name, written_are, written_declares, written_proper}
use Rattle.canon_laws.proofs.Distinct.{AreApart, apart, distinct, all_mapped, apart_filtered, apart_sorted, apart_append, ascending_distinct}
use Rattle.canon_laws.proofs.Fit.{IsFit, AreFit, StaysBound, outermost_fit, inner_fit, scope_fit, still_bound, written_bound, written_fit}
use Rattle.canon_laws.proofs.Keeping.{scope_below, prefix_kept, each_kept, inside_is}
use Rattle.canon_laws.proofs.Named.{xml_at, kept_is_named}

-- a prefix that is bound is not bound to the empty name, unless it is empty
bound_to_more : (scope : Scope) (q namespace : List ℕ) → AreFit scope → BindsXml scope → bound scope q ≡ Some namespace → namespace ≡ [] → q ≡ []
bound_to_more scope q namespace fit binds is none = which (bytes_eq q (codes "xml")) refl
  where
    the_same : (x y : List ℕ) → Some x ≡ Some y → x ≡ y
    the_same x y e = cc

    which : (xml : Bool) → bytes_eq q (codes "xml") ≡ xml → q ≡ []
    which true e =
        let full : xml_namespace ≡ namespace =
        the_same xml_namespace namespace (sym binds ∙ ap (bound scope) (sym (same_bytes q (codes "xml") e)) ∙ is)
        in
        absurd (let clash : xml_namespace ≡ [] = full ∙ none in cc)
    which false e =
        let fits : IsFit (binding q namespace) = subst (λ o. MatchOption o ⊤ (λ ns. IsFit (binding q ns))) is (fit q e) in
        fits.allowed.not_undeclared none

-- a prefix with the namespace that it has in another scope, where it is bound, is bound
still_in_scope : (one other : Scope) (q : List ℕ) → AreFit other → BindsXml other → namespace_of one q ≡ namespace_of other q →
    (q ≡ []) ⊎ IsSome (bound other q) → (q ≡ []) ⊎ IsSome (bound one q)
still_in_scope one other q fit binds same (inl bare) = inl bare
still_in_scope one other q fit binds same (inr there) = which (bound one q) (bound other q) refl there same
  where
    which : (o p : Option (List ℕ)) → bound other q ≡ p → IsSome p → unwrap_or o [] ≡ unwrap_or p [] → (q ≡ []) ⊎ IsSome o
    which o None is t e = absurd (let clash : false ≡ true = t in cc)
    which None (Some namespace) is t e = inl (bound_to_more other q namespace fit binds is (sym e))
    which (Some ns) (Some namespace) is t e = inr refl

name_in_scope : (one other : Scope) (name : List ℕ) → AreFit other → BindsXml other → IsSame one other name → IsInScope other name → IsInScope one name
name_in_scope one other name fit binds (inl bare) h = inl bare
name_in_scope one other name fit binds (inr same) h = still_in_scope one other (prefix_of name) fit binds same h

all_in_scope : (one other : Scope) (attributes : List Attribute) → AreFit other → BindsXml other → AllByRecursion (λ a. IsSame one other a.name) attributes →
    AllByRecursion (λ a. IsInScope other a.name) attributes → AllByRecursion (λ a. IsInScope one a.name) attributes
all_in_scope one other [] fit binds same h = tt
all_in_scope one other (a ∷ attributes) fit binds same h =
    (name_in_scope one other a.name fit binds same.0 h.0, all_in_scope one other attributes fit binds same.1 h.1)

-- the name of a declaration tells its prefix
declares : (prefix : List ℕ) → declared_prefix (declaration_name prefix) ≡ Some prefix
declares [] = refl
declares (b ∷ prefix) = refl

name_tells : (p q : List ℕ) → declaration_name p ≡ declaration_name q → p ≡ q
name_tells p q e = the_same (sym (declares p) ∙ ap declared_prefix e ∙ declares q)
  where
    the_same : Some p ≡ Some q → p ≡ q
    the_same e = cc

not_declared : (p : List ℕ) (a : Attribute) → is_declaration a ≡ false → declaration_name p ≢ a.name
not_declared p a proper e = let clash : true ≡ false = ap is_some (sym (declares p)) ∙ ap (λ name. is_some (declared_prefix name)) e ∙ proper in cc

abbrev name_of : Attribute → List ℕ
name_of a = a.name

-- no two declarations have one name
declarations_apart : (bindings : List Binding) → AreApart (λ (b : Binding). b.prefix) bindings →
    AreApart name_of (map declaration_of bindings)
declarations_apart [] h = tt
declarations_apart (b ∷ bindings) h = (from_all bindings h.0, declarations_apart bindings h.1)
  where
    from_all : (more : List Binding) → AllByRecursion (λ c. b.prefix ≢ c.prefix) more →
        AllByRecursion (λ (a : Attribute). declaration_name b.prefix ≢ a.name) (map declaration_of more)
    from_all [] k = tt
    from_all (c ∷ more) k = (λ e. k.0 (name_tells b.prefix c.prefix e), from_all more k.1)

-- nor has an attribute that is none
others_apart : (bindings : List Binding) (attributes : List Attribute) → AreProper attributes →
    AllByRecursion (λ (x : Attribute). AllByRecursion (λ (y : Attribute). x.name ≢ y.name) attributes) (map declaration_of bindings)
others_apart [] attributes proper = tt
others_apart (b ∷ bindings) attributes proper =
    (each_weaker (λ a. is_declaration a ≡ false) (λ a. declaration_name b.prefix ≢ a.name) (λ a. not_declared b.prefix a) attributes proper, others_apart bindings attributes proper)

all_allowed : (bindings : List Binding) → AllByRecursion IsFit bindings → AllByRecursion IsBinding bindings
all_allowed bindings h = each_weaker IsFit IsBinding (λ b fit. fit.allowed) bindings h

all_qualified : (bindings : List Binding) → AllByRecursion IsFit bindings → AllByRecursion (λ (a : Attribute). IsQualifiedName a.name) (map declaration_of bindings)
all_qualified bindings h = all_mapped declaration_of (λ a. IsQualifiedName a.name) bindings (each_weaker IsFit (λ b. IsQualifiedName (declaration_name b.prefix)) (λ b fit. fit.named) bindings h)

same_expanded : (one other : Scope) (attributes : List Attribute) → AllByRecursion (λ a. IsSame one other a.name) attributes →
    map (λ a. attribute_name one a.name) attributes ≡ map (λ a. attribute_name other a.name) attributes
same_expanded one other [] h = refl
same_expanded one other (a ∷ attributes) h = λ i. same_name one other a.name h.0 i ∷ same_expanded one other attributes h.1 i

module _ (listed : List (List ℕ)) (inner rendered : Scope) (name : List ℕ) (attributes : List Attribute) (binds : BindsXml inner) (nothing : RendersNoXml rendered) where
  abbrev bindings : List Binding
  bindings = written_declarations listed inner rendered name attributes

  abbrev ordered : List Attribute
  ordered = written_attributes inner attributes

  abbrev below : Scope
  below = scope_below listed inner rendered name attributes binds nothing

  by_expanded : (P : Attribute → Type 0) → AllByRecursion P (proper_attributes attributes) → AllByRecursion P ordered
  by_expanded P h = all_sorted P (attribute_order inner) (proper_attributes attributes) h

  declared_apart : AreApart name_of (map declaration_of bindings)
  declared_apart =
      declarations_apart bindings
      (apart (λ (b : Binding). b.prefix) bindings
      (ascending_distinct (map (λ b. b.prefix) bindings) (declarations_ascend listed inner rendered name attributes)))

  ordered_apart : AreApart name_of attributes → AreApart name_of ordered
  ordered_apart h =
      apart_sorted name_of (attribute_order inner) (proper_attributes attributes) (apart_filtered name_of (λ a. not (is_declaration a)) attributes h)

  names_apart : AreDistinct (map name_of attributes) → AreDistinct (map name_of (map declaration_of bindings ++ ordered))
  names_apart h =
      distinct name_of (map declaration_of bindings ++ ordered)
      (apart_append name_of (map declaration_of bindings) ordered declared_apart (ordered_apart (apart name_of attributes h))
      (others_apart bindings ordered (written_are inner attributes)))

  expanded_apart : AreDistinct (map (λ a. attribute_name inner a.name) (proper_attributes attributes)) → AreDistinct (map (λ a. attribute_name below a.name) ordered)
  expanded_apart h =
      let expanded : Attribute → ExpandedName = λ a. attribute_name inner a.name in
      subst AreDistinct (sym (same_expanded below inner ordered (each_kept listed inner rendered name attributes binds nothing)))
      (distinct expanded ordered (apart_sorted expanded (attribute_order inner) (proper_attributes attributes) (apart expanded (proper_attributes attributes) h)))

  -- the names of an element as it is written
  written_named : AreFit inner → StaysBound inner rendered → IsNamed inner name attributes → IsNamed below name (map declaration_of bindings ++ ordered)
  written_named fit stays named =
      let fits : AllByRecursion IsFit bindings = written_fit listed inner rendered name attributes fit stays in
      let declared : declarations (map declaration_of bindings ++ ordered) ≡ bindings = written_declares bindings ordered (written_are inner attributes) in
      let proper : proper_attributes (map declaration_of bindings ++ ordered) ≡ ordered = written_proper bindings ordered (written_are inner attributes) in
      record {
        qualified = named.qualified;
        all_qualified =
            all_append (λ a. IsQualifiedName a.name) (map declaration_of bindings) ordered (all_qualified bindings fits)
            (by_expanded (λ a. IsQualifiedName a.name) (all_filtered (λ a. IsQualifiedName a.name) (λ a. not (is_declaration a)) attributes named.all_qualified));
        in_scope =
            name_in_scope below inner name fit binds (inr (prefix_kept listed inner rendered name attributes binds nothing)) named.in_scope;
        all_in_scope =
            subst (λ more. AllByRecursion (λ a. IsInScope below a.name) more) (sym proper)
            (all_in_scope below inner ordered fit binds (each_kept listed inner rendered name attributes binds nothing)
            (by_expanded (λ a. IsInScope inner a.name) named.all_in_scope));
        not_xmlns = named.not_xmlns;
        declares = subst (AllByRecursion IsBinding) (sym declared) (all_allowed bindings fits);
        prefixes_once =
            subst (λ more. AreDistinct (map (λ b. b.prefix) more)) (sym declared)
            (ascending_distinct (map (λ b. b.prefix) bindings) (declarations_ascend listed inner rendered name attributes));
        names_once = names_apart named.names_once;
        expanded_once = subst (λ more. AreDistinct (map (λ a. attribute_name below a.name) more)) (sym proper) (expanded_apart named.expanded_once);
      }

with_text_named : (scope : Scope) (text : List ℕ) (nodes : Nodes) → AreNamed scope nodes → AreNamed scope (with_text text nodes)
with_text_named scope [] nodes h = h
with_text_named scope (b ∷ bytes) NoNodes h = h
with_text_named scope (b ∷ bytes) (Element name attributes kids rest) h = h
with_text_named scope (b ∷ bytes) (Text text rest) h = h
with_text_named scope (b ∷ bytes) (Comment text rest) h = h
with_text_named scope (b ∷ bytes) (Instruction target value rest) h = h

-- what holds of a scope and of what was rendered
record IsReady (scope rendered : Scope) : Type 0 where
  xml : BindsXml scope
  no_xml : RendersNoXml rendered
  fit : AreFit scope
  stays : StaysBound scope rendered

tree_named : (listed : List (List ℕ)) (scope rendered : Scope) (nodes : Nodes) → AreNamed scope nodes → IsReady scope rendered →
    AreNamed (rendered ++ outermost) (canonical_tree_of listed scope rendered nodes)
tree_named listed scope rendered NoNodes named ready = tt
tree_named listed scope rendered (Element name attributes kids rest) named ready =
    let inner = inner_scope attributes scope in
    let written = written_declarations listed inner rendered name attributes in
    let all = map declaration_of written ++ written_attributes inner attributes in
    let inside : BindsXml inner = declared_xml (declarations attributes) scope named.0.declares ready.xml in
    let fits : AreFit inner = inner_fit attributes scope name named.0 ready.fit in
    let stays : StaysBound inner rendered = still_bound attributes scope rendered ready.stays in
    let below : IsReady inner (written ++ rendered) = record {
      xml = inside;
      no_xml = still_no_xml listed inner rendered name attributes ready.no_xml;
      fit = fits;
      stays = written_bound listed inner rendered name attributes stays;
    }
    in
    let here = subst (λ s. IsNamed s name all × AreNamed s (canonical_tree_of listed inner (written ++ rendered) kids))
    (sym (inside_is listed inner rendered name attributes inside ready.no_xml))
    (written_named listed inner rendered name attributes inside ready.no_xml fits stays named.0, tree_named listed inner (written ++ rendered) kids named.1 below)
    in
    (here.0, here.1, tree_named listed scope rendered rest named.2 ready)
tree_named listed scope rendered (Text text rest) named ready =
    with_text_named (rendered ++ outermost) text (canonical_tree_of listed scope rendered rest) (tree_named listed scope rendered rest named ready)
tree_named listed scope rendered (Comment text rest) named ready = tree_named listed scope rendered rest named ready
tree_named listed scope rendered (Instruction target value rest) named ready = tree_named listed scope rendered rest named ready

-- of one element, which stands alone in its document
element_named : (listed : List (List ℕ)) (scope : Scope) (name : List ℕ) (attributes : List Attribute) (kids : Nodes) →
    AreNamed scope (Element name attributes kids NoNodes) → BindsXml scope → AreFit scope →
    HasNames (canonical_tree_of listed scope [] (Element name attributes kids NoNodes))
element_named listed scope name attributes kids named binds fits =
    tree_named listed scope [] (Element name attributes kids NoNodes) named
    (record { xml = binds; no_xml = refl; fit = fits; stays = λ q more none. refl })

pub canonical_named : (tree : Nodes) (k : ℕ) (skip : Option ℕ) (listed : List (List ℕ)) → HasNames tree →
    IsTrue (begins_with_element (from_node tree k)) → IfSome skip (λ s. k < s) → HasNames (canonical_tree tree k skip listed)
canonical_named tree k skip listed named begins below =
    let scope = scope_at outermost tree k in
    let kept = kept_is_named tree k skip begins below named in
    subst (λ nodes. HasNames (canonical_tree_of listed scope [] nodes)) (sym kept.is)
    (element_named listed scope kept.name kept.attributes kept.kids kept.named (xml_at tree k named) (scope_fit outermost tree k named outermost_fit))
