-- The tree of a made element has names as the standard wants them: Namespaces in XML 1.0, 3 to 6.
use Rattle.std.proofs.Common.{◌≡◌, ◌≢◌, ℕ, Bool, true, false, cond, List, [], ◌∷◌, ◌++◌, map, codes, Option, Some, None, MatchOption, inl, inr, refl, sym, ap, ◌∙◌, subst}
use Rattle.std.specs.List.{AllByRecursion, list_any}
use Rattle.std.specs.Option.{is_some, unwrap_or}
use Rattle.std.specs.Char.{encode_utf8}
use Rattle.std.specs.Str.{chars}
use Rattle.std.specs.declared.cmp.Ordering.{Ordering}
use Rattle.std.specs.Ordering.{is_le}
use Rattle.std.proofs.lemmas.List.{append-nil}
use Rattle.xml_spec.specs.Characters.{IsName, IsNoColonName, IsQualifiedName, at_colon, prefix_of}
use Rattle.xml_spec.specs.Tree.{Attribute, Nodes, NoNodes, Element, Text, Comment, Instruction, with_text}
use Rattle.xml_spec.specs.Names.{Binding, Scope, outermost, bound, namespace_of, declarations, proper_attributes, inner_scope, attribute_name, ExpandedName, AreDistinct, IsInScope, IsBinding, IsNamed, AreNamed, HasNames}
use Rattle.xml_spec.specs.Canonical.{byte_order, inserted, sorted, declaration_name}
use Rattle.xml_spec.proofs.Sorting.{each_weaker, each_inserted}
use Rattle.xml_spec.proofs.Valid.{name_shown, other_bytes}
use Rattle.element_make.specs.declared.names.Ns.{Ns}
use Rattle.element_make.specs.declared.names.Ns.TheVariants.{Saml, Samlp, Ds, Md}
use Rattle.element_make.specs.declared.scope.Declared.{Declared}
use Rattle.element_make.specs.Prefixes.{prefix, namespace, same}
use Rattle.element_make.specs.Made.{Made, MadeNodes, NothingMade, MadeElement, MadeText, alone, qualified, nodes_of, tree_of, IsMadeAttribute, AreMade, IsMade}
use Rattle.element_make.specs.Writing.{declares, nothing_declared, also_declared, by_name, binding}
use Rattle.element_make.proofs.Plain.{no_prefix, in_no_namespace, each_by_name, no_declarations}
use Rattle.element_make.proofs.Forms.{Agree, given, added, prefix_is, agree_inside, agree_outside, bound_own, inner_is, proper_is, given_declares}

prefix_name : (ns : Ns) → IsNoColonName (prefix ns)
unfolding chars encode_utf8
prefix_name Saml = (name_shown _ refl, refl)
prefix_name Samlp = (name_shown _ refl, refl)
prefix_name Ds = (name_shown _ refl, refl)
prefix_name Md = (name_shown _ refl, refl)

declaration_is_qualified : (ns : Ns) → IsQualifiedName (declaration_name (prefix ns))
unfolding chars encode_utf8
declaration_is_qualified Saml = ((name_shown _ refl, refl), (name_shown _ refl, refl))
declaration_is_qualified Samlp = ((name_shown _ refl, refl), (name_shown _ refl, refl))
declaration_is_qualified Ds = ((name_shown _ refl, refl), (name_shown _ refl, refl))
declaration_is_qualified Md = ((name_shown _ refl, refl), (name_shown _ refl, refl))

element_is_qualified : (ns : Ns) (local : List ℕ) → IsNoColonName local → IsQualifiedName (qualified ns local)
element_is_qualified Saml local is = (prefix_name Saml, is)
element_is_qualified Samlp local is = (prefix_name Samlp, is)
element_is_qualified Ds local is = (prefix_name Ds, is)
element_is_qualified Md local is = (prefix_name Md, is)

attribute_is_qualified : (a : Attribute) → IsMadeAttribute a → IsQualifiedName a.name
attribute_is_qualified a made = which (at_colon a.name) made.name.1
  where
    which : (o : Option (List ℕ × List ℕ)) → o ≡ None → MatchOption o (IsName a.name) (λ parts. IsNoColonName parts.0 × IsNoColonName parts.1)
    which None e = made.name.0
    which (Some parts) e = absurd (let clash : Some parts ≡ None = e in cc)

binding_is_allowed : (ns : Ns) → IsBinding (binding ns)
binding_is_allowed Saml = record {
  not_xml = other_bytes _ _ refl;
  not_xmlns = other_bytes _ _ refl;
  not_xml_namespace = other_bytes _ _ refl;
  not_xmlns_namespace = other_bytes _ _ refl;
  not_undeclared = λ e. absurd (other_bytes (namespace Saml) [] refl e);
  absolute = inr refl;
}
binding_is_allowed Samlp = record {
  not_xml = other_bytes _ _ refl;
  not_xmlns = other_bytes _ _ refl;
  not_xml_namespace = other_bytes _ _ refl;
  not_xmlns_namespace = other_bytes _ _ refl;
  not_undeclared = λ e. absurd (other_bytes (namespace Samlp) [] refl e);
  absolute = inr refl;
}
binding_is_allowed Ds = record {
  not_xml = other_bytes _ _ refl;
  not_xmlns = other_bytes _ _ refl;
  not_xml_namespace = other_bytes _ _ refl;
  not_xmlns_namespace = other_bytes _ _ refl;
  not_undeclared = λ e. absurd (other_bytes (namespace Ds) [] refl e);
  absolute = inr refl;
}
binding_is_allowed Md = record {
  not_xml = other_bytes _ _ refl;
  not_xmlns = other_bytes _ _ refl;
  not_xml_namespace = other_bytes _ _ refl;
  not_xmlns_namespace = other_bytes _ _ refl;
  not_undeclared = λ e. absurd (other_bytes (namespace Md) [] refl e);
  absolute = inr refl;
}

not_xmlns : (ns : Ns) → prefix ns ≢ codes "xmlns"
not_xmlns Saml = other_bytes _ _ refl
not_xmlns Samlp = other_bytes _ _ refl
not_xmlns Ds = other_bytes _ _ refl
not_xmlns Md = other_bytes _ _ refl

has_colon : (ns : Ns) → at_colon (declaration_name (prefix ns)) ≡ Some (codes "xmlns", prefix ns)
has_colon Saml = refl
has_colon Samlp = refl
has_colon Ds = refl
has_colon Md = refl

none_is_some : (parts : List ℕ × List ℕ) → Some parts ≡ None → ⊥
none_is_some parts clash = cc

some_namespace : (ns : Ns) → namespace ns ≢ []
some_namespace Saml = other_bytes _ _ refl
some_namespace Samlp = other_bytes _ _ refl
some_namespace Ds = other_bytes _ _ refl
some_namespace Md = other_bytes _ _ refl

-- a prefix whose namespace is not empty is bound
is_bound : (scope : Scope) (p n : List ℕ) → namespace_of scope p ≡ n → n ≢ [] → is_some (bound scope p) ≡ true
is_bound scope p n is some = which (bound scope p) is
  where
    which : (o : Option (List ℕ)) → unwrap_or o [] ≡ n → is_some o ≡ true
    which None e = absurd (some (sym e))
    which (Some m) e = refl

-- an attribute of another name than each
differ_as_names : (name : List ℕ) (attributes : List Attribute) → AllByRecursion (λ (a : Attribute). name ≢ a.name) attributes →
    AllByRecursion (λ n. name ≢ n) (map (λ (a : Attribute). a.name) attributes)
differ_as_names name [] h = tt
differ_as_names name (a ∷ attributes) h = (h.0, differ_as_names name attributes h.1)

differ_as_attributes : (name : List ℕ) (attributes : List Attribute) → AllByRecursion (λ n. name ≢ n) (map (λ (a : Attribute). a.name) attributes) →
    AllByRecursion (λ (a : Attribute). name ≢ a.name) attributes
differ_as_attributes name [] h = tt
differ_as_attributes name (a ∷ attributes) h = (h.0, differ_as_attributes name attributes h.1)

-- names that are distinct stay so where they are put in order
module _ (order : Attribute → Attribute → Ordering) where
  distinct_inserted : (a : Attribute) (attributes : List Attribute) → AllByRecursion (λ (b : Attribute). a.name ≢ b.name) attributes →
      AreDistinct (map (λ (b : Attribute). b.name) attributes) → AreDistinct (map (λ (b : Attribute). b.name) (inserted order a attributes))
  distinct_inserted a [] new d = (tt, tt)
  distinct_inserted a (b ∷ attributes) new d = which (is_le (order a b)) (distinct_inserted a attributes new.1 d.1)
    where
      which : (t : Bool) → AreDistinct (map (λ (x : Attribute). x.name) (inserted order a attributes)) →
          AreDistinct (map (λ (x : Attribute). x.name) (cond t (a ∷ b ∷ attributes) (b ∷ inserted order a attributes)))
      which true later = (differ_as_names a.name (b ∷ attributes) new, d)
      which false later = (
        differ_as_names b.name (inserted order a attributes)
            (each_inserted order (λ (x : Attribute). b.name ≢ x.name) a attributes (λ e. new.0 (sym e)) (differ_as_attributes b.name attributes d.0)),
        later,
      )

  each_sorted : (P : Attribute → Type 0) (attributes : List Attribute) → AllByRecursion P attributes → AllByRecursion P (sorted order attributes)
  each_sorted P [] h = tt
  each_sorted P (a ∷ attributes) h = each_inserted order P a (sorted order attributes) h.0 (each_sorted P attributes h.1)

  distinct_sorted : (attributes : List Attribute) → AreDistinct (map (λ (a : Attribute). a.name) attributes) →
      AreDistinct (map (λ (a : Attribute). a.name) (sorted order attributes))
  distinct_sorted [] d = tt
  distinct_sorted (a ∷ attributes) d =
      distinct_inserted a (sorted order attributes) (each_sorted (λ (b : Attribute). a.name ≢ b.name) attributes (differ_as_attributes a.name attributes d.0))
      (distinct_sorted attributes d.1)

-- names that are distinct are so as expanded names, where none has a prefix
distinct_expanded : (scope : Scope) (attributes : List Attribute) → AllByRecursion IsMadeAttribute attributes →
    AreDistinct (map (λ (a : Attribute). a.name) attributes) → AreDistinct (map (λ (a : Attribute). attribute_name scope a.name) attributes)
distinct_expanded scope [] made distinct = tt
distinct_expanded scope (a ∷ attributes) made distinct =
    (others attributes made.1 distinct.0, distinct_expanded scope attributes made.1 distinct.1)
  where
    others : (xs : List Attribute) → AllByRecursion IsMadeAttribute xs → AllByRecursion (λ n. a.name ≢ n) (map (λ (x : Attribute). x.name) xs) →
        AllByRecursion (λ n. attribute_name scope a.name ≢ n) (map (λ (x : Attribute). attribute_name scope x.name) xs)
    others [] h d = tt
    others (x ∷ xs) h d = (
      λ same. d.0
          (ap (λ (n : ExpandedName). n.local)
          (sym (in_no_namespace scope a.name made.0.name.1) ∙ same ∙ in_no_namespace scope x.name h.0.name.1)),
      others xs h.1 d.1,
    )

-- an element, with its declaration and its attributes in order
module _ (declared : List Ns) (flags : Declared) (scope : Scope) (ns : Ns) (local : List ℕ) (attributes : List Attribute) (there : Bool)
    (e : declares flags ns ≡ there) (made : AllByRecursion IsMadeAttribute attributes) (agree : Agree declared flags scope) where
  ordered : AllByRecursion IsMadeAttribute (by_name attributes)
  ordered = each_by_name IsMadeAttribute attributes made

  abbrev tag_attributes : List Attribute
  tag_attributes = given there ns ++ by_name attributes

  abbrev inner : Scope
  inner = inner_scope tag_attributes scope

  inner_added : inner ≡ added there ns ++ scope
  inner_added = inner_is declared flags scope scope ns local attributes there e made agree agree

  declared_here : declarations tag_attributes ≡ added there ns
  declared_here =
      given_declares there ns (by_name attributes) ∙ ap (λ bs. added there ns ++ bs) (no_declarations (by_name attributes) ordered)
      ∙ append-nil (added there ns)

  proper_here : proper_attributes tag_attributes ≡ by_name attributes
  proper_here = proper_is declared flags scope scope ns local attributes there e made agree agree

  all_are_qualified : (t : Bool) → AllByRecursion (λ (a : Attribute). IsQualifiedName a.name) (given t ns ++ by_name attributes)
  all_are_qualified true = each_weaker IsMadeAttribute (λ (a : Attribute). IsQualifiedName a.name) attribute_is_qualified (by_name attributes) ordered
  all_are_qualified false = (
    declaration_is_qualified ns,
    each_weaker IsMadeAttribute (λ (a : Attribute). IsQualifiedName a.name) attribute_is_qualified (by_name attributes) ordered,
  )

  own_is_bound : namespace_of inner (prefix_of (qualified ns local)) ≡ namespace ns
  own_is_bound =
      ap (namespace_of inner) (prefix_is ns local) ∙ ap (λ (s : Scope). namespace_of s (prefix ns)) inner_added
      ∙ bound_own (ns ∷ declared) flags (added there ns ++ scope) ns (agree_inside declared flags scope ns there e agree)

  all_allowed : (t : Bool) → AllByRecursion IsBinding (added t ns)
  all_allowed true = tt
  all_allowed false = (binding_is_allowed ns, tt)

  one_prefix : (t : Bool) → AreDistinct (map (λ (b : Binding). b.prefix) (added t ns))
  one_prefix true = tt
  one_prefix false = (tt, tt)

  other_name : (a : Attribute) → IsMadeAttribute a → declaration_name (prefix ns) ≢ a.name
  other_name a is h =
      none_is_some (codes "xmlns", prefix ns) (sym (has_colon ns) ∙ ap at_colon h ∙ is.name.1)

  all_distinct : AreDistinct (map (λ (a : Attribute). a.name) attributes) → (t : Bool) →
      AreDistinct (map (λ (a : Attribute). a.name) (given t ns ++ by_name attributes))
  all_distinct distinct true = distinct_sorted (λ (x : Attribute) y. byte_order x.name y.name) attributes distinct
  all_distinct distinct false = (
    differ_as_names (declaration_name (prefix ns)) (by_name attributes)
        (each_weaker IsMadeAttribute (λ (a : Attribute). declaration_name (prefix ns) ≢ a.name) other_name (by_name attributes) ordered),
    distinct_sorted (λ (x : Attribute) y. byte_order x.name y.name) attributes distinct,
  )

  pub named_so : IsNoColonName local → AreDistinct (map (λ (a : Attribute). a.name) attributes) → IsNamed inner (qualified ns local) tag_attributes
  named_so is distinct = record {
    qualified = element_is_qualified ns local is;
    all_qualified = all_are_qualified there;
    in_scope = inr (is_bound inner (prefix_of (qualified ns local)) (namespace ns) own_is_bound (some_namespace ns));
    all_in_scope =
        subst (AllByRecursion (λ (a : Attribute). IsInScope inner a.name)) (sym proper_here)
        (each_weaker IsMadeAttribute (λ (a : Attribute). IsInScope inner a.name) (λ a h. inl (no_prefix a.name h.name.1)) (by_name attributes) ordered);
    not_xmlns = λ h. not_xmlns ns (sym (prefix_is ns local) ∙ h);
    declares = subst (AllByRecursion IsBinding) (sym declared_here) (all_allowed there);
    prefixes_once = subst (λ (bs : List Binding). AreDistinct (map (λ (b : Binding). b.prefix) bs)) (sym declared_here) (one_prefix there);
    names_once = all_distinct distinct there;
    expanded_once =
        subst (λ (xs : List Attribute). AreDistinct (map (λ (a : Attribute). attribute_name inner a.name) xs)) (sym proper_here)
        (distinct_expanded inner (by_name attributes) ordered
        (distinct_sorted (λ (x : Attribute) y. byte_order x.name y.name) attributes distinct));
  }

text_is_named : (scope : Scope) (t : List ℕ) (nodes : Nodes) → AreNamed scope nodes → AreNamed scope (with_text t nodes)
text_is_named scope [] nodes h = h
text_is_named scope (b ∷ t) NoNodes h = h
text_is_named scope (b ∷ t) (Element name attributes kids rest) h = h
text_is_named scope (b ∷ t) (Text other rest) h = h
text_is_named scope (b ∷ t) (Comment other rest) h = h
text_is_named scope (b ∷ t) (Instruction target value rest) h = h

pub are_named : (nodes : MadeNodes) (declared : List Ns) (flags : Declared) (scope : Scope) → AreMade nodes → Agree declared flags scope →
    AreNamed scope (nodes_of declared nodes)
are_named NothingMade declared flags scope made agree = tt
are_named (MadeElement ns local attributes kids rest) declared flags scope made agree =
    let there = list_any (same ns) declared in
    let e = agree.listed ns in (
      named_so declared flags scope ns local attributes there e made.1 agree made.0 made.2,
      subst (λ (s : Scope). AreNamed s (nodes_of (ns ∷ declared) kids)) (sym (inner_added declared flags scope ns local attributes there e made.1 agree))
          (are_named kids (ns ∷ declared) (also_declared flags ns) (added there ns ++ scope) made.3 (agree_inside declared flags scope ns there e agree)),
      are_named rest declared flags scope made.4 agree,
    )
are_named (MadeText text rest) declared flags scope made agree =
    text_is_named scope text (nodes_of declared rest) (are_named rest declared flags scope made.1 agree)

pub has_names : (made : Made) → IsMade made → HasNames (tree_of made)
has_names made is = are_named (alone made) [] nothing_declared outermost is agree_outside
