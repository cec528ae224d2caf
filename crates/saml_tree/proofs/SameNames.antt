-- Names that are in one namespace, by the namespaces that are kept.
use Rattle.std.proofs.Common.{◌≡◌, ℕ, ◌<◌, true, false, Bool, cond, List, [], length, get_or, Option, Some, None, IsSome, IsTrue, ◌↔◌, refl, sym, ap, ◌∙◌, subst}
use Rattle.std.specs.List.{slice_get}
use Rattle.std.specs.Option.{option_map, option_map_or, option_and_then, unwrap_or}
use Rattle.std.specs.Str.{bytes_eq}
use Rattle.std.proofs.lemmas.Option.{slice_get-get_or, slice_get_within, unwrap_or-slice_get}
use Rattle.std.proofs.lemmas.Slice.Eq.{bytes_eq-Decides}
use Rattle.xml_spec.specs.Tree.{Attribute, Nodes}
use Rattle.xml_spec.specs.Numbering.{from_node}
use Rattle.xml_spec.specs.Names.{Binding, outermost, binding_of, is_declaration, HasNames}
use Rattle.xml_spec.specs.Canonical.{scope_at}
use Rattle.tree_rows.specs.Rows.{Row, nodes_at}
use Rattle.tree_rows.specs.Shaped.{IsShaped}
use Rattle.saml_tree.specs.Documents.{attributes_of}
use Rattle.saml_tree.specs.Elements.{attributes_in}
use Rattle.saml_tree.specs.NodeNames.{ShownName, attribute_at, binding_at, IsNameAt, namespace_at}
use Rattle.saml_tree.specs.Resolved.{AreResolved, kept_at, kept_for}
use Rattle.saml_tree.specs.declared.names.Names.{Names}
use Rattle.saml_tree.specs.declared.names.Kept.{Kept}
use Rattle.saml_tree.specs.declared.names.Kept.TheVariants as kept
use Rattle.saml_tree.specs.declared.node.NodeNo.{NodeNo}
use Rattle.saml_tree.specs.declared.node.NameAt.{NameAt}
use Rattle.saml_tree.specs.declared.node.NameAt.TheVariants as places
use Rattle.saml_tree.proofs.Nodes.{in_tree_by_attributes}
use Rattle.saml_tree.proofs.Declared.{declaration_kept}
use Rattle.saml_tree.proofs.ShownNames.{inside, namespace_kept, attribute_namespace_kept, proper_kept, declaration_named, declared_once, attribute_name_is, attribute_is, shown_element, shown_attribute}

-- two numbers of a table have one text where the texts are equal
pub same_spaces : (table : List (List ℕ)) (one other : Option (List ℕ)) (m n : ℕ) (same : Bool) →
    one ≡ slice_get table m → other ≡ slice_get table n → m < length table → n < length table →
    same ≡ bytes_eq (get_or table m []) (get_or table n []) → IsTrue same ↔ (one ≡ other)
same_spaces table one other m n same is_one is_other in_one in_other e =
    let x = get_or table m [] in
    let y = get_or table n [] in
    let first : one ≡ Some x = is_one ∙ slice_get-get_or table m [] in_one in
    let second : other ≡ Some y = is_other ∙ slice_get-get_or table n [] in_other in (
      λ h. first ∙ ap (λ t. Some t) ((bytes_eq-Decides x y).0 (sym e ∙ h)) ∙ sym second,
      λ h. let both : Some x ≡ Some y = sym first ∙ h ∙ second in
          e ∙ (bytes_eq-Decides x y).1 (let equal : x ≡ y = cc in equal),
    )

-- the text of a number is the one that is found
pub found_text : (table : List (List ℕ)) (o : Option (List ℕ)) (n : ℕ) → o ≡ slice_get table n → get_or table n [] ≡ unwrap_or o []
found_text table o n is = sym (ap (λ found. unwrap_or found []) is ∙ unwrap_or-slice_get table n [])

-- a text that is found has a number of the table
pub in_table : (table : List (List ℕ)) (o : Option (List ℕ)) (n : ℕ) → o ≡ slice_get table n → IsSome o → n < length table
in_table table None n is some = absurd (let clash : false ≡ true = some in cc)
in_table table (Some x) n is some = slice_get_within table n x (sym is)

module _ (rows : List Row) (names : Names) (tree : Nodes) (shaped : IsShaped rows) (resolved : AreResolved rows names) (is : nodes_at 0 rows ≡ tree)
    (named : HasNames tree) where
  attribute_kept : (n : NodeNo) (i : ℕ) → IsSome (attribute_at tree n.0 i) →
      kept_at names (kept_for tree (places.Attribute n i)) ≡ namespace_at tree (places.Attribute n i)
  attribute_kept n i some = by_test (option_map_or is_declaration (attribute_at tree n.0 i) false) refl
    where
      by_test : (b : Bool) → option_map_or is_declaration (attribute_at tree n.0 i) false ≡ b →
          kept_at names (cond b kept.Xmlns (kept.Attribute n i)) ≡ namespace_at tree (places.Attribute n i)
      by_test true e =
          resolved.xmlns ∙ declaration_named (inside tree n.0) (attribute_at tree n.0 i) e
          ∙ ap (option_map (λ (name : ShownName). name.namespace)) (sym (attribute_name_is tree n.0 i))
      by_test false e =
          attribute_namespace_kept rows names tree shaped resolved is n.0 i some ∙ proper_kept (inside tree n.0) (attribute_at tree n.0 i) e
          ∙ ap (option_map (λ (name : ShownName). name.namespace)) (sym (attribute_name_is tree n.0 i))

  declared_kept : (n : NodeNo) (i : ℕ) → IsSome (binding_at tree n.0 i) →
      kept_at names (kept_for tree (places.Declaration n i)) ≡ namespace_at tree (places.Declaration n i)
  declared_kept n i some =
      let there = some_attribute (attribute_at tree n.0 i) some in
      attribute_namespace_kept rows names tree shaped resolved is n.0 i there
      ∙ declaration_kept (attributes_in (from_node tree n.0)) (scope_at outermost tree n.0) i (attribute_at tree n.0 i)
      (declared_once rows names tree shaped resolved is n.0 named (in_tree_by_attributes tree n.0 (some_attributes (attributes_of (from_node tree n.0)) there)))
      (attribute_is tree n.0 i) some
    where
      some_attribute : (o : Option Attribute) → IsSome (option_and_then binding_of o) → IsSome o
      some_attribute None h = h
      some_attribute (Some a) h = refl

      some_attributes : (o : Option (List Attribute)) → IsSome (option_and_then (λ attributes. slice_get attributes i) o) → IsSome o
      some_attributes None h = h
      some_attributes (Some attributes) h = refl

  pub kept_is : (place : NameAt) → IsNameAt tree place → kept_at names (kept_for tree place) ≡ namespace_at tree place
  kept_is (places.Element n) h = namespace_kept rows names tree shaped resolved is n.0 h
  kept_is (places.Attribute n i) h = attribute_kept n i h
  kept_is (places.Declaration n i) h = declared_kept n i h

  namespace_there : (place : NameAt) → IsNameAt tree place → IsSome (namespace_at tree place)
  namespace_there (places.Element n) h = shown_element tree n.0 h
  namespace_there (places.Attribute n i) h = shown_attribute tree n.0 i h
  namespace_there (places.Declaration n i) h = some_namespace (binding_at tree n.0 i) h
    where
      some_namespace : (o : Option Binding) → IsSome o → IsSome (option_map (λ (b : Binding). b.namespace) o)
      some_namespace None k = k
      some_namespace (Some b) k = refl

  pub kept_text : (place : NameAt) (found : Kept) → found ≡ kept_for tree place → IsNameAt tree place → kept_at names found ≡ namespace_at tree place
  kept_text place found e h = ap (kept_at names) e ∙ kept_is place h

  pub kept_there : (place : NameAt) (found : Kept) → found ≡ kept_for tree place → IsNameAt tree place → IsSome (kept_at names found)
  kept_there place found e h = subst IsSome (sym (kept_text place found e h)) (namespace_there place h)

  pub same_kept : (one other : NameAt) (a b : Kept) (same : Bool) → a ≡ kept_for tree one → b ≡ kept_for tree other → IsNameAt tree one →
      IsNameAt tree other → IsTrue same ↔ (kept_at names a ≡ kept_at names b) → IsTrue same ↔ (namespace_at tree one ≡ namespace_at tree other)
  same_kept one other a b same e f h k d =
      let first = kept_text one a e h in
      let second = kept_text other b f k in
      (λ t. sym first ∙ d.0 t ∙ second, λ u. d.1 (first ∙ u ∙ sym second))
