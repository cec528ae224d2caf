-- An element's names keep the rules where its name and each attribute do alone, and no two attributes have one name.
use Rattle.std.proofs.Common.{◌≡◌, ◌≢◌, ℕ, Bool, true, false, cond, ◌&&◌, ◌||◌, not, ◌==◌, List, [], ◌∷◌, ◌++◌, codes, length, map, filter, take, drop, Option, Some, None, is_some, MatchOption, refl, sym, ◌∙◌, ap, subst, unwrap_or, arith}
use Rattle.std.specs.List.{AllByRecursion, list_any, cons_option, slice_get}
use Rattle.std.specs.Option.{option_map, option_map_or}
use Rattle.std.specs.Str.{bytes_eq}
use Rattle.std.proofs.lemmas.Bool.{false_from_ne_true}
use Rattle.std.proofs.lemmas.List.{length-map, take_all}
use Rattle.std.proofs.lemmas.Slice.Eq.{bytes_eq-Decides}
use Rattle.xml_spec.specs.Characters.{IsName, IsNoColonName, IsQualifiedName, at_colon, prefix_of, local_of}
use Rattle.xml_spec.specs.Tree.{Attribute}
use Rattle.xml_spec.specs.Names.{Scope, Binding, ExpandedName, declared_prefix, declarations, proper_attributes, attribute_name, IsInScope, AreDistinct, IsBinding, IsNamed, namespace_of}
use Rattle.xml_spec.specs.Canonical.{declaration_name}
use Rattle.xml_spec.proofs.NameBytes.{name_is_not_empty}
use Rattle.xml_spec.proofs.Ends.{neither}
use Rattle.xml_spec.proofs.Tests.{both_true, and_true}
use Rattle.xml_spec.proofs.Tokens.{fails}
use Rattle.element_names.specs.Keys.{are_apart}
use Rattle.element_names.specs.Named.{IsWellElement, IsWellAttribute, Listed, listed, kept_namespace, numbers_from, is_proper_same, are_apart_expanded, expanded_view, AreInTable, AreExpanded}
use Rattle.xml_tokens.specs.declared.token.Attribute as row
use Rattle.xml_tokens.specs.Views.{attribute_view}
use Rattle.element_names.specs.declared.names.Expanded.{Expanded}
use Rattle.element_names.proofs.TableIndexing.{found_is}

-- the test says that no two names are equal
others_differ : (name : List ℕ) (names : List (List ℕ)) → list_any (λ other. bytes_eq other name) names ≡ false →
    AllByRecursion (λ other. name ≢ other) names
others_differ name [] h = tt
others_differ name (other ∷ names) h = by_test (bytes_eq other name) refl h (others_differ name names)
  where
    by_test : (b : Bool) → bytes_eq other name ≡ b → (b || list_any (λ x. bytes_eq x name) names) ≡ false →
        (list_any (λ x. bytes_eq x name) names ≡ false → AllByRecursion (λ x. name ≢ x) names) →
        (name ≢ other) × AllByRecursion (λ x. name ≢ x) names
    by_test true e k behind = absurd (let clash : true ≡ false = k in cc)
    by_test false e k behind =
        (λ same. absurd (let clash : true ≡ false = sym ((bytes_eq-Decides other name).1 (sym same)) ∙ e in cc), behind k)

none_is_equal : (name : List ℕ) (names : List (List ℕ)) → AllByRecursion (λ other. name ≢ other) names →
    list_any (λ other. bytes_eq other name) names ≡ false
none_is_equal name [] h = refl
none_is_equal name (other ∷ names) h =
    let differs : bytes_eq other name ≡ false =
    false_from_ne_true (bytes_eq other name) (λ e. h.0 (sym ((bytes_eq-Decides other name).0 e))) in
    ap (λ b. b || list_any (λ x. bytes_eq x name) names) differs ∙ none_is_equal name names h.1

pub distinct_from : (names : List (List ℕ)) → are_apart names ≡ true → AreDistinct names
distinct_from [] h = tt
distinct_from (name ∷ names) h =
    let both = both_true (not (list_any (λ other. bytes_eq other name) names)) (are_apart names) h in
    (others_differ name names (fails (list_any (λ other. bytes_eq other name) names) both.0), distinct_from names both.1)

pub apart_from : (names : List (List ℕ)) → AreDistinct names → are_apart names ≡ true
apart_from [] h = refl
apart_from (name ∷ names) h =
    and_true (not (list_any (λ other. bytes_eq other name) names)) (are_apart names)
    (ap not (none_is_equal name names h.0)) (apart_from names h.1)

-- the same of expanded names
abbrev is_same : ExpandedName → ExpandedName → Bool
is_same x y = bytes_eq x.local y.local && bytes_eq x.namespace y.namespace

same_from : (x y : ExpandedName) → is_same x y ≡ true → x ≡ y
same_from x y h =
    let both = both_true (bytes_eq x.local y.local) (bytes_eq x.namespace y.namespace) h in
    let locals = (bytes_eq-Decides x.local y.local).0 both.0 in
    let namespaces = (bytes_eq-Decides x.namespace y.namespace).0 both.1 in
    (λ i. record { namespace = namespaces i; local = locals i })

same_to : (x y : ExpandedName) → x ≡ y → is_same x y ≡ true
same_to x y e =
    and_true (bytes_eq x.local y.local) (bytes_eq x.namespace y.namespace)
    ((bytes_eq-Decides x.local y.local).1 (ap (λ n. n.local) e))
    ((bytes_eq-Decides x.namespace y.namespace).1 (ap (λ n. n.namespace) e))

-- the names that count
abbrev proper_names : List Listed → List ExpandedName
proper_names xs = map (λ (x : Listed). x.1) (filter (λ (x : Listed). x.0) xs)

expanded_differ : (x : ExpandedName) (xs : List Listed) → list_any (is_proper_same x) xs ≡ false → AllByRecursion (λ y. x ≢ y) (proper_names xs)
expanded_differ x [] h = tt
expanded_differ x (y ∷ xs) h = by_test y.0 (is_same x y.1) refl h (expanded_differ x xs)
  where
    by_test : (p b : Bool) → is_same x y.1 ≡ b → ((p && b) || list_any (is_proper_same x) xs) ≡ false →
        (list_any (is_proper_same x) xs ≡ false → AllByRecursion (λ z. x ≢ z) (proper_names xs)) →
        AllByRecursion (λ z. x ≢ z) (map (λ (z : Listed). z.1) (cond p (y ∷ filter (λ (z : Listed). z.0) xs) (filter (λ (z : Listed). z.0) xs)))
    by_test true true e k behind = absurd (let clash : true ≡ false = k in cc)
    by_test true false e k behind =
        (λ same. absurd (let clash : true ≡ false = sym (same_to x y.1 same) ∙ e in cc), behind k)
    by_test false b e k behind = behind k

none_is_expanded : (x : ExpandedName) (xs : List Listed) → AllByRecursion (λ y. x ≢ y) (proper_names xs) → list_any (is_proper_same x) xs ≡ false
none_is_expanded x [] h = refl
none_is_expanded x (y ∷ xs) h = by_test y.0 (is_same x y.1) refl h (none_is_expanded x xs)
  where
    by_test : (p b : Bool) → is_same x y.1 ≡ b →
        AllByRecursion (λ z. x ≢ z) (map (λ (z : Listed). z.1) (cond p (y ∷ filter (λ (z : Listed). z.0) xs) (filter (λ (z : Listed). z.0) xs))) →
        (AllByRecursion (λ z. x ≢ z) (proper_names xs) → list_any (is_proper_same x) xs ≡ false) →
        ((p && b) || list_any (is_proper_same x) xs) ≡ false
    by_test true true e k behind = absurd (k.0 (same_from x y.1 e))
    by_test true false e k behind = behind k.1
    by_test false b e k behind = behind k

expanded_distinct : (xs : List Listed) → are_apart_expanded xs ≡ true → AreDistinct (proper_names xs)
expanded_distinct [] h = tt
expanded_distinct (x ∷ xs) h =
    let both = both_true (not (x.0 && list_any (is_proper_same x.1) xs)) (are_apart_expanded xs) h in
    by_test x.0 both.0 (expanded_distinct xs both.1)
  where
    by_test : (p : Bool) → not (p && list_any (is_proper_same x.1) xs) ≡ true → AreDistinct (proper_names xs) →
        AreDistinct (map (λ (z : Listed). z.1) (cond p (x ∷ filter (λ (z : Listed). z.0) xs) (filter (λ (z : Listed). z.0) xs)))
    by_test true k behind = (expanded_differ x.1 xs (fails (list_any (is_proper_same x.1) xs) k), behind)
    by_test false k behind = behind

expanded_apart : (xs : List Listed) → AreDistinct (proper_names xs) → are_apart_expanded xs ≡ true
expanded_apart [] h = refl
expanded_apart (x ∷ xs) h = by_test x.0 h (expanded_apart xs)
  where
    by_test : (p : Bool) →
        AreDistinct (map (λ (z : Listed). z.1) (cond p (x ∷ filter (λ (z : Listed). z.0) xs) (filter (λ (z : Listed). z.0) xs))) →
        (AreDistinct (proper_names xs) → are_apart_expanded xs ≡ true) →
        (not (p && list_any (is_proper_same x.1) xs) && are_apart_expanded xs) ≡ true
    by_test true k behind =
        and_true (not (list_any (is_proper_same x.1) xs)) (are_apart_expanded xs) (ap not (none_is_expanded x.1 xs k.0)) (behind k.1)
    by_test false k behind = behind k

-- the names that count are those of the attributes that declare nothing
abbrev name_in : Scope → Attribute → ExpandedName
name_in scope a = attribute_name scope a.name

proper_names_are : (scope : Scope) (attributes : List Attribute) →
    proper_names (map (listed scope) attributes) ≡ map (name_in scope) (proper_attributes attributes)
proper_names_are scope [] = refl
proper_names_are scope (a ∷ attributes) = by_case (declared_prefix a.name) (proper_names_are scope attributes)
  where
    by_case : (o : Option (List ℕ)) → proper_names (map (listed scope) attributes) ≡ map (name_in scope) (proper_attributes attributes) →
        map (λ (z : Listed). z.1)
        (cond (not (is_some o)) ((not (is_some o), record { namespace = option_map_or (namespace_of scope) o (attribute_name scope a.name).namespace; local = local_of a.name }) ∷ filter (λ (z : Listed). z.0) (map (listed scope) attributes))
        (filter (λ (z : Listed). z.0) (map (listed scope) attributes)))
        ≡ map (name_in scope) (cond (not (is_some o)) (a ∷ proper_attributes attributes) (proper_attributes attributes))
    by_case (Some p) behind = behind
    by_case None behind = ap (λ names. name_in scope a ∷ names) behind

-- what is asked of each attribute alone
abbrev parts_well : Scope → Attribute → Option (List ℕ) → Type 0
parts_well scope a o = MatchOption (option_map (λ p. record { prefix = p; namespace = a.value }) o) (IsInScope scope a.name) IsBinding

all_qualified : (scope : Scope) (attributes : List Attribute) → AllByRecursion (IsWellAttribute scope) attributes →
    AllByRecursion (λ a. IsQualifiedName a.name) attributes
all_qualified scope [] h = tt
all_qualified scope (a ∷ attributes) h = (h.0.qualified, all_qualified scope attributes h.1)

all_in_scope : (scope : Scope) (attributes : List Attribute) → AllByRecursion (IsWellAttribute scope) attributes →
    AllByRecursion (λ a. IsInScope scope a.name) (proper_attributes attributes)
all_in_scope scope [] h = tt
all_in_scope scope (a ∷ attributes) h = by_case (declared_prefix a.name) h.0.bound (all_in_scope scope attributes h.1)
  where
    by_case : (o : Option (List ℕ)) → parts_well scope a o → AllByRecursion (λ b. IsInScope scope b.name) (proper_attributes attributes) →
        AllByRecursion (λ b. IsInScope scope b.name) (cond (not (is_some o)) (a ∷ proper_attributes attributes) (proper_attributes attributes))
    by_case None k behind = (k, behind)
    by_case (Some p) k behind = behind

all_binding : (scope : Scope) (attributes : List Attribute) → AllByRecursion (IsWellAttribute scope) attributes →
    AllByRecursion IsBinding (declarations attributes)
all_binding scope [] h = tt
all_binding scope (a ∷ attributes) h = by_case (declared_prefix a.name) h.0.bound (all_binding scope attributes h.1)
  where
    by_case : (o : Option (List ℕ)) → parts_well scope a o → AllByRecursion IsBinding (declarations attributes) →
        AllByRecursion IsBinding (cons_option (option_map (λ p. record { prefix = p; namespace = a.value }) o) (declarations attributes))
    by_case None k behind = behind
    by_case (Some p) k behind = (k, behind)

well_from : (scope : Scope) (attributes : List Attribute) → AllByRecursion (λ a. IsQualifiedName a.name) attributes →
    AllByRecursion (λ a. IsInScope scope a.name) (proper_attributes attributes) → AllByRecursion IsBinding (declarations attributes) →
    AllByRecursion (IsWellAttribute scope) attributes
well_from scope [] q s b = tt
well_from scope (a ∷ attributes) q s b =
    let rest = by_case (declared_prefix a.name) s b in
    (record { qualified = q.0; bound = rest.0 }, well_from scope attributes q.1 rest.1 rest.2)
  where
    by_case : (o : Option (List ℕ)) →
        AllByRecursion (λ x. IsInScope scope x.name) (cond (not (is_some o)) (a ∷ proper_attributes attributes) (proper_attributes attributes)) →
        AllByRecursion IsBinding (cons_option (option_map (λ p. record { prefix = p; namespace = a.value }) o) (declarations attributes)) →
        parts_well scope a o × AllByRecursion (λ x. IsInScope scope x.name) (proper_attributes attributes) × AllByRecursion IsBinding (declarations attributes)
    by_case None k l = (k.0, k.1, l)
    by_case (Some p) k l = (l.0, k, l.1)

-- a name is what stands before its colon, the colon, and what stands behind it
joined_more : (b : ℕ) (name : List ℕ) (parts : List ℕ × List ℕ) (o : Option (List ℕ × List ℕ)) →
    ((p : List ℕ × List ℕ) → o ≡ Some p → name ≡ p.0 ++ 58 ∷ p.1) →
    option_map (λ (p : List ℕ × List ℕ). (b ∷ p.0, p.1)) o ≡ Some parts → b ∷ name ≡ parts.0 ++ 58 ∷ parts.1
joined_more b name parts None behind k = absurd (let clash : None ≡ Some parts = k in cc)
joined_more b name parts (Some p) behind k =
    let are : (b ∷ p.0, p.1) ≡ parts = cc in
    subst (λ (q : List ℕ × List ℕ). b ∷ name ≡ q.0 ++ 58 ∷ q.1) are (ap (λ x. b ∷ x) (behind p refl))

joined : (name : List ℕ) (parts : List ℕ × List ℕ) → at_colon name ≡ Some parts → name ≡ parts.0 ++ 58 ∷ parts.1
joined [] parts e = absurd (let clash : None ≡ Some parts = e in cc)
joined (b ∷ name) parts e = by_test (b == 58) refl e (λ p f. joined name p f)
  where
    by_test : (t : Bool) → (b == 58) ≡ t →
        cond t (Some ([], name)) (option_map (λ (p : List ℕ × List ℕ). (b ∷ p.0, p.1)) (at_colon name)) ≡ Some parts →
        ((p : List ℕ × List ℕ) → at_colon name ≡ Some p → name ≡ p.0 ++ 58 ∷ p.1) →
        b ∷ name ≡ parts.0 ++ 58 ∷ parts.1
    by_test true t k behind =
        let same : b ≡ 58 = grind arith in
        let are : ([], name) ≡ parts = cc in
        subst (λ (p : List ℕ × List ℕ). b ∷ name ≡ p.0 ++ 58 ∷ p.1) are (ap (λ x. x ∷ name) same)
    by_test false t k behind = joined_more b name parts (at_colon name) behind k

-- a qualified name that declares a prefix is the name of that declaration
declares_by_name : (name p : List ℕ) → IsQualifiedName name → declared_prefix name ≡ Some p → name ≡ declaration_name p
declares_by_name name p q e = by_test (bytes_eq name (codes "xmlns")) refl e
  where
    some_local : (l : List ℕ) → IsName l → codes "xmlns" ++ 58 ∷ l ≡ declaration_name l
    some_local [] n = absurd (omega (arith, name_is_not_empty [] n))
    some_local (b ∷ l) n = refl

    by_parts : (o : Option (List ℕ × List ℕ)) → at_colon name ≡ o →
        MatchOption o (IsName name) (λ parts. IsNoColonName parts.0 × IsNoColonName parts.1) →
        cond (bytes_eq (unwrap_or (option_map (λ parts. parts.0) o) []) (codes "xmlns")) (Some (unwrap_or (option_map (λ parts. parts.1) o) name)) None ≡ Some p →
        name ≡ declaration_name p
    by_parts None f k l = absurd (let clash : None ≡ Some p = l in cc)
    by_parts (Some parts) f k l = by_prefix (bytes_eq parts.0 (codes "xmlns")) refl l
      where
        by_prefix : (t : Bool) → bytes_eq parts.0 (codes "xmlns") ≡ t → cond t (Some parts.1) None ≡ Some p → name ≡ declaration_name p
        by_prefix true t m =
            let prefix : parts.0 ≡ codes "xmlns" = (bytes_eq-Decides parts.0 (codes "xmlns")).0 t in
            let local : parts.1 ≡ p = cc in
            joined name parts f ∙ ap (λ x. x ++ 58 ∷ parts.1) prefix ∙ some_local parts.1 k.1.0 ∙ ap declaration_name local
        by_prefix false t m = absurd (let clash : None ≡ Some p = m in cc)

    by_test : (t : Bool) → bytes_eq name (codes "xmlns") ≡ t →
        cond t (Some []) (cond (bytes_eq (prefix_of name) (codes "xmlns")) (Some (local_of name)) None) ≡ Some p → name ≡ declaration_name p
    by_test true t k =
        let default : [] ≡ p = cc in
        (bytes_eq-Decides name (codes "xmlns")).0 t ∙ ap declaration_name default
    by_test false t k = by_parts (at_colon name) refl q k

-- prefixes differ where names do
abbrev prefixes : List Attribute → List (List ℕ)
prefixes attributes = map (λ (b : Binding). b.prefix) (declarations attributes)

prefixes_differ : (name p : List ℕ) (attributes : List Attribute) → IsQualifiedName name → declared_prefix name ≡ Some p →
    AllByRecursion (λ a. IsQualifiedName a.name) attributes → AllByRecursion (λ other. name ≢ other) (map (λ a. a.name) attributes) →
    AllByRecursion (λ other. p ≢ other) (prefixes attributes)
prefixes_differ name p [] q e all h = tt
prefixes_differ name p (a ∷ attributes) q e all h =
    by_case (declared_prefix a.name) refl (prefixes_differ name p attributes q e all.1 h.1)
  where
    by_case : (o : Option (List ℕ)) → declared_prefix a.name ≡ o → AllByRecursion (λ other. p ≢ other) (prefixes attributes) →
        AllByRecursion (λ other. p ≢ other) (map (λ (b : Binding). b.prefix) (cons_option (option_map (λ x. record { prefix = x; namespace = a.value }) o) (declarations attributes)))
    by_case None f behind = behind
    by_case (Some other) f behind =
        (λ same. h.0 (declares_by_name name p q e ∙ ap declaration_name same ∙ sym (declares_by_name a.name other all.0 f)), behind)

prefixes_once : (attributes : List Attribute) → AllByRecursion (λ a. IsQualifiedName a.name) attributes →
    AreDistinct (map (λ a. a.name) attributes) → AreDistinct (prefixes attributes)
prefixes_once [] all h = tt
prefixes_once (a ∷ attributes) all h = by_case (declared_prefix a.name) refl (prefixes_once attributes all.1 h.1)
  where
    by_case : (o : Option (List ℕ)) → declared_prefix a.name ≡ o → AreDistinct (prefixes attributes) →
        AreDistinct (map (λ (b : Binding). b.prefix) (cons_option (option_map (λ x. record { prefix = x; namespace = a.value }) o) (declarations attributes)))
    by_case None f behind = behind
    by_case (Some p) f behind = (prefixes_differ a.name p attributes all.0 f all.1 h.0, behind)

pub named_from : (scope : Scope) (name : List ℕ) (attributes : List Attribute) → IsWellElement scope name →
    AllByRecursion (IsWellAttribute scope) attributes → are_apart (map (λ a. a.name) attributes) ≡ true →
    are_apart_expanded (map (listed scope) attributes) ≡ true → IsNamed scope name attributes
named_from scope name attributes own all apart expanded =
    let once = distinct_from (map (λ a. a.name) attributes) apart in
    record {
      qualified = own.qualified;
      all_qualified = all_qualified scope attributes all;
      in_scope = own.in_scope;
      all_in_scope = all_in_scope scope attributes all;
      not_xmlns = own.not_xmlns;
      declares = all_binding scope attributes all;
      prefixes_once = prefixes_once attributes (all_qualified scope attributes all) once;
      names_once = once;
      expanded_once = subst AreDistinct (proper_names_are scope attributes) (expanded_distinct (map (listed scope) attributes) expanded);
    }

pub well_attributes : (scope : Scope) (name : List ℕ) (attributes : List Attribute) → IsNamed scope name attributes →
    AllByRecursion (IsWellAttribute scope) attributes
well_attributes scope name attributes n = well_from scope attributes n.all_qualified n.all_in_scope n.declares

pub names_apart : (scope : Scope) (name : List ℕ) (attributes : List Attribute) → IsNamed scope name attributes →
    are_apart (map (λ a. a.name) attributes) ≡ true
names_apart scope name attributes n = apart_from (map (λ a. a.name) attributes) n.names_once

pub expanded_are_apart : (scope : Scope) (name : List ℕ) (attributes : List Attribute) → IsNamed scope name attributes →
    are_apart_expanded (map (listed scope) attributes) ≡ true
expanded_are_apart scope name attributes n =
    expanded_apart (map (listed scope) attributes) (subst AreDistinct (sym (proper_names_are scope attributes)) n.expanded_once)

-- the numbers of the names lead to their namespaces
-- where no name has a prefix, expanded names differ as the names do
own_local : (name : List ℕ) → is_some (at_colon name) ≡ false → local_of name ≡ name
own_local name h = by_colon (at_colon name) h
  where
    by_colon : (o : Option (List ℕ × List ℕ)) → is_some o ≡ false → unwrap_or (option_map (λ (parts : List ℕ × List ℕ). parts.1) o) name ≡ name
    by_colon None e = refl
    by_colon (Some parts) e = absurd (let clash : true ≡ false = e in cc)

not_both : (a b : Bool) → (a && (false && b)) ≡ false
not_both true b = refl
not_both false b = refl

local_differs : (scope : Scope) (a b : Attribute) → is_some (at_colon a.name) ≡ false → is_some (at_colon b.name) ≡ false →
    bytes_eq b.name a.name ≡ false → is_proper_same (listed scope a).1 (listed scope b) ≡ false
local_differs scope a b none other h =
    let apart : bytes_eq (local_of a.name) (local_of b.name) ≡ false =
    false_from_ne_true (bytes_eq (local_of a.name) (local_of b.name)) (λ e.
    let same : a.name ≡ b.name = sym (own_local a.name none) ∙ (bytes_eq-Decides (local_of a.name) (local_of b.name)).0 e ∙ own_local b.name other in
    let clash : true ≡ false = sym ((bytes_eq-Decides b.name a.name).1 (sym same)) ∙ h in cc) in
    ap (λ t. (listed scope b).0 && (t && bytes_eq (listed scope a).1.namespace (listed scope b).1.namespace)) apart
    ∙ not_both (listed scope b).0 (bytes_eq (listed scope a).1.namespace (listed scope b).1.namespace)

none_has_its_local : (scope : Scope) (a : Attribute) (attributes : List Attribute) → is_some (at_colon a.name) ≡ false →
    list_any (λ (b : Attribute). is_some (at_colon b.name)) attributes ≡ false →
    list_any (λ other. bytes_eq other a.name) (map (λ (b : Attribute). b.name) attributes) ≡ false →
    list_any (is_proper_same (listed scope a).1) (map (listed scope) attributes) ≡ false
none_has_its_local scope a [] none all h = refl
none_has_its_local scope a (b ∷ attributes) none all h =
    let own = neither (is_some (at_colon b.name)) (list_any (λ (c : Attribute). is_some (at_colon c.name)) attributes) all in
    let differs = neither (bytes_eq b.name a.name) (list_any (λ other. bytes_eq other a.name) (map (λ (c : Attribute). c.name) attributes)) h in
    ap (λ t. t || list_any (is_proper_same (listed scope a).1) (map (listed scope) attributes)) (local_differs scope a b none own.0 differs.0)
    ∙ none_has_its_local scope a attributes none own.1 differs.1

-- of attributes as the program keeps them
pub no_prefixes : (kept : List row.Attribute) → list_any (λ (a : row.Attribute). is_some (at_colon a.name)) kept ≡ false →
    list_any (λ (a : Attribute). is_some (at_colon a.name)) (map attribute_view kept) ≡ false
no_prefixes [] h = refl
no_prefixes (a ∷ kept) h =
    let own = neither (is_some (at_colon a.name)) (list_any (λ (b : row.Attribute). is_some (at_colon b.name)) kept) h in
    ap (λ t. t || list_any (λ (b : Attribute). is_some (at_colon b.name)) (map attribute_view kept)) own.0 ∙ no_prefixes kept own.1

pub apart_without_prefixes : (scope : Scope) (attributes : List Attribute) →
    list_any (λ (a : Attribute). is_some (at_colon a.name)) attributes ≡ false →
    are_apart (map (λ (a : Attribute). a.name) attributes) ≡ true → are_apart_expanded (map (listed scope) attributes) ≡ true
apart_without_prefixes scope [] all h = refl
apart_without_prefixes scope (a ∷ attributes) all h =
    let own = neither (is_some (at_colon a.name)) (list_any (λ (b : Attribute). is_some (at_colon b.name)) attributes) all in
    let both = both_true (not (list_any (λ other. bytes_eq other a.name) (map (λ (b : Attribute). b.name) attributes)))
    (are_apart (map (λ (b : Attribute). b.name) attributes)) h in
    let free = none_has_its_local scope a attributes own.0 own.1
    (fails (list_any (λ other. bytes_eq other a.name) (map (λ (b : Attribute). b.name) attributes)) both.0) in
    ap (λ t. not ((listed scope a).0 && t) && are_apart_expanded (map (listed scope) attributes)) free
    ∙ and_true (not ((listed scope a).0 && false)) (are_apart_expanded (map (listed scope) attributes))
    (never (listed scope a).0) (apart_without_prefixes scope attributes own.1 both.1)
  where
    never : (b : Bool) → not (b && false) ≡ true
    never true = refl
    never false = refl

numbers_lead : (table : List (List ℕ)) (list : List Expanded) → AreInTable table list →
    map (slice_get table) (map (λ (e : Expanded). e.namespace) list) ≡ map (λ (x : Listed). Some x.1.namespace) (map (expanded_view table) list)
numbers_lead table [] h = refl
numbers_lead table (e ∷ list) h = (λ i. found_is table e.namespace [] h.0 i ∷ numbers_lead table list h.1 i)

listed_namespaces : (scope : Scope) (attributes : List Attribute) →
    map (λ (x : Listed). Some x.1.namespace) (map (listed scope) attributes) ≡ map (λ a. Some (kept_namespace scope a)) attributes
listed_namespaces scope [] = refl
listed_namespaces scope (a ∷ attributes) = ap (λ list. Some (kept_namespace scope a) ∷ list) (listed_namespaces scope attributes)

-- what stands behind a list
behind_all : {X : Type 0} (front back : List X) → take (length back) (drop (length front) (front ++ back)) ≡ back
behind_all [] back = take_all (length back) back (omega arith)
behind_all (x ∷ front) back = behind_all front back

pub numbers_resolve : (table : List (List ℕ)) (scope : Scope) (attributes : List Attribute) (list : List Expanded) (before after : List ℕ) (from : ℕ) →
    AreExpanded table (map (listed scope) attributes) list → after ≡ before ++ map (λ (e : Expanded). e.namespace) list → from ≡ length before →
    map (slice_get table) (numbers_from after from (length attributes)) ≡ map (λ a. Some (kept_namespace scope a)) attributes
numbers_resolve table scope attributes list before after from are is start =
    let own : List ℕ = map (λ (e : Expanded). e.namespace) list in
    let count : length own ≡ length attributes =
    omega (arith, length-map list (λ (e : Expanded). e.namespace), length-map list (expanded_view table), ap length are.are, length-map attributes (listed scope)) in
    ap (map (slice_get table)) ((λ i. numbers_from (is i) (start i) (sym count i)) ∙ behind_all before own)
    ∙ numbers_lead table list are.in_table
    ∙ ap (map (λ (x : Listed). Some x.1.namespace)) are.are ∙ listed_namespaces scope attributes
