-- The prefixes that are wanted: found one by one, they are those of the definition.
use Rattle.std.proofs.Common.{◌≡◌, ℕ, suc, ◌+◌, ◌<◌, ◌≤◌, Bool, true, false, not, cond, ltb, ◌||◌, ◌&&◌, codes, List, [], ◌∷◌, ◌++◌, length, map, filter, take, get_or, Option, Some, None, IsSome, IfSome, Bor, refl, sym, ap, ◌∙◌, subst, arith}
use Rattle.std.specs.List.{slice_get}
use Rattle.std.specs.Option.{option_map, option_and_then, is_some, unwrap_or}
use Rattle.std.specs.Str.{bytes_eq}
use Rattle.std.proofs.lemmas.List.{map-append, append-nil, append_assoc, take_more, take_all}
use Rattle.std.proofs.lemmas.List.Elements.{filter-append}
use Rattle.std.proofs.lemmas.List.Folds.{list_any-append}
use Rattle.std.proofs.lemmas.List.Sums.{sum_by-cons}
use Rattle.std.proofs.lemmas.Cmp.{nat_list_eq_equiv}
use Rattle.std.proofs.lemmas.Slice.Eq.{bytes_eq-Decides}
use Rattle.std.proofs.lemmas.Bool.{lt-ltb}
use Rattle.xml_spec.specs.Bytes.{is_empty}
use Rattle.xml_spec.specs.Characters.{prefix_of, local_of}
use Rattle.xml_spec.specs.Tree.{Attribute, Nodes}
use Rattle.xml_spec.specs.Numbering.{from_node}
use Rattle.xml_spec.specs.Names.{Binding, Scope, namespace_of, declared_prefix, is_declaration, proper_attributes}
use Rattle.xml_spec.specs.Canonical.{byte_order, used_prefixes, listed_prefix, is_rendered_anew}
use Rattle.xml_spec.specs.Laws.{IsAscending, times_declared}
use Rattle.xml_spec.proofs.Declared.{declarations_ascend, declared_as_needed}
use Rattle.saml_tree.specs.Documents.{attributes_of}
use Rattle.saml_tree.specs.NodeNames.{attribute_at}
use Rattle.saml_tree.specs.Elements.{attributes_in}
use Rattle.excl_c14n.specs.Levels.{is_among, binding_in, AreListedRendered}
use Rattle.excl_c14n.specs.NodeByNode.{wanted_prefixes, IsWanted}
use Rattle.excl_c14n.proofs.Ascending.{same_ascending}
use Rattle.excl_c14n.proofs.Listing.{taken_more}

-- one more candidate
or_over_and : (a b c : Bool) → ((a && c) || ((b || false) && c)) ≡ ((a || (b || false)) && c)
or_over_and true true true = refl
or_over_and true true false = refl
or_over_and true false true = refl
or_over_and true false false = refl
or_over_and false true true = refl
or_over_and false true false = refl
or_over_and false false c = refl

one_only : (b : Bool) → b ≡ (b || false)
one_only true = refl
one_only false = refl

pub one_more_wanted : (scope rendered : Scope) (candidates wanted new : List (List ℕ)) (p : List ℕ) →
    IsWanted scope rendered candidates wanted → IsAscending byte_order new →
    ((q : List ℕ) → is_among q new ≡ (is_among q wanted || (bytes_eq q p && is_rendered_anew scope rendered q))) →
    IsWanted scope rendered (candidates ++ p ∷ []) new
one_more_wanted scope rendered candidates wanted new p so_far up among = record {
  ascending = up;
  among = λ q.
      among q
      ∙ (λ i. so_far.among q i || (one_only (bytes_eq q p) i && is_rendered_anew scope rendered q))
      ∙ or_over_and (is_among q candidates) (bytes_eq q p) (is_rendered_anew scope rendered q)
      ∙ ap (λ b. b && is_rendered_anew scope rendered q) (sym (list_any-append (bytes_eq q) candidates (p ∷ [])));
}

-- what an attribute adds to the prefixes that are used
abbrev own_prefixes : Attribute → List (List ℕ)
own_prefixes a =
    filter (λ prefix. not (is_empty prefix)) (map (λ (b : Attribute). prefix_of b.name) (proper_attributes (a ∷ [])))

used_more : (name : List ℕ) (attributes : List Attribute) (a : Attribute) →
    used_prefixes name (attributes ++ a ∷ []) ≡ used_prefixes name attributes ++ own_prefixes a
used_more name attributes a =
    ap (λ xs. prefix_of name ∷ filter (λ prefix. not (is_empty prefix)) (map (λ (b : Attribute). prefix_of b.name) xs))
    (filter-append (λ (b : Attribute). not (is_declaration b)) attributes (a ∷ []))
    ∙ ap (λ xs. prefix_of name ∷ filter (λ prefix. not (is_empty prefix)) xs)
    (map-append (λ (b : Attribute). prefix_of b.name) (proper_attributes attributes) (proper_attributes (a ∷ [])))
    ∙ ap (λ xs. prefix_of name ∷ xs)
    (filter-append (λ prefix. not (is_empty prefix)) (map (λ (b : Attribute). prefix_of b.name) (proper_attributes attributes))
    (map (λ (b : Attribute). prefix_of b.name) (proper_attributes (a ∷ []))))

own_is : (a : Attribute) (proper empty : Bool) → not (is_declaration a) ≡ proper → is_empty (prefix_of a.name) ≡ empty →
    own_prefixes a ≡ cond proper (cond (not empty) (prefix_of a.name ∷ []) []) []
own_is a proper empty one other =
    ap (λ b. filter (λ prefix. not (is_empty prefix)) (map (λ (b : Attribute). prefix_of b.name) (cond b (a ∷ []) []))) one
    ∙ which proper
  where
    which : (b : Bool) → filter (λ prefix. not (is_empty prefix)) (map (λ (c : Attribute). prefix_of c.name) (cond b (a ∷ []) []))
        ≡ cond b (cond (not empty) (prefix_of a.name ∷ []) []) []
    which true = ap (λ t. cond (not t) (prefix_of a.name ∷ []) []) other
    which false = refl

pub shown_attribute : (tree : Nodes) (n i : ℕ) → attribute_at tree n i ≡ slice_get (attributes_in (from_node tree n)) i
shown_attribute tree n i = which (attributes_of (from_node tree n))
  where
    which : (o : Option (List Attribute)) → option_and_then (λ attributes. slice_get attributes i) o ≡ slice_get (unwrap_or o []) i
    which None = refl
    which (Some attributes) = refl

is_some_map : (o : Option (Bor (List ℕ))) → is_some (option_map (λ (p : Bor (List ℕ)). p.now) o) ≡ is_some o
is_some_map None = refl
is_some_map (Some p) = refl

-- the used prefixes when one more attribute was looked at
used_next : (name : List ℕ) (attributes : List Attribute) (i : ℕ) (a : Attribute) → slice_get attributes i ≡ Some a →
    used_prefixes name (take (i + 1) attributes) ≡ used_prefixes name (take i attributes) ++ own_prefixes a
used_next name attributes i a there =
    let next : i + 1 ≡ suc i = omega arith in
    ap (λ k. used_prefixes name (take k attributes)) next ∙ ap (used_prefixes name) (taken_more attributes i a there)
    ∙ used_more name (take i attributes) a

pub attribute_wanted : (scope rendered : Scope) (tree : Nodes) (n i : ℕ) (name prefix local : List ℕ) (declared : Option (Bor (List ℕ)))
    (wanted new : List (List ℕ)) → IsSome (attribute_at tree n i) →
    IfSome (attribute_at tree n i) (λ a. (prefix ≡ prefix_of a.name) × (local ≡ local_of a.name)) →
    IfSome (attribute_at tree n i) (λ a. option_map (λ (p : Bor (List ℕ)). p.now) declared ≡ declared_prefix a.name) →
    is_some declared ≡ false → is_empty prefix ≡ false →
    IsWanted scope rendered (used_prefixes name (take i (attributes_in (from_node tree n)))) wanted → IsAscending byte_order new →
    ((q : List ℕ) → is_among q new ≡ (is_among q wanted || (bytes_eq q prefix && is_rendered_anew scope rendered q))) →
    IsWanted scope rendered (used_prefixes name (take (i + 1) (attributes_in (from_node tree n)))) new
attribute_wanted scope rendered tree n i name prefix local declared wanted new there parts known none some so_far up among =
    which (attribute_at tree n i) refl there parts known
  where
    which : (o : Option Attribute) → attribute_at tree n i ≡ o → IsSome o → IfSome o (λ a. (prefix ≡ prefix_of a.name) × (local ≡ local_of a.name)) →
        IfSome o (λ a. option_map (λ (p : Bor (List ℕ)). p.now) declared ≡ declared_prefix a.name) →
        IsWanted scope rendered (used_prefixes name (take (i + 1) (attributes_in (from_node tree n)))) new
    which None is there parts known = absurd (let clash : false ≡ true = there in cc)
    which (Some a) is there parts known =
        subst (λ (candidates : List (List ℕ)). IsWanted scope rendered candidates new)
        (sym (used_next name (attributes_in (from_node tree n)) i a (sym (shown_attribute tree n i) ∙ is)
        ∙ ap (λ xs. used_prefixes name (take i (attributes_in (from_node tree n))) ++ xs)
        (own_is a true false (ap (λ o. not (is_some o)) (sym known) ∙ ap not (is_some_map declared ∙ none)) (ap is_empty (sym parts.0) ∙ some)
        ∙ ap (λ p. p ∷ []) (sym parts.0))))
        (one_more_wanted scope rendered (used_prefixes name (take i (attributes_in (from_node tree n)))) wanted new prefix so_far up among)

pub attribute_passed : (scope rendered : Scope) (tree : Nodes) (n i : ℕ) (name prefix local : List ℕ) (declared : Option (Bor (List ℕ)))
    (wanted : List (List ℕ)) → IsSome (attribute_at tree n i) →
    IfSome (attribute_at tree n i) (λ a. (prefix ≡ prefix_of a.name) × (local ≡ local_of a.name)) →
    IfSome (attribute_at tree n i) (λ a. option_map (λ (p : Bor (List ℕ)). p.now) declared ≡ declared_prefix a.name) →
    (not (is_some declared) && not (is_empty prefix)) ≡ false →
    IsWanted scope rendered (used_prefixes name (take i (attributes_in (from_node tree n)))) wanted →
    IsWanted scope rendered (used_prefixes name (take (i + 1) (attributes_in (from_node tree n)))) wanted
attribute_passed scope rendered tree n i name prefix local declared wanted there parts known passed so_far =
    which (attribute_at tree n i) refl there parts known
  where
    nothing : (a : Attribute) (b t : Bool) → (not b && not t) ≡ false → cond (not b) (cond (not t) (prefix_of a.name ∷ []) []) [] ≡ []
    nothing a true t e = refl
    nothing a false true e = refl
    nothing a false false e = absurd (let clash : true ≡ false = e in cc)

    which : (o : Option Attribute) → attribute_at tree n i ≡ o → IsSome o → IfSome o (λ a. (prefix ≡ prefix_of a.name) × (local ≡ local_of a.name)) →
        IfSome o (λ a. option_map (λ (p : Bor (List ℕ)). p.now) declared ≡ declared_prefix a.name) →
        IsWanted scope rendered (used_prefixes name (take (i + 1) (attributes_in (from_node tree n)))) wanted
    which None is there parts known = absurd (let clash : false ≡ true = there in cc)
    which (Some a) is there parts known =
        subst (λ (candidates : List (List ℕ)). IsWanted scope rendered candidates wanted)
        (sym (used_next name (attributes_in (from_node tree n)) i a (sym (shown_attribute tree n i) ∙ is)
        ∙ ap (λ xs. used_prefixes name (take i (attributes_in (from_node tree n))) ++ xs)
        (own_is a (not (is_some declared)) (is_empty prefix) (ap (λ o. not (is_some o)) (sym known) ∙ ap not (is_some_map declared))
        (ap is_empty (sym parts.0)) ∙ nothing a (is_some declared) (is_empty prefix) passed)
        ∙ append-nil (used_prefixes name (take i (attributes_in (from_node tree n))))))
        so_far

-- of the definition: in ascending order, and each that is needed
prefixes_stay : (scope : Scope) (ps : List (List ℕ)) → map (λ (b : Binding). b.prefix) (map (binding_in scope) ps) ≡ ps
prefixes_stay scope [] = refl
prefixes_stay scope (p ∷ ps) = ap (λ qs. p ∷ qs) (prefixes_stay scope ps)

count_step : (b m : Bool) (k : ℕ) → m ≡ ltb 0 k → (b || m) ≡ ltb 0 (cond b 1 0 + k)
count_step true m k e = sym (lt-ltb 0 (1 + k) (omega arith))
count_step false m k e = let same : 0 + k ≡ k = omega arith in e ∙ ap (ltb 0) (sym same)

counted : (scope : Scope) (q : List ℕ) (ps : List (List ℕ)) → is_among q ps ≡ ltb 0 (times_declared q (map (binding_in scope) ps))
counted scope q [] = refl
counted scope q (p ∷ ps) =
    ap (λ b. b || is_among q ps) (nat_list_eq_equiv.symm q p)
    ∙ count_step (bytes_eq p q) (is_among q ps) (times_declared q (map (binding_in scope) ps)) (counted scope q ps)
    ∙ ap (ltb 0) (sym (sum_by-cons (λ (b : Binding). cond (bytes_eq b.prefix q) 1 0) (binding_in scope p) (map (binding_in scope) ps)))

wanted_ascend : (listed : List (List ℕ)) (scope rendered : Scope) (name : List ℕ) (attributes : List Attribute) →
    IsAscending byte_order (wanted_prefixes listed scope rendered name attributes)
wanted_ascend listed scope rendered name attributes =
    subst (IsAscending byte_order) (prefixes_stay scope (wanted_prefixes listed scope rendered name attributes))
    (declarations_ascend listed scope rendered name attributes)

pub wanted_among : (listed : List (List ℕ)) (scope rendered : Scope) (name : List ℕ) (attributes : List Attribute) (q : List ℕ) →
    is_among q (wanted_prefixes listed scope rendered name attributes)
    ≡ (is_among q (used_prefixes name attributes ++ map listed_prefix listed) && is_rendered_anew scope rendered q)
wanted_among listed scope rendered name attributes q =
    counted scope q (wanted_prefixes listed scope rendered name attributes)
    ∙ ap (ltb 0) (declared_as_needed listed scope rendered name attributes q)
    ∙ one_or_none (is_among q (used_prefixes name attributes ++ map listed_prefix listed) && is_rendered_anew scope rendered q)
  where
    one_or_none : (b : Bool) → ltb 0 (cond b 1 0) ≡ b
    one_or_none true = refl
    one_or_none false = refl

-- Of the listed prefixes only those can be wanted that were declared since the last start tag.
not_anew : (scope rendered : Scope) (q : List ℕ) → (bytes_eq q (codes "xml") ≡ false → namespace_of scope q ≡ namespace_of rendered q) →
    is_rendered_anew scope rendered q ≡ false
not_anew scope rendered q same = which (bytes_eq q (codes "xml")) refl
  where
    which : (b : Bool) → bytes_eq q (codes "xml") ≡ b → (not b && not (bytes_eq (namespace_of scope q) (namespace_of rendered q))) ≡ false
    which true e = refl
    which false e =
        ap not (ap (λ x. bytes_eq x (namespace_of rendered q)) (same e) ∙ (bytes_eq-Decides (namespace_of rendered q) (namespace_of rendered q)).1 refl)

pub all_wanted : (listed : List (List ℕ)) (scope rendered : Scope) (name : List ℕ) (attributes : List Attribute) (declared wanted : List (List ℕ)) →
    ((q : List ℕ) → is_among q declared ≡ true → is_among q (map listed_prefix listed) ≡ true) → AreListedRendered listed declared scope rendered →
    IsWanted scope rendered (used_prefixes name attributes ++ declared) wanted → wanted ≡ wanted_prefixes listed scope rendered name attributes
all_wanted listed scope rendered name attributes declared wanted among kept found =
    same_ascending wanted (wanted_prefixes listed scope rendered name attributes) found.ascending (wanted_ascend listed scope rendered name attributes)
    (λ q. found.among q
    ∙ ap (λ b. b && is_rendered_anew scope rendered q) (list_any-append (bytes_eq q) (used_prefixes name attributes) declared)
    ∙ which q (is_among q (used_prefixes name attributes)) (is_among q declared) refl (is_among q (map listed_prefix listed)) refl
    ∙ ap (λ b. b && is_rendered_anew scope rendered q) (sym (list_any-append (bytes_eq q) (used_prefixes name attributes) (map listed_prefix listed)))
    ∙ sym (wanted_among listed scope rendered name attributes q))
  where
    which : (q : List ℕ) (u d : Bool) → is_among q declared ≡ d → (l : Bool) → is_among q (map listed_prefix listed) ≡ l →
        ((u || d) && is_rendered_anew scope rendered q) ≡ ((u || l) && is_rendered_anew scope rendered q)
    which q true d is l too = refl
    which q false true is true too = refl
    which q false true is false too = absurd (let clash : true ≡ false = sym (among q is) ∙ too in cc)
    which q false false is false too = refl
    which q false false is true too = sym (not_anew scope rendered q (λ other. kept q too other is))

-- one of the declared prefixes was looked at
pub declared_wanted : (scope rendered : Scope) (used declared : List (List ℕ)) (i : ℕ) (p : List ℕ) (wanted new : List (List ℕ)) → i < length declared →
    p ≡ get_or declared i [] → IsWanted scope rendered (used ++ take i declared) wanted → IsAscending byte_order new →
    ((q : List ℕ) → is_among q new ≡ (is_among q wanted || (bytes_eq q p && is_rendered_anew scope rendered q))) →
    IsWanted scope rendered (used ++ take (i + 1) declared) new
declared_wanted scope rendered used declared i p wanted new h is so_far up among =
    subst (λ (candidates : List (List ℕ)). IsWanted scope rendered candidates new)
    (sym (ap (λ xs. used ++ xs) (take_more declared i [] h ∙ ap (λ x. take i declared ++ x ∷ []) (sym is))
    ∙ sym (append_assoc used (take i declared) (p ∷ []))))
    (one_more_wanted scope rendered (used ++ take i declared) wanted new p so_far up among)

pub none_looked_at : (scope rendered : Scope) (used declared : List (List ℕ)) (wanted : List (List ℕ)) →
    IsWanted scope rendered used wanted → IsWanted scope rendered (used ++ take 0 declared) wanted
none_looked_at scope rendered used declared wanted found =
    subst (λ (candidates : List (List ℕ)). IsWanted scope rendered candidates wanted) (sym (append-nil used)) found

pub all_looked_at : (scope rendered : Scope) (used declared : List (List ℕ)) (i : ℕ) (wanted : List (List ℕ)) → length declared ≤ i →
    IsWanted scope rendered (used ++ take i declared) wanted → IsWanted scope rendered (used ++ declared) wanted
all_looked_at scope rendered used declared i wanted end found =
    subst (λ (ps : List (List ℕ)). IsWanted scope rendered (used ++ ps) wanted) (take_all i declared end) found
