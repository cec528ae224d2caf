-- What the declarations that are written at an element bind: each prefix that the element uses has the namespace that it has in
-- the scope of the document.
use Rattle.std.proofs.Common.{◌≡◌, ℕ, Bool, true, false, cond, ◌&&◌, ◌||◌, not, List, [], ◌∷◌, ◌++◌, append_assoc, codes, map, filter, Some, None, refl, sym, ◌∙◌, ap, subst}
use Rattle.std.specs.Prelude.{unwrap_or}
use Rattle.std.specs.List.{list_any, AllByRecursion}
use Rattle.std.specs.Str.{bytes_eq}
use Rattle.std.proofs.lemmas.List.Sorted.{IsPermutation-sym, list_any-IsPermutation}
use Rattle.std.proofs.lemmas.Slice.Eq.{bytes_eq-Decides}
use Rattle.std.proofs.lemmas.Cmp.{nat_list_eq_equiv}
use Rattle.xml_spec.specs.Tree.{Attribute}
use Rattle.xml_spec.specs.Names.{Binding, Scope, outermost, xml_namespace, bound, namespace_of, IsBinding}
use Rattle.xml_spec.specs.Canonical.{byte_order, sorted, once, used_prefixes, listed_prefix, is_rendered_anew, written_declarations}
use Rattle.xml_spec.proofs.Sorting.{sorted_is_permutation}

pub same_bytes : (p q : List ℕ) → bytes_eq p q ≡ true → p ≡ q
same_bytes p q h = (bytes_eq-Decides p q).0 h

-- it is one whichever side is asked
pub turned : {b : Bool} (p q : List ℕ) → bytes_eq p q ≡ b → bytes_eq q p ≡ b
turned p q h = nat_list_eq_equiv.symm q p ∙ h

-- a list has the prefixes that it has once
once_has_same : (q : List ℕ) (ps : List (List ℕ)) → list_any (bytes_eq q) (once ps) ≡ list_any (bytes_eq q) ps
once_has_same q [] = refl
once_has_same q (p ∷ ps) = which (list_any (bytes_eq p) ps) refl (bytes_eq q p) refl (once_has_same q ps)
  where
    which : (twice : Bool) → list_any (bytes_eq p) ps ≡ twice → (same : Bool) → bytes_eq q p ≡ same →
        list_any (bytes_eq q) (once ps) ≡ list_any (bytes_eq q) ps →
        list_any (bytes_eq q) (cond twice (once ps) (p ∷ once ps)) ≡ (same || list_any (bytes_eq q) ps)
    which true t true s later = later ∙ subst (λ r. list_any (bytes_eq r) ps ≡ true) (sym (same_bytes q p s)) t
    which true t false s later = later
    which false t same s later = λ i. s i || later i

filtered_has : (test : List ℕ → Bool) (q : List ℕ) (ps : List (List ℕ)) →
    list_any (bytes_eq q) (filter test ps) ≡ (list_any (bytes_eq q) ps && test q)
filtered_has test q [] = refl
filtered_has test q (p ∷ ps) = which (test p) refl (bytes_eq q p) refl (filtered_has test q ps)
  where
    both : (a b : Bool) → b ≡ true → (a && b) ≡ a
    both true b h = h
    both false b h = refl

    none : (a b : Bool) → b ≡ false → (a && b) ≡ false
    none true b h = h
    none false b h = refl

    which : (passes : Bool) → test p ≡ passes → (same : Bool) → bytes_eq q p ≡ same →
        list_any (bytes_eq q) (filter test ps) ≡ (list_any (bytes_eq q) ps && test q) →
        list_any (bytes_eq q) (cond passes (p ∷ filter test ps) (filter test ps)) ≡ ((same || list_any (bytes_eq q) ps) && test q)
    which true t true s later = ap (λ b. b || list_any (bytes_eq q) (filter test ps)) s ∙ sym (ap test (same_bytes q p s) ∙ t)
    which true t false s later = ap (λ b. b || list_any (bytes_eq q) (filter test ps)) s ∙ later
    which false t true s later =
        let fails : test q ≡ false = ap test (same_bytes q p s) ∙ t in
        later ∙ none (list_any (bytes_eq q) ps) (test q) fails ∙ sym fails
    which false t false s later = later

-- the prefixes with their namespaces
abbrev with_namespaces : Scope → List (List ℕ) → List Binding
with_namespaces scope ps = map (λ prefix. record { prefix = prefix; namespace = namespace_of scope prefix }) ps

-- such bindings bind what their prefixes have
bound_with : (scope : Scope) (ps : List (List ℕ)) (rest : Scope) (q : List ℕ) →
    bound (with_namespaces scope ps ++ rest) q ≡ cond (list_any (bytes_eq q) ps) (Some (namespace_of scope q)) (bound rest q)
bound_with scope [] rest q = refl
bound_with scope (p ∷ ps) rest q = which (bytes_eq p q) refl (bound_with scope ps rest q)
  where
    which : (same : Bool) → bytes_eq p q ≡ same →
        bound (with_namespaces scope ps ++ rest) q ≡ cond (list_any (bytes_eq q) ps) (Some (namespace_of scope q)) (bound rest q) →
        cond same (Some (namespace_of scope p)) (bound (with_namespaces scope ps ++ rest) q)
        ≡ cond (bytes_eq q p || list_any (bytes_eq q) ps) (Some (namespace_of scope q)) (bound rest q)
    which true h later =
        ap (λ r. Some (namespace_of scope r)) (same_bytes p q h)
        ∙ ap (λ b. cond (b || list_any (bytes_eq q) ps) (Some (namespace_of scope q)) (bound rest q)) (sym (turned p q h))
    which false h later =
        later ∙ ap (λ b. cond (b || list_any (bytes_eq q) ps) (Some (namespace_of scope q)) (bound rest q)) (sym (turned p q h))

-- the prefixes that an element uses and those of the list
abbrev pub wanted_prefixes : List (List ℕ) → List ℕ → List Attribute → List (List ℕ)
wanted_prefixes listed name attributes = used_prefixes name attributes ++ map listed_prefix listed

-- what the declarations written at an element bind, in front of others
pub bound_written : (listed : List (List ℕ)) (scope rendered : Scope) (name : List ℕ) (attributes : List Attribute) (rest : Scope) (q : List ℕ) →
    bound (written_declarations listed scope rendered name attributes ++ rest) q
    ≡ cond (list_any (bytes_eq q) (wanted_prefixes listed name attributes) && is_rendered_anew scope rendered q) (Some (namespace_of scope q)) (bound rest q)
bound_written listed scope rendered name attributes rest q =
    let all : List (List ℕ) = wanted_prefixes listed name attributes in
    bound_with scope (filter (is_rendered_anew scope rendered) (sorted byte_order (once all))) rest q
    ∙ ap (λ b. cond b (Some (namespace_of scope q)) (bound rest q))
    (filtered_has (is_rendered_anew scope rendered) q (sorted byte_order (once all))
    ∙ ap (λ b. b && is_rendered_anew scope rendered q)
    (list_any-IsPermutation (bytes_eq q) (sorted byte_order (once all)) (once all)
    (IsPermutation-sym (once all) (sorted byte_order (once all)) (sorted_is_permutation byte_order (once all)))
    ∙ once_has_same q all))

-- the scope has the one binding of xml that there is
abbrev pub BindsXml : Scope → Type 0
BindsXml scope = bound scope (codes "xml") ≡ Some xml_namespace

-- no element rendered a binding of xml
abbrev pub RendersNoXml : Scope → Type 0
RendersNoXml rendered = bound rendered (codes "xml") ≡ None

pub bound_behind : (front rest : Scope) (q : List ℕ) → bound front q ≡ None → bound (front ++ rest) q ≡ bound rest q
bound_behind [] rest q h = refl
bound_behind (b ∷ front) rest q h = which (bytes_eq b.prefix q) h (bound_behind front rest q)
  where
    which : (same : Bool) → cond same (Some b.namespace) (bound front q) ≡ None →
        (bound front q ≡ None → bound (front ++ rest) q ≡ bound rest q) →
        cond same (Some b.namespace) (bound (front ++ rest) q) ≡ bound rest q
    which true h later = absurd (let clash : Some b.namespace ≡ None = h in cc)
    which false h later = later h

-- the outermost binding counts for xml alone
pub namespace_outside : (scope : Scope) (q : List ℕ) → bytes_eq q (codes "xml") ≡ false → namespace_of (scope ++ outermost) q ≡ namespace_of scope q
namespace_outside [] q h = ap (λ (b : Bool). unwrap_or (cond b (Some xml_namespace) None) []) (turned q (codes "xml") h)
namespace_outside (b ∷ scope) q h = which (bytes_eq b.prefix q) (namespace_outside scope q h)
  where
    which : (same : Bool) → namespace_of (scope ++ outermost) q ≡ namespace_of scope q →
        unwrap_or (cond same (Some b.namespace) (bound (scope ++ outermost) q)) [] ≡ unwrap_or (cond same (Some b.namespace) (bound scope q)) []
    which true later = refl
    which false later = later

-- a prefix that need not be rendered has been rendered with its namespace
not_anew : (scope rendered : Scope) (q : List ℕ) → BindsXml scope → RendersNoXml rendered → is_rendered_anew scope rendered q ≡ false →
    namespace_of (rendered ++ outermost) q ≡ namespace_of scope q
not_anew scope rendered q binds none h = which (bytes_eq q (codes "xml")) refl h
  where
    stays : (b : Bool) → bytes_eq (namespace_of scope q) (namespace_of rendered q) ≡ b → not b ≡ false → namespace_of rendered q ≡ namespace_of scope q
    stays true e k = sym (same_bytes (namespace_of scope q) (namespace_of rendered q) e)
    stays false e k = absurd (let clash : true ≡ false = k in cc)

    which : (xml : Bool) → bytes_eq q (codes "xml") ≡ xml →
        (not xml && not (bytes_eq (namespace_of scope q) (namespace_of rendered q))) ≡ false →
        namespace_of (rendered ++ outermost) q ≡ namespace_of scope q
    which true e k =
        subst (λ p. namespace_of (rendered ++ outermost) p ≡ namespace_of scope p) (sym (same_bytes q (codes "xml") e))
        (ap (λ o. unwrap_or o []) (bound_behind rendered outermost (codes "xml") none ∙ sym binds))
    which false e k = namespace_outside rendered q e ∙ stays (bytes_eq (namespace_of scope q) (namespace_of rendered q)) refl k

-- behind what is written at an element, a prefix that it uses has its namespace
pub written_namespace : (listed : List (List ℕ)) (scope rendered : Scope) (name : List ℕ) (attributes : List Attribute) (q : List ℕ) →
    BindsXml scope → RendersNoXml rendered → list_any (bytes_eq q) (wanted_prefixes listed name attributes) ≡ true →
    namespace_of ((written_declarations listed scope rendered name attributes ++ rendered) ++ outermost) q ≡ namespace_of scope q
written_namespace listed scope rendered name attributes q binds none used =
    ap (λ s. namespace_of s q) (append_assoc (written_declarations listed scope rendered name attributes) rendered outermost)
    ∙ ap (λ o. unwrap_or o []) (bound_written listed scope rendered name attributes (rendered ++ outermost) q)
    ∙ which (list_any (bytes_eq q) (wanted_prefixes listed name attributes)) used (is_rendered_anew scope rendered q) refl
  where
    which : (a : Bool) → a ≡ true → (b : Bool) → is_rendered_anew scope rendered q ≡ b →
        unwrap_or (cond (a && b) (Some (namespace_of scope q)) (bound (rendered ++ outermost) q)) [] ≡ namespace_of scope q
    which true h true e = refl
    which true h false e = not_anew scope rendered q binds none e
    which false h b e = absurd (let clash : false ≡ true = h in cc)

-- nor is xml rendered below
pub still_no_xml : (listed : List (List ℕ)) (scope rendered : Scope) (name : List ℕ) (attributes : List Attribute) → RendersNoXml rendered →
    RendersNoXml (written_declarations listed scope rendered name attributes ++ rendered)
still_no_xml listed scope rendered name attributes none =
    bound_written listed scope rendered name attributes rendered (codes "xml")
    ∙ never (list_any (bytes_eq (codes "xml")) (wanted_prefixes listed name attributes))
  where
    never : (a : Bool) → cond (a && false) (Some (namespace_of scope (codes "xml"))) (bound rendered (codes "xml")) ≡ None
    never true = none
    never false = none

-- declarations that are allowed leave xml as it is
pub declared_xml : (bindings : List Binding) (scope : Scope) → AllByRecursion IsBinding bindings → BindsXml scope → BindsXml (bindings ++ scope)
declared_xml [] scope h binds = binds
declared_xml (b ∷ bindings) scope h binds = which (bytes_eq b.prefix (codes "xml")) refl (declared_xml bindings scope h.1 binds)
  where
    which : (same : Bool) → bytes_eq b.prefix (codes "xml") ≡ same → BindsXml (bindings ++ scope) →
        cond same (Some b.namespace) (bound (bindings ++ scope) (codes "xml")) ≡ Some xml_namespace
    which true e later = absurd (h.0.not_xml (same_bytes b.prefix (codes "xml") e))
    which false e later = later
