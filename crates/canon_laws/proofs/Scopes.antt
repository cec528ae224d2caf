-- Each declaration that the canonical form writes is an attribute that can be written.
use Rattle.std.proofs.Common.{◌≡◌, ℕ, Bool, true, false, cond, not, ◌==◌, List, [], ◌∷◌, ◌++◌, codes, map, Option, Some, None, refl, ◌∙◌, ap, subst}
use Rattle.std.specs.Prelude.{MatchOption, ⊤, unwrap_or, filter}
use Rattle.std.specs.Char.{encode_utf8}
use Rattle.std.specs.List.{AllByRecursion, cons_option}
use Rattle.std.specs.Option.{option_map}
use Rattle.std.specs.declared.cmp.Ordering.{Ordering}
use Rattle.std.specs.Str.{bytes_eq, chars}
use Rattle.std.proofs.lemmas.Bool.{eqb-true}
use Rattle.std.proofs.lemmas.Slice.Eq.{bytes_eq-Decides}
use Rattle.xml_spec.specs.Ascii.{colon}
use Rattle.xml_spec.specs.Characters.{at_colon, IsName, IsText}
use Rattle.xml_spec.specs.Tree.{Attribute}
use Rattle.xml_spec.specs.Names.{Binding, Scope, outermost, xml_namespace, bound, namespace_of, declared_prefix, binding_of, declarations, is_declaration, proper_attributes, inner_scope, attribute_name}
use Rattle.xml_spec.specs.Canonical.{declaration_name, sorted, expanded_order, byte_order, once, used_prefixes, listed_prefix, is_rendered_anew, written_declarations, written_attributes}
use Rattle.xml_spec.proofs.Tests.{both_true}
use Rattle.xml_spec.proofs.Valid.{name_shown}
use Rattle.xml_spec.proofs.Sorting.{each_inserted}
use Rattle.canon_laws.specs.Trees.{declaration_of}
use Rattle.canon_laws.specs.Writable.{IsWritableAttribute}
use Rattle.canon_laws.proofs.Texts.{empty_text}
use Rattle.canon_laws.proofs.Contents.{all_append}

abbrev front_of : Option (List ℕ × List ℕ) → List ℕ
front_of o = unwrap_or (option_map (λ (parts : List ℕ × List ℕ). parts.0) o) []

abbrev back_of : Option (List ℕ × List ℕ) → List ℕ
back_of o = unwrap_or (option_map (λ (parts : List ℕ × List ℕ). parts.1) o) []

-- a name is its parts with a colon between them
at_colon_joins : (name prefix local : List ℕ) → at_colon name ≡ Some (prefix, local) → name ≡ prefix ++ colon ∷ local
at_colon_joins [] prefix local e = absurd (let clash : None ≡ Some (prefix, local) = e in cc)
at_colon_joins (b ∷ bytes) prefix local e = which (b == colon) refl (at_colon bytes) refl (at_colon_joins bytes) e
  where
    which : (here : Bool) → (b == colon) ≡ here → (o : Option (List ℕ × List ℕ)) → at_colon bytes ≡ o →
        ((p l : List ℕ) → at_colon bytes ≡ Some (p, l) → bytes ≡ p ++ colon ∷ l) →
        cond {A = Option (List ℕ × List ℕ)} here (Some ([], bytes)) (option_map (λ (parts : List ℕ × List ℕ). (b ∷ parts.0, parts.1)) o) ≡ Some (prefix, local) →
        b ∷ bytes ≡ prefix ++ colon ∷ local
    which true is o found later e =
        let none : [] ≡ prefix = ap front_of e in
        let all : bytes ≡ local = ap back_of e in
        let first : b ≡ colon = eqb-true b colon is in
        (λ i. first i ∷ all i) ∙ ap (λ p. p ++ colon ∷ local) none
    which false is None found later e = absurd (let clash : None ≡ Some (prefix, local) = e in cc)
    which false is (Some parts) found later e =
        let front : b ∷ parts.0 ≡ prefix = ap front_of e in
        let back : parts.1 ≡ local = ap back_of e in
        ap (λ xs. b ∷ xs) (later parts.0 parts.1 found) ∙ (λ i. front i ++ colon ∷ back i)

-- xmlns is a name
pub xmlns_name : IsName (codes "xmlns")
unfolding chars encode_utf8
xmlns_name = name_shown (codes "xmlns") refl

-- what holds of a name and of xmlns holds of the name of the declaration of what the name declares
pub declared_name : (P : List ℕ → Type 0) → P (codes "xmlns") → (name : List ℕ) → P name →
    MatchOption (declared_prefix name) ⊤ (λ prefix. P (declaration_name prefix))
declared_name P x name n = which (bytes_eq name (codes "xmlns")) (at_colon name) refl
  where
    prefixed : (local : List ℕ) → name ≡ codes "xmlns" ++ colon ∷ local → P (declaration_name local)
    prefixed [] e = x
    prefixed (c ∷ cs) e = subst P e n

    by_prefix : (parts : List ℕ × List ℕ) (b : Bool) → bytes_eq parts.0 (codes "xmlns") ≡ b → at_colon name ≡ Some parts →
        MatchOption (cond b (Some parts.1) None) ⊤ (λ prefix. P (declaration_name prefix))
    by_prefix parts true h e =
        let same : parts.0 ≡ codes "xmlns" = (bytes_eq-Decides parts.0 (codes "xmlns")).0 h in
        prefixed parts.1 (at_colon_joins name parts.0 parts.1 e ∙ ap (λ p. p ++ colon ∷ parts.1) same)
    by_prefix parts false h e = tt

    which : (b : Bool) (o : Option (List ℕ × List ℕ)) → at_colon name ≡ o →
        MatchOption (cond b (Some []) (cond (bytes_eq (unwrap_or (option_map (λ (parts : List ℕ × List ℕ). parts.0) o) []) (codes "xmlns"))
        (Some (unwrap_or (option_map (λ (parts : List ℕ × List ℕ). parts.1) o) name)) None)) ⊤ (λ prefix. P (declaration_name prefix))
    which true o e = x
    which false None e = tt
    which false (Some parts) e = by_prefix parts (bytes_eq parts.0 (codes "xmlns")) refl e

-- each binding can be declared again
abbrev pub AreDeclarable : Scope → Type 0
AreDeclarable scope = AllByRecursion (λ b. IsWritableAttribute (declaration_of b)) scope

declared_binding : (value : List ℕ) → IsText value → (o : Option (List ℕ)) → MatchOption o ⊤ (λ prefix. IsName (declaration_name prefix)) →
    MatchOption (option_map (λ (prefix : List ℕ). let b : Binding = record { prefix = prefix; namespace = value } in b) o) ⊤ (λ b. IsWritableAttribute (declaration_of b))
declared_binding value t None h = tt
declared_binding value t (Some prefix) h = record { name = h; value = t }

some_bindings : (bindings : List Binding) (o : Option Binding) → MatchOption o ⊤ (λ b. IsWritableAttribute (declaration_of b)) →
    AreDeclarable bindings → AreDeclarable (cons_option o bindings)
some_bindings bindings None h k = k
some_bindings bindings (Some b) h k = (h, k)

declarations_declarable : (attributes : List Attribute) → AllByRecursion IsWritableAttribute attributes → AreDeclarable (declarations attributes)
declarations_declarable [] w = tt
declarations_declarable (a ∷ attributes) w =
    some_bindings (declarations attributes) (binding_of a) (declared_binding a.value w.0.value (declared_prefix a.name) (declared_name IsName xmlns_name a.name w.0.name))
    (declarations_declarable attributes w.1)

pub inner_declarable : (attributes : List Attribute) (scope : Scope) → AllByRecursion IsWritableAttribute attributes → AreDeclarable scope →
    AreDeclarable (inner_scope attributes scope)
inner_declarable attributes scope w s =
    all_append (λ b. IsWritableAttribute (declaration_of b)) (declarations attributes) scope (declarations_declarable attributes w) s

pub outermost_declarable : AreDeclarable outermost
unfolding chars encode_utf8
outermost_declarable = (
  record {
    name = name_shown (codes "xmlns:xml") refl;
    value = record { characters = xml_namespace; allowed = refl; spelled = refl };
  },
  tt,
)

-- the binding of this prefix
abbrev pub binding : List ℕ → List ℕ → Binding
binding prefix namespace = record { prefix = prefix; namespace = namespace }

bound_declarable : (scope : Scope) (prefix : List ℕ) → AreDeclarable scope →
    MatchOption (bound scope prefix) ⊤ (λ namespace. IsWritableAttribute (declaration_of (binding prefix namespace)))
bound_declarable [] prefix s = tt
bound_declarable (b ∷ scope) prefix s = which (bytes_eq b.prefix prefix) refl (bound_declarable scope prefix s.1)
  where
    which : (same : Bool) → bytes_eq b.prefix prefix ≡ same →
        MatchOption (bound scope prefix) ⊤ (λ namespace. IsWritableAttribute (declaration_of (binding prefix namespace))) →
        MatchOption (cond same (Some b.namespace) (bound scope prefix)) ⊤ (λ namespace. IsWritableAttribute (declaration_of (binding prefix namespace)))
    which true h later =
        let same : b.prefix ≡ prefix = (bytes_eq-Decides b.prefix prefix).0 h in
        subst (λ p. IsWritableAttribute (declaration_of (binding p b.namespace))) same s.0
    which false h later = later

-- what is rendered anew is bound here or was bound where it was rendered
anew_declarable : (scope rendered : Scope) (prefix : List ℕ) → AreDeclarable scope → AreDeclarable rendered →
    is_rendered_anew scope rendered prefix ≡ true → IsWritableAttribute (declaration_of (binding prefix (namespace_of scope prefix)))
anew_declarable scope rendered prefix s r h =
    which (bound scope prefix) (bound rendered prefix) (bound_declarable scope prefix s) (bound_declarable rendered prefix r)
    (both_true (not (bytes_eq prefix (codes "xml"))) _ h).1
  where
    which : (here there : Option (List ℕ)) → MatchOption here ⊤ (λ namespace. IsWritableAttribute (declaration_of (binding prefix namespace))) →
        MatchOption there ⊤ (λ namespace. IsWritableAttribute (declaration_of (binding prefix namespace))) →
        not (bytes_eq (unwrap_or here []) (unwrap_or there [])) ≡ true →
        IsWritableAttribute (declaration_of (binding prefix (unwrap_or here [])))
    which None None p q k = absurd (let clash : false ≡ true = k in cc)
    which None (Some namespace) p q k = record { name = q.name; value = empty_text }
    which (Some namespace) there p q k = p

-- what holds of each that passes holds of all that are made of them
pub all_made : {X Y : Type 0} (P : Y → Type 0) (test : X → Bool) (make : X → Y) → ((x : X) → test x ≡ true → P (make x)) →
    (xs : List X) → AllByRecursion P (map make (filter test xs))
all_made P test make f [] = tt
all_made P test make f (x ∷ xs) = which (test x) refl (all_made P test make f xs)
  where
    which : (b : Bool) → test x ≡ b → AllByRecursion P (map make (filter test xs)) →
        AllByRecursion P (map make (cond b (x ∷ filter test xs) (filter test xs)))
    which true h later = (f x h, later)
    which false h later = later

pub written_declarable : (listed : List (List ℕ)) (scope rendered : Scope) (name : List ℕ) (attributes : List Attribute) →
    AreDeclarable scope → AreDeclarable rendered → AreDeclarable (written_declarations listed scope rendered name attributes)
written_declarable listed scope rendered name attributes s r =
    all_made (λ b. IsWritableAttribute (declaration_of b)) (is_rendered_anew scope rendered) (λ prefix. binding prefix (namespace_of scope prefix))
    (λ prefix h. anew_declarable scope rendered prefix s r h)
    (sorted byte_order (once (used_prefixes name attributes ++ map listed_prefix listed)))

pub all_sorted : {X : Type 0} (P : X → Type 0) (order : X → X → Ordering) (xs : List X) → AllByRecursion P xs → AllByRecursion P (sorted order xs)
all_sorted P order [] h = tt
all_sorted P order (x ∷ xs) h = each_inserted order P x (sorted order xs) h.0 (all_sorted P order xs h.1)

pub all_filtered : {X : Type 0} (P : X → Type 0) (test : X → Bool) (xs : List X) → AllByRecursion P xs → AllByRecursion P (filter test xs)
all_filtered P test [] h = tt
all_filtered P test (x ∷ xs) h = which (test x) (all_filtered P test xs h.1)
  where
    which : (b : Bool) → AllByRecursion P (filter test xs) → AllByRecursion P (cond b (x ∷ filter test xs) (filter test xs))
    which true later = (h.0, later)
    which false later = later

pub written_attributes_writable : (scope : Scope) (attributes : List Attribute) → AllByRecursion IsWritableAttribute attributes →
    AllByRecursion IsWritableAttribute (written_attributes scope attributes)
written_attributes_writable scope attributes w =
    all_sorted IsWritableAttribute (λ x y. expanded_order (attribute_name scope x.name) (attribute_name scope y.name)) (proper_attributes attributes)
    (all_filtered IsWritableAttribute (λ a. not (is_declaration a)) attributes w)

all_mapped : (bindings : List Binding) → AreDeclarable bindings → AllByRecursion IsWritableAttribute (map declaration_of bindings)
all_mapped [] h = tt
all_mapped (b ∷ bindings) h = (h.0, all_mapped bindings h.1)

-- the attributes of an element as they are written can be written
pub written_writable : (bindings : List Binding) (scope : Scope) (attributes : List Attribute) → AreDeclarable bindings →
    AllByRecursion IsWritableAttribute attributes → AllByRecursion IsWritableAttribute (map declaration_of bindings ++ written_attributes scope attributes)
written_writable bindings scope attributes b w =
    all_append IsWritableAttribute (map declaration_of bindings) (written_attributes scope attributes) (all_mapped bindings b)
    (written_attributes_writable scope attributes w)
