-- The bindings in a scope of a tree with names, and those that the canonical form writes, are allowed.
use Rattle.std.proofs.Common.{◌≡◌, ◌≢◌, ℕ, zero, suc, ◌-◌, Bool, true, false, cond, ◌&&◌, not, nat_lt, List, [], ◌∷◌, ◌++◌, codes, map, Option, Some, None, inl, refl, sym, ◌∙◌, ap, subst}
use Rattle.std.specs.Prelude.{MatchOption, ⊤, unwrap_or}
use Rattle.std.specs.List.{list_any, AllByRecursion, cons_option}
use Rattle.std.specs.Option.{option_map}
use Rattle.std.specs.Str.{bytes_eq}
use Rattle.xml_spec.specs.Characters.{IsQualifiedName}
use Rattle.xml_spec.specs.Tree.{Attribute, Nodes, NoNodes, Element, Text, Comment, Instruction}
use Rattle.xml_spec.specs.Numbering.{size}
use Rattle.xml_spec.specs.Names.{Binding, Scope, outermost, xml_namespace, xmlns_namespace, bound, namespace_of, declared_prefix, declarations, inner_scope, IsBinding, IsNamed, AreNamed}
use Rattle.xml_spec.specs.Canonical.{declaration_name, byte_order, sorted, once, used_prefixes, listed_prefix, is_rendered_anew, written_declarations, scope_at}
use Rattle.xml_spec.proofs.Tests.{both_true}
use Rattle.canon_laws.proofs.Scopes.{binding, xmlns_name, declared_name, all_made}
use Rattle.canon_laws.proofs.Bindings.{same_bytes, turned, wanted_prefixes, bound_written}

-- a binding that is allowed, whose declaration has a qualified name
pub record IsFit (b : Binding) : Type 0 where
  pub allowed : IsBinding b
  pub named : IsQualifiedName (declaration_name b.prefix)

-- each prefix but xml is bound so
abbrev pub AreFit : Scope → Type 0
AreFit scope = (q : List ℕ) → bytes_eq q (codes "xml") ≡ false → MatchOption (bound scope q) ⊤ (λ namespace. IsFit (binding q namespace))

pub outermost_fit : AreFit outermost
outermost_fit q h = subst (λ (b : Bool). MatchOption (cond b (Some xml_namespace) None) ⊤ (λ namespace. IsFit (binding q namespace))) (sym (turned q (codes "xml") h)) tt

bound_fit : (bindings : List Binding) (scope : Scope) → AllByRecursion IsFit bindings → AreFit scope → AreFit (bindings ++ scope)
bound_fit [] scope h fit = fit
bound_fit (b ∷ bindings) scope h fit = λ q other. which q (bytes_eq b.prefix q) refl (bound_fit bindings scope h.1 fit q other)
  where
    which : (q : List ℕ) (same : Bool) → bytes_eq b.prefix q ≡ same →
        MatchOption (bound (bindings ++ scope) q) ⊤ (λ namespace. IsFit (binding q namespace)) →
        MatchOption (cond same (Some b.namespace) (bound (bindings ++ scope) q)) ⊤ (λ namespace. IsFit (binding q namespace))
    which q true e later = subst (λ p. IsFit (binding p b.namespace)) (same_bytes b.prefix q e) h.0
    which q false e later = later

-- the binding of this value that is declared
abbrev bound_to : List ℕ → Option (List ℕ) → Option Binding
bound_to value o = option_map (λ prefix. record { prefix = prefix; namespace = value }) o

declarations_fit : (attributes : List Attribute) → AllByRecursion (λ a. IsQualifiedName a.name) attributes →
    AllByRecursion IsBinding (declarations attributes) → AllByRecursion IsFit (declarations attributes)
declarations_fit [] n h = tt
declarations_fit (a ∷ attributes) n h =
    which (declared_prefix a.name) (declared_name IsQualifiedName xmlns_name a.name n.0) h (declarations_fit attributes n.1)
  where
    which : (o : Option (List ℕ)) → MatchOption o ⊤ (λ prefix. IsQualifiedName (declaration_name prefix)) →
        AllByRecursion IsBinding (cons_option (bound_to a.value o) (declarations attributes)) →
        (AllByRecursion IsBinding (declarations attributes) → AllByRecursion IsFit (declarations attributes)) →
        AllByRecursion IsFit (cons_option (bound_to a.value o) (declarations attributes))
    which None q k later = later k
    which (Some prefix) q k later = (record { allowed = k.0; named = q }, later k.1)

pub inner_fit : (attributes : List Attribute) (scope : Scope) (name : List ℕ) → IsNamed (inner_scope attributes scope) name attributes → AreFit scope →
    AreFit (inner_scope attributes scope)
inner_fit attributes scope name named fit =
    bound_fit (declarations attributes) scope (declarations_fit attributes named.all_qualified named.declares) fit

pub scope_fit : (scope : Scope) (nodes : Nodes) (k : ℕ) → AreNamed scope nodes → AreFit scope → AreFit (scope_at scope nodes k)
scope_fit scope NoNodes k named fit = fit
scope_fit scope (Element name attributes kids rest) zero named fit = fit
scope_fit scope (Element name attributes kids rest) (suc k) named fit =
    which (nat_lt k (size kids))
    (scope_fit (inner_scope attributes scope) kids k named.1 (inner_fit attributes scope name named.0 fit))
    (scope_fit scope rest (k - size kids) named.2 fit)
  where
    which : (b : Bool) → AreFit (scope_at (inner_scope attributes scope) kids k) → AreFit (scope_at scope rest (k - size kids)) →
        AreFit (cond b (scope_at (inner_scope attributes scope) kids k) (scope_at scope rest (k - size kids)))
    which true one other = one
    which false one other = other
scope_fit scope (Text text rest) zero named fit = fit
scope_fit scope (Text text rest) (suc k) named fit = scope_fit scope rest k named fit
scope_fit scope (Comment text rest) zero named fit = fit
scope_fit scope (Comment text rest) (suc k) named fit = scope_fit scope rest k named fit
scope_fit scope (Instruction target value rest) zero named fit = fit
scope_fit scope (Instruction target value rest) (suc k) named fit = scope_fit scope rest k named fit

-- a prefix that is not bound was never rendered with a namespace
abbrev pub StaysBound : Scope → Scope → Type 0
StaysBound scope rendered = (q : List ℕ) → q ≢ [] → bound scope q ≡ None → namespace_of rendered q ≡ []

-- what a list in front of a scope does not bind the scope does not
not_behind : (front rest : Scope) (q : List ℕ) → bound (front ++ rest) q ≡ None → bound rest q ≡ None
not_behind [] rest q h = h
not_behind (b ∷ front) rest q h = which (bytes_eq b.prefix q) h (not_behind front rest q)
  where
    which : (same : Bool) → cond same (Some b.namespace) (bound (front ++ rest) q) ≡ None →
        (bound (front ++ rest) q ≡ None → bound rest q ≡ None) → bound rest q ≡ None
    which true k later = absurd (let clash : Some b.namespace ≡ None = k in cc)
    which false k later = later k

pub still_bound : (attributes : List Attribute) (scope rendered : Scope) → StaysBound scope rendered → StaysBound (inner_scope attributes scope) rendered
still_bound attributes scope rendered stays q more none = stays q more (not_behind (declarations attributes) scope q none)

pub written_bound : (listed : List (List ℕ)) (scope rendered : Scope) (name : List ℕ) (attributes : List Attribute) → StaysBound scope rendered →
    StaysBound scope (written_declarations listed scope rendered name attributes ++ rendered)
written_bound listed scope rendered name attributes stays q more none =
    ap (λ o. unwrap_or o []) (bound_written listed scope rendered name attributes rendered q)
    ∙ which (list_any (bytes_eq q) (wanted_prefixes listed name attributes) && is_rendered_anew scope rendered q)
  where
    which : (b : Bool) → unwrap_or (cond b (Some (namespace_of scope q)) (bound rendered q)) [] ≡ []
    which true = ap (λ o. unwrap_or o []) none
    which false = stays q more none

-- what is rendered anew is bound here, or is the default namespace, which is bound no more
anew_fit : (scope rendered : Scope) (q : List ℕ) → AreFit scope → StaysBound scope rendered → is_rendered_anew scope rendered q ≡ true →
    IsFit (binding q (namespace_of scope q))
anew_fit scope rendered q fit stays h =
    let parts = both_true (not (bytes_eq q (codes "xml"))) _ h in
    by_bound (bound scope q) refl (fit q (not_so (bytes_eq q (codes "xml")) parts.0)) parts.1
  where
    not_so : (b : Bool) → not b ≡ true → b ≡ false
    not_so true k = absurd (let clash : false ≡ true = k in cc)
    not_so false k = refl

    unbound : (p : List ℕ) → (p ≢ [] → namespace_of rendered p ≡ []) → not (bytes_eq [] (namespace_of rendered p)) ≡ true → IsFit (binding p [])
    unbound [] never k = record {
      allowed = record {
        not_xml = λ e. let clash : [] ≡ codes "xml" = e in cc;
        not_xmlns = λ e. let clash : [] ≡ codes "xmlns" = e in cc;
        not_xml_namespace = λ e. let clash : [] ≡ xml_namespace = e in cc;
        not_xmlns_namespace = λ e. let clash : [] ≡ xmlns_namespace = e in cc;
        not_undeclared = λ e. refl;
        absolute = inl refl;
      };
      named = xmlns_name;
    }
    unbound (b ∷ p) never k =
        let none : namespace_of rendered (b ∷ p) ≡ [] = never (λ e. let clash : b ∷ p ≡ [] = e in cc) in
        absurd (let clash : not (bytes_eq [] []) ≡ true = subst (λ ns. not (bytes_eq [] ns) ≡ true) none k in let again : false ≡ true = clash in cc)

    by_bound : (o : Option (List ℕ)) → bound scope q ≡ o → MatchOption o ⊤ (λ namespace. IsFit (binding q namespace)) →
        not (bytes_eq (unwrap_or o []) (namespace_of rendered q)) ≡ true → IsFit (binding q (unwrap_or o []))
    by_bound None e f k = unbound q (λ more. stays q more e) k
    by_bound (Some namespace) e f k = f

pub written_fit : (listed : List (List ℕ)) (scope rendered : Scope) (name : List ℕ) (attributes : List Attribute) → AreFit scope → StaysBound scope rendered →
    AllByRecursion IsFit (written_declarations listed scope rendered name attributes)
written_fit listed scope rendered name attributes fit stays =
    all_made IsFit (is_rendered_anew scope rendered) (λ prefix. binding prefix (namespace_of scope prefix))
    (λ prefix h. anew_fit scope rendered prefix fit stays h)
    (sorted byte_order (once (used_prefixes name attributes ++ map listed_prefix listed)))
