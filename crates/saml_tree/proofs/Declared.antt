-- What the declarations of an element bind: each its prefix, since no two have one prefix.
use Rattle.std.proofs.Common.{◌≡◌, ◌≢◌, ℕ, zero, suc, true, false, cond, List, [], ◌∷◌, ◌++◌, map, Option, Some, None, IsSome, refl, sym, ap, ◌∙◌, subst}
use Rattle.std.specs.List.{AllByRecursion, slice_get, cons_option}
use Rattle.std.specs.Option.{option_map, option_map_or, option_and_then, unwrap_or}
use Rattle.std.specs.Str.{bytes_eq}
use Rattle.std.proofs.lemmas.Bool.{false_from_ne_true}
use Rattle.std.proofs.lemmas.Slice.Eq.{bytes_eq-Decides}
use Rattle.xml_spec.specs.Tree.{Attribute}
use Rattle.xml_spec.specs.Names.{Binding, Scope, bound, namespace_of, declared_prefix, binding_of, attribute_name, declarations, AreDistinct}
use Rattle.element_names.specs.Named.{kept_namespace}

-- no two declarations have one prefix
abbrev pub AreOnce : List Attribute → Type 0
AreOnce attributes = AreDistinct (map (λ (b : Binding). b.prefix) (declarations attributes))

abbrev binding : Attribute → List ℕ → Binding
binding a prefix = record { prefix = prefix; namespace = a.value }

-- a prefix that none declares is not this attribute's
other_prefix : (q : List ℕ) (attributes : List Attribute) (i : ℕ) (a : Attribute) (p : List ℕ) →
    AllByRecursion (λ other. q ≢ other) (map (λ (b : Binding). b.prefix) (declarations attributes)) →
    slice_get attributes i ≡ Some a → declared_prefix a.name ≡ Some p → q ≢ p
other_prefix q [] i a p h is e = absurd (let clash : None ≡ Some a = is in cc)
other_prefix q (b ∷ attributes) zero a p h is e =
    let same : b ≡ a = cc in
    subst (λ (o : Option (List ℕ)). AllByRecursion (λ other. q ≢ other)
    (map (λ (c : Binding). c.prefix) (cons_option (option_map (binding b) o) (declarations attributes))) → q ≢ p)
    (sym (ap (λ (c : Attribute). declared_prefix c.name) same ∙ e)) (λ k. k.0) h
other_prefix q (b ∷ attributes) (suc i) a p h is e = by_case (declared_prefix b.name) h (λ k. other_prefix q attributes i a p k is e)
  where
    by_case : (o : Option (List ℕ)) → AllByRecursion (λ other. q ≢ other)
        (map (λ (c : Binding). c.prefix) (cons_option (option_map (binding b) o) (declarations attributes))) →
        (AllByRecursion (λ other. q ≢ other) (map (λ (c : Binding). c.prefix) (declarations attributes)) → q ≢ p) → q ≢ p
    by_case None k behind = behind k
    by_case (Some other) k behind = behind k.1

pub declared_bound : (attributes : List Attribute) (outer : Scope) (i : ℕ) (a : Attribute) (p : List ℕ) → AreOnce attributes →
    slice_get attributes i ≡ Some a → declared_prefix a.name ≡ Some p → bound (declarations attributes ++ outer) p ≡ Some a.value
declared_bound [] outer i a p once is e = absurd (let clash : None ≡ Some a = is in cc)
declared_bound (b ∷ attributes) outer zero a p once is e =
    let same : b ≡ a = cc in
    subst (λ (o : Option (List ℕ)). bound (cons_option (option_map (binding b) o) (declarations attributes) ++ outer) p ≡ Some a.value)
    (sym (ap (λ (c : Attribute). declared_prefix c.name) same ∙ e))
    (ap (λ t. cond t (Some b.value) (bound (declarations attributes ++ outer) p)) ((bytes_eq-Decides p p).1 refl) ∙ ap (λ (c : Attribute). Some c.value) same)
declared_bound (b ∷ attributes) outer (suc i) a p once is e =
    by_case (declared_prefix b.name) once (λ k. declared_bound attributes outer i a p k is e)
  where
    by_case : (o : Option (List ℕ)) → AreDistinct (map (λ (c : Binding). c.prefix) (cons_option (option_map (binding b) o) (declarations attributes))) →
        (AreOnce attributes → bound (declarations attributes ++ outer) p ≡ Some a.value) →
        bound (cons_option (option_map (binding b) o) (declarations attributes) ++ outer) p ≡ Some a.value
    by_case None k behind = behind k
    by_case (Some q) k behind =
        ap (λ t. cond t (Some b.value) (bound (declarations attributes ++ outer) p))
        (false_from_ne_true (bytes_eq q p) (λ t. other_prefix q attributes i a p k.0 is e ((bytes_eq-Decides q p).0 t)))
        ∙ behind k.1

-- what is kept of a declaration is what it binds
pub declaration_kept : (attributes : List Attribute) (outer : Scope) (i : ℕ) (o : Option Attribute) → AreOnce attributes →
    slice_get attributes i ≡ o → IsSome (option_and_then binding_of o) →
    option_map (kept_namespace (declarations attributes ++ outer)) o ≡ option_map (λ (b : Binding). b.namespace) (option_and_then binding_of o)
declaration_kept attributes outer i None once is some = absurd (let clash : false ≡ true = some in cc)
declaration_kept attributes outer i (Some a) once is some = by_case (declared_prefix a.name) refl some
  where
    by_case : (o : Option (List ℕ)) → declared_prefix a.name ≡ o → IsSome (option_map (binding a) o) →
        Some (option_map_or (namespace_of (declarations attributes ++ outer)) o (attribute_name (declarations attributes ++ outer) a.name).namespace) ≡ option_map (λ (b : Binding). b.namespace) (option_map (binding a) o)
    by_case None e h = absurd (let clash : false ≡ true = h in cc)
    by_case (Some p) e h = ap (λ (x : Option (List ℕ)). Some (unwrap_or x [])) (declared_bound attributes outer i a p once is e)
