-- The scopes inside made elements: each namespace that is declared has its prefix there.
use Rattle.std.proofs.Common.{◌≡◌, Bool, true, false, cond, ◌||◌, List, [], ◌∷◌, ◌++◌, refl, sym, ap, ◌∙◌, subst, append_assoc}
use Rattle.std.specs.List.{list_any, AllByRecursion}
use Rattle.xml_spec.specs.Tree.{Attribute}
use Rattle.xml_spec.specs.Names.{Scope, outermost, namespace_of, inner_scope}
use Rattle.element_make.specs.declared.names.Ns.{Ns}
use Rattle.element_make.specs.declared.names.Ns.TheVariants.{Saml, Samlp, Ds, Md}
use Rattle.element_make.specs.Prefixes.{prefix, namespace, same}
use Rattle.element_make.specs.Made.{declaration_in, IsMadeAttribute}
use Rattle.element_make.specs.Writing.{by_name, binding}
use Rattle.element_make.proofs.Forms.{added, given_declares}
use Rattle.element_make.proofs.Plain.{no_declarations, each_by_name}

-- the scope has just these namespaces of those of the messages
pub record Has (declared : List Ns) (scope : Scope) : Type 0 where
  pub bound : (ns : Ns) → namespace_of scope (prefix ns) ≡ cond (list_any (same ns) declared) (namespace ns) []

-- where a namespace was declared and is declared again, nothing changes
still_declared : (declared : List Ns) (ns other : Ns) → list_any (same ns) declared ≡ true →
    list_any (same other) declared ≡ (same other ns || list_any (same other) declared)
still_declared declared Saml Saml e = e
still_declared declared Saml Samlp e = refl
still_declared declared Saml Ds e = refl
still_declared declared Saml Md e = refl
still_declared declared Samlp Saml e = refl
still_declared declared Samlp Samlp e = e
still_declared declared Samlp Ds e = refl
still_declared declared Samlp Md e = refl
still_declared declared Ds Saml e = refl
still_declared declared Ds Samlp e = refl
still_declared declared Ds Ds e = e
still_declared declared Ds Md e = refl
still_declared declared Md Saml e = refl
still_declared declared Md Samlp e = refl
still_declared declared Md Ds e = refl
still_declared declared Md Md e = e

bound_inside : (declared : List Ns) (scope : Scope) (ns other : Ns) →
    namespace_of scope (prefix other) ≡ cond (list_any (same other) declared) (namespace other) [] →
    namespace_of (binding ns ∷ scope) (prefix other) ≡ cond (same other ns || list_any (same other) declared) (namespace other) []
bound_inside declared scope Saml Saml h = refl
bound_inside declared scope Saml Samlp h = h
bound_inside declared scope Saml Ds h = h
bound_inside declared scope Saml Md h = h
bound_inside declared scope Samlp Saml h = h
bound_inside declared scope Samlp Samlp h = refl
bound_inside declared scope Samlp Ds h = h
bound_inside declared scope Samlp Md h = h
bound_inside declared scope Ds Saml h = h
bound_inside declared scope Ds Samlp h = h
bound_inside declared scope Ds Ds h = refl
bound_inside declared scope Ds Md h = h
bound_inside declared scope Md Saml h = h
bound_inside declared scope Md Samlp h = h
bound_inside declared scope Md Ds h = h
bound_inside declared scope Md Md h = refl

-- where a namespace is declared that was not declared
pub has_more : (declared : List Ns) (scope : Scope) → Has declared scope → (ns : Ns) (there : Bool) → list_any (same ns) declared ≡ there →
    Has (ns ∷ declared) (added there ns ++ scope)
has_more declared scope has ns true e =
    record { bound = λ other. has.bound other ∙ ap (λ t. cond t (namespace other) []) (still_declared declared ns other e) }
has_more declared scope has ns false e = record { bound = λ other. bound_inside declared scope ns other (has.bound other) }

module _ (declared : List Ns) (scope : Scope) (has : Has declared scope) (ns : Ns) (attributes : List Attribute) (made : AllByRecursion IsMadeAttribute attributes) where
  inner_is : inner_scope (declaration_in declared ns ++ by_name attributes) scope ≡ added (list_any (same ns) declared) ns ++ scope
  inner_is =
      let there = list_any (same ns) declared in
      ap (λ bs. bs ++ scope) (given_declares there ns (by_name attributes)
      ∙ ap (λ bs. added there ns ++ bs) (no_declarations (by_name attributes) (each_by_name IsMadeAttribute attributes made)))
      ∙ append_assoc (added there ns) [] scope

  -- inside an element
  pub has_inside : Has (ns ∷ declared) (inner_scope (declaration_in declared ns ++ by_name attributes) scope)
  has_inside = subst (Has (ns ∷ declared)) (sym inner_is) (has_more declared scope has ns (list_any (same ns) declared) refl)

  own_declared : (n : Ns) → list_any (same n) (n ∷ declared) ≡ true
  own_declared Saml = refl
  own_declared Samlp = refl
  own_declared Ds = refl
  own_declared Md = refl

  -- an element's prefix is bound to its namespace inside it
  pub own_bound : namespace_of (inner_scope (declaration_in declared ns ++ by_name attributes) scope) (prefix ns) ≡ namespace ns
  own_bound = has_inside.bound ns ∙ ap (λ t. cond t (namespace ns) []) (own_declared ns)

-- outside the root
pub has_none : Has [] outermost
has_none = record {
  bound = λ ns. elim ns as (λ n. namespace_of outermost (prefix n) ≡ []) [ Saml ↦ refl | Samlp ↦ refl | Ds ↦ refl | Md ↦ refl ];
}

-- above the element that a form is taken of
pub none_rendered : Has [] []
none_rendered = record {
  bound = λ ns. elim ns as (λ n. namespace_of [] (prefix n) ≡ []) [ Saml ↦ refl | Samlp ↦ refl | Ds ↦ refl | Md ↦ refl ];
}
