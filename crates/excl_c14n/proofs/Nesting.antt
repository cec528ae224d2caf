-- Levels of bindings: what is in force after more bindings, and that the listed prefixes stay rendered.
use Rattle.std.proofs.Common.{◌≡◌, ℕ, ◌<◌, Bool, true, false, not, cond, ◌||◌, ◌&&◌, List, [], ◌∷◌, ◌++◌, length, map, drop, Some, refl, sym, ap, ◌∙◌, arith}
use Rattle.std.specs.Option.{unwrap_or}
use Rattle.std.specs.Str.{bytes_eq}
use Rattle.std.proofs.lemmas.Bool.{or_parts, not-false}
use Rattle.std.proofs.lemmas.Cmp.{nat_list_eq_equiv}
use Rattle.std.proofs.lemmas.List.Folds.{list_any-append}
use Rattle.std.proofs.lemmas.Slice.Eq.{bytes_eq-Decides}
use Rattle.xml_spec.specs.Tree.{Attribute}
use Rattle.xml_spec.specs.Names.{Binding, Scope, bound, namespace_of}
use Rattle.xml_spec.specs.Canonical.{used_prefixes, listed_prefix, is_rendered_anew, written_declarations}
use Rattle.excl_c14n.specs.Levels.{Levels, in_force, with_binding, with_bindings, binding_in, is_among, AreListedRendered}
use Rattle.excl_c14n.specs.NodeByNode.{wanted_prefixes}
use Rattle.excl_c14n.proofs.Needed.{wanted_among}

length-with_binding : (b : Binding) (levels : Levels) → length (with_binding b levels) ≡ length levels
length-with_binding b [] = refl
length-with_binding b (level ∷ outer) = refl

pub length-with_bindings : (bs : List Binding) (levels : Levels) → length (with_bindings bs levels) ≡ length levels
length-with_bindings [] levels = refl
length-with_bindings (b ∷ bs) levels = length-with_binding b (with_bindings bs levels) ∙ length-with_bindings bs levels

in_force-with_binding : (b : Binding) (levels : Levels) → 0 < length levels → in_force (with_binding b levels) ≡ b ∷ in_force levels
in_force-with_binding b [] h = absurd (omega arith)
in_force-with_binding b (level ∷ outer) h = refl

pub in_force-with_bindings : (bs : List Binding) (levels : Levels) → 0 < length levels → in_force (with_bindings bs levels) ≡ bs ++ in_force levels
in_force-with_bindings [] levels h = refl
in_force-with_bindings (b ∷ bs) levels h =
    in_force-with_binding b (with_bindings bs levels) (omega (arith, length-with_bindings bs levels))
    ∙ ap (λ scope. b ∷ scope) (in_force-with_bindings bs levels h)

rest-with_binding : (b : Binding) (levels : Levels) → drop 1 (with_binding b levels) ≡ drop 1 levels
rest-with_binding b [] = refl
rest-with_binding b (level ∷ outer) = refl

pub rest-with_bindings : (bs : List Binding) (levels : Levels) → drop 1 (with_bindings bs levels) ≡ drop 1 levels
rest-with_bindings [] levels = refl
rest-with_bindings (b ∷ bs) levels = rest-with_binding b (with_bindings bs levels) ∙ rest-with_bindings bs levels

-- a prefix that more bindings do not have is bound as before
pub not_bound : (bs : List Binding) (scope : Scope) (q : List ℕ) → is_among q (map (λ (b : Binding). b.prefix) bs) ≡ false →
    bound (bs ++ scope) q ≡ bound scope q
not_bound [] scope q new = refl
not_bound (b ∷ bs) scope q new =
    let parts = or_parts (bytes_eq q b.prefix) (is_among q (map (λ (b : Binding). b.prefix) bs)) new in
    ap (λ t. cond t (Some b.namespace) (bound (bs ++ scope) q)) (nat_list_eq_equiv.symm b.prefix q ∙ parts.0) ∙ not_bound bs scope q parts.1

-- what is rendered of a prefix after these were rendered
rendered_now : (scope rendered : Scope) (ps : List (List ℕ)) (q : List ℕ) →
    namespace_of (map (binding_in scope) ps ++ rendered) q ≡ cond (is_among q ps) (namespace_of scope q) (namespace_of rendered q)
rendered_now scope rendered [] q = refl
rendered_now scope rendered (p ∷ ps) q = which (bytes_eq p q) refl (rendered_now scope rendered ps q)
  where
    which : (b : Bool) → bytes_eq p q ≡ b →
        namespace_of (map (binding_in scope) ps ++ rendered) q ≡ cond (is_among q ps) (namespace_of scope q) (namespace_of rendered q) →
        unwrap_or (cond b (Some (namespace_of scope p)) (bound (map (binding_in scope) ps ++ rendered) q)) []
        ≡ cond (bytes_eq q p || is_among q ps) (namespace_of scope q) (namespace_of rendered q)
    which true e later =
        ap (namespace_of scope) ((bytes_eq-Decides p q).0 e)
        ∙ ap (λ t. cond (t || is_among q ps) (namespace_of scope q) (namespace_of rendered q)) (sym (nat_list_eq_equiv.symm q p ∙ e))
    which false e later =
        later ∙ ap (λ t. cond (t || is_among q ps) (namespace_of scope q) (namespace_of rendered q)) (sym (nat_list_eq_equiv.symm q p ∙ e))

-- below an element each listed prefix is rendered as it is in scope
pub kept_below : (listed : List (List ℕ)) (scope inner rendered below : Scope) (name : List ℕ) (attributes : List Attribute) (none : List (List ℕ)) →
    inner ≡ scope → below ≡ written_declarations listed scope rendered name attributes ++ rendered → AreListedRendered listed none inner below
kept_below listed scope inner rendered below name attributes none one shown q listed_too other absent =
    ap (λ s. namespace_of s q) one
    ∙ which (is_rendered_anew scope rendered q) refl
    ∙ sym (ap (λ s. namespace_of s q) shown
    ∙ rendered_now scope rendered (wanted_prefixes listed scope rendered name attributes) q
    ∙ ap (λ b. cond b (namespace_of scope q) (namespace_of rendered q))
    (wanted_among listed scope rendered name attributes q
    ∙ ap (λ b. b && is_rendered_anew scope rendered q) (list_any-append (bytes_eq q) (used_prefixes name attributes) (map listed_prefix listed)
    ∙ ap (λ b. is_among q (used_prefixes name attributes) || b) listed_too)
    ∙ among_either (is_among q (used_prefixes name attributes)) (is_rendered_anew scope rendered q)))
  where
    among_either : (u a : Bool) → ((u || true) && a) ≡ a
    among_either true a = refl
    among_either false a = refl

    which : (b : Bool) → is_rendered_anew scope rendered q ≡ b → namespace_of scope q ≡ cond (is_rendered_anew scope rendered q) (namespace_of scope q) (namespace_of rendered q)
    which true e = ap (λ b. cond b (namespace_of scope q) (namespace_of rendered q)) (sym e)
    which false e =
        (bytes_eq-Decides (namespace_of scope q) (namespace_of rendered q)).0
        (not-false (bytes_eq (namespace_of scope q) (namespace_of rendered q))
        (ap (λ b. not b && not (bytes_eq (namespace_of scope q) (namespace_of rendered q))) (sym other) ∙ e))
        ∙ ap (λ b. cond b (namespace_of scope q) (namespace_of rendered q)) (sym e)
