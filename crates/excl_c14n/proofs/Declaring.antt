-- The listed prefixes that elements declare, found one by one: first those of an element, then those of the elements
-- around it.
use Rattle.std.proofs.Common.{◌≡◌, ℕ, zero, suc, ◌+◌, ◌<◌, Bool, true, false, cond, ◌||◌, ◌&&◌, codes, List, [], ◌∷◌, ◌++◌, map, take, Option, Some, None, IsSome, IfSome, Bor, refl, sym, ap, ◌∙◌, append_assoc, arith}
use Rattle.std.specs.List.{slice_get, cons_option}
use Rattle.std.specs.Option.{option_map, unwrap_or}
use Rattle.std.specs.Str.{bytes_eq}
use Rattle.std.proofs.lemmas.Bool.{or_parts}
use Rattle.std.proofs.lemmas.Cmp.{nat_list_eq_equiv}
use Rattle.std.proofs.lemmas.List.{map-append}
use Rattle.std.proofs.lemmas.List.Elements.{filter_map-append}
use Rattle.std.proofs.lemmas.List.Folds.{list_any-append}
use Rattle.std.proofs.lemmas.Slice.Eq.{bytes_eq-Decides}
use Rattle.xml_spec.specs.Tree.{Attribute, Nodes, NoNodes, Element, Text, Comment, Instruction}
use Rattle.xml_spec.specs.Numbering.{from_node, parent_of}
use Rattle.xml_spec.specs.Names.{Binding, Scope, outermost, bound, namespace_of, binding_of, declared_prefix, declarations, xml_namespace}
use Rattle.xml_spec.specs.Canonical.{scope_at, listed_prefix}
use Rattle.saml_tree.specs.Elements.{attributes_in}
use Rattle.saml_tree.specs.NodeNames.{attribute_at}
use Rattle.saml_tree.specs.Documents.{kind_of}
use Rattle.saml_tree.specs.declared.node.NodeKind.{NodeKind}
use Rattle.saml_tree.specs.declared.node.NodeKind.TheVariants as kinds
use Rattle.saml_tree.specs.declared.node.NodeNo.{NodeNo}
use Rattle.saml_tree.specs.declared.node.NameAt.TheVariants as places
use Rattle.excl_c14n.specs.Levels.{is_among, AreListedRendered}
use Rattle.excl_c14n.specs.NodeByNode.{scope_inside}
use Rattle.excl_c14n.specs.Pairs.{Pair, prefixes_in, IsPlaced, ArePlaced, is_declared_in, IsBoundAs, AreDeclared}
use Rattle.excl_c14n.proofs.Listing.{taken_more}
use Rattle.excl_c14n.proofs.Needed.{shown_attribute}
use Rattle.excl_c14n.proofs.Nesting.{not_bound}
use Rattle.excl_c14n.proofs.Speaking.{Declares}
use Rattle.excl_c14n.proofs.Scopes.{element_around, none_around}

-- the prefixes of some bindings
abbrev pub prefixes_of : List Binding → List (List ℕ)
prefixes_of bs = map (λ (b : Binding). b.prefix) bs

-- what is known where attributes of node n up to number i were looked at
abbrev pub AreFound : List (List ℕ) → List (List ℕ) → List Attribute → List (List ℕ) → Type 0
AreFound listed start attributes now = (q : List ℕ) → is_among q now ≡ (is_among q start || is_declared_in listed attributes q)

-- each that is found is bound in the scope as the element binds it
pub record ArePlacedSoFar (listed : List (List ℕ)) (tree : Nodes) (attributes : List Attribute) (start now : List Pair) : Type 0 where
  pub placed : (scope : Scope) → ArePlaced tree scope start → IsBoundAs listed attributes (prefixes_in start) scope → ArePlaced tree scope now

or_false : (b : Bool) → b ≡ (b || false)
or_false true = refl
or_false false = refl

and_false : (b : Bool) → (b && false) ≡ false
and_false true = refl
and_false false = refl

declared_next : (attributes : List Attribute) (i : ℕ) (a : Attribute) → slice_get attributes i ≡ Some a →
    declarations (take (i + 1) attributes) ≡ declarations (take i attributes) ++ declarations (a ∷ [])
declared_next attributes i a there =
    let next : i + 1 ≡ suc i = omega arith in
    ap (λ k. declarations (take k attributes)) next ∙ ap declarations (taken_more attributes i a there)
    ∙ filter_map-append binding_of (take i attributes) (a ∷ [])

declared_one : (a : Attribute) (o : Option (List ℕ)) → o ≡ declared_prefix a.name →
    declarations (a ∷ []) ≡ unwrap_or (option_map (λ p. record { prefix = p; namespace = a.value } ∷ []) o) []
declared_one a None e = rw (← e) refl
declared_one a (Some p) e = rw (← e) refl

-- no attribute was looked at
pub none_found : (listed : List (List ℕ)) (attributes : List Attribute) (start : List (List ℕ)) → AreFound listed start (take 0 attributes) start
none_found listed attributes start q = or_false (is_among q start)

-- an attribute was passed, or its prefix is not listed
pub found_passed : (listed : List (List ℕ)) (tree : Nodes) (n i : ℕ) (declared : Option (Bor (List ℕ))) (start now : List (List ℕ)) →
    IsSome (attribute_at tree n i) →
    IfSome (attribute_at tree n i) (λ a. option_map (λ (p : Bor (List ℕ)). p.now) declared ≡ declared_prefix a.name) →
    IfSome declared (λ p. is_among p.now (map listed_prefix listed) ≡ false) →
    AreFound listed start (take i (attributes_in (from_node tree n))) now → AreFound listed start (take (i + 1) (attributes_in (from_node tree n))) now
found_passed listed tree n i declared start now there known unlisted so_far q =
    which (attribute_at tree n i) refl there known
  where
    none_more : (a : Attribute) (d : Option (Bor (List ℕ))) → option_map (λ (p : Bor (List ℕ)). p.now) d ≡ declared_prefix a.name →
        IfSome d (λ p. is_among p.now (map listed_prefix listed) ≡ false) →
        (b : Bool) → (b && is_among q (map listed_prefix listed)) ≡ ((b || is_among q (prefixes_of (declarations (a ∷ [])))) && is_among q (map listed_prefix listed))
    none_more a None k l b =
        ap (λ t. t && is_among q (map listed_prefix listed)) (or_false b ∙ ap (λ bs. b || is_among q (prefixes_of bs)) (sym (declared_one a None k)))
    none_more a (Some p) k l b =
        by_prefix (bytes_eq q p.now) refl b
        ∙ ap (λ bs. (b || is_among q (prefixes_of bs)) && is_among q (map listed_prefix listed)) (sym (declared_one a (Some p.now) k))
      where
        by_prefix : (t : Bool) → bytes_eq q p.now ≡ t → (b : Bool) →
            (b && is_among q (map listed_prefix listed)) ≡ ((b || (t || false)) && is_among q (map listed_prefix listed))
        by_prefix true e b =
            let never : is_among q (map listed_prefix listed) ≡ false =
            ap (λ r. is_among r (map listed_prefix listed)) ((bytes_eq-Decides q p.now).0 e) ∙ l in
            ap (λ t. b && t) never ∙ and_false b ∙ sym (ap (λ t. (b || true) && t) never ∙ and_false (b || true))
        by_prefix false e b = ap (λ t. t && is_among q (map listed_prefix listed)) (or_false b)

    which : (o : Option Attribute) → attribute_at tree n i ≡ o → IsSome o →
        IfSome o (λ a. option_map (λ (p : Bor (List ℕ)). p.now) declared ≡ declared_prefix a.name) →
        is_among q now ≡ (is_among q start || is_declared_in listed (take (i + 1) (attributes_in (from_node tree n))) q)
    which None e h k = absurd (let clash : false ≡ true = h in cc)
    which (Some a) e h k =
        let attributes = attributes_in (from_node tree n) in
        so_far q
        ∙ ap (λ b. is_among q start || b)
        (none_more a declared k unlisted (is_among q (prefixes_of (declarations (take i attributes))))
        ∙ ap (λ b. b && is_among q (map listed_prefix listed))
        (sym (list_any-append (bytes_eq q) (prefixes_of (declarations (take i attributes))) (prefixes_of (declarations (a ∷ []))))
        ∙ ap (is_among q) (sym (map-append (λ (b : Binding). b.prefix) (declarations (take i attributes)) (declarations (a ∷ [])))
        ∙ ap prefixes_of (sym (declared_next attributes i a (sym (shown_attribute tree n i) ∙ e))))))

-- a listed prefix was added
pub found_more : (listed : List (List ℕ)) (tree : Nodes) (n i : ℕ) (declared : Option (Bor (List ℕ))) (prefix : Bor (List ℕ)) (start now new : List (List ℕ)) →
    IsSome (attribute_at tree n i) →
    IfSome (attribute_at tree n i) (λ a. option_map (λ (p : Bor (List ℕ)). p.now) declared ≡ declared_prefix a.name) → declared ≡ Some prefix →
    is_among prefix.now (map listed_prefix listed) ≡ true →
    ((q : List ℕ) → is_among q new ≡ (is_among q now || bytes_eq q prefix.now)) →
    AreFound listed start (take i (attributes_in (from_node tree n))) now → AreFound listed start (take (i + 1) (attributes_in (from_node tree n))) new
found_more listed tree n i declared prefix start now new there known some too put so_far q = which (attribute_at tree n i) refl there known
  where
    by_prefix : (t : Bool) → bytes_eq q prefix.now ≡ t → (s b : Bool) →
        ((s || (b && is_among q (map listed_prefix listed))) || t) ≡ (s || ((b || (t || false)) && is_among q (map listed_prefix listed)))
    by_prefix true e s b =
        let listed_too : is_among q (map listed_prefix listed) ≡ true =
        ap (λ r. is_among r (map listed_prefix listed)) ((bytes_eq-Decides q prefix.now).0 e) ∙ too in
        ap (λ t. (s || (b && t)) || true) listed_too ∙ all_one s b ∙ sym (ap (λ t. s || ((b || true) && t)) listed_too)
      where
        all_one : (s b : Bool) → ((s || (b && true)) || true) ≡ (s || ((b || true) && true))
        all_one true true = refl
        all_one true false = refl
        all_one false true = refl
        all_one false false = refl
    by_prefix false e s b =
        sym (or_false (s || (b && is_among q (map listed_prefix listed))))
        ∙ ap (λ t. s || (t && is_among q (map listed_prefix listed))) (or_false b)

    which : (o : Option Attribute) → attribute_at tree n i ≡ o → IsSome o →
        IfSome o (λ a. option_map (λ (p : Bor (List ℕ)). p.now) declared ≡ declared_prefix a.name) →
        is_among q new ≡ (is_among q start || is_declared_in listed (take (i + 1) (attributes_in (from_node tree n))) q)
    which None e h k = absurd (let clash : false ≡ true = h in cc)
    which (Some a) e h k =
        let attributes = attributes_in (from_node tree n) in
        let own = declared_one a (Some prefix.now) (ap (option_map (λ (p : Bor (List ℕ)). p.now)) (sym some) ∙ k) in
        put q ∙ ap (λ b. b || bytes_eq q prefix.now) (so_far q)
        ∙ by_prefix (bytes_eq q prefix.now) refl (is_among q start) (is_among q (prefixes_of (declarations (take i attributes))))
        ∙ ap (λ bs. is_among q start || ((is_among q (prefixes_of (declarations (take i attributes))) || is_among q (prefixes_of bs)) && is_among q (map listed_prefix listed))) (sym own)
        ∙ ap (λ b. is_among q start || (b && is_among q (map listed_prefix listed)))
        (sym (list_any-append (bytes_eq q) (prefixes_of (declarations (take i attributes))) (prefixes_of (declarations (a ∷ []))))
        ∙ ap (is_among q) (sym (map-append (λ (b : Binding). b.prefix) (declarations (take i attributes)) (declarations (a ∷ [])))
        ∙ ap prefixes_of (sym (declared_next attributes i a (sym (shown_attribute tree n i) ∙ e)))))

-- the prefix of attribute i is one that the element declares
declares_it : (listed : List (List ℕ)) (attributes : List Attribute) (i : ℕ) (a : Attribute) (p : List ℕ) → slice_get attributes i ≡ Some a →
    Some p ≡ declared_prefix a.name → is_among p (prefixes_of (declarations attributes)) ≡ true
declares_it listed [] i a p there own = absurd (let clash : None ≡ Some a = there in cc)
declares_it listed (b ∷ attributes) zero a p there own =
    let same : b ≡ a = cc in
    ap (λ (c : Option Binding). is_among p (prefixes_of (cons_option c (declarations attributes))))
    (ap binding_of same ∙ ap (option_map (λ q. record { prefix = q; namespace = a.value })) (sym own))
    ∙ ap (λ t. t || is_among p (prefixes_of (declarations attributes))) ((bytes_eq-Decides p p).1 refl)
declares_it listed (b ∷ attributes) (suc i) a p there own =
    by_case (binding_of b) (declares_it listed attributes i a p there own)
  where
    one_more : (t m : Bool) → m ≡ true → (t || m) ≡ true
    one_more true m e = refl
    one_more false m e = e

    by_case : (o : Option Binding) → is_among p (prefixes_of (declarations attributes)) ≡ true →
        is_among p (prefixes_of (cons_option o (declarations attributes))) ≡ true
    by_case None e = e
    by_case (Some c) e = one_more (bytes_eq p c.prefix) (is_among p (prefixes_of (declarations attributes))) e

-- a listed prefix was added with its place
pub placed_more : (listed : List (List ℕ)) (tree : Nodes) (n : NodeNo) (i : ℕ) (declared : Option (Bor (List ℕ))) (prefix : Bor (List ℕ)) (start now new : List Pair) →
    IsSome (attribute_at tree n.0 i) →
    IfSome (attribute_at tree n.0 i) (λ a. option_map (λ (p : Bor (List ℕ)). p.now) declared ≡ declared_prefix a.name) → declared ≡ Some prefix →
    is_among prefix.now (map listed_prefix listed) ≡ true → Declares tree n i prefix.now →
    ((scope : Scope) → ArePlaced tree scope now →
    (is_among prefix.now (prefixes_in now) ≡ false → IsPlaced tree scope (prefix.now, places.Declaration n i)) → ArePlaced tree scope new) →
    AreFound listed (prefixes_in start) (take i (attributes_in (from_node tree n.0))) (prefixes_in now) →
    ArePlacedSoFar listed tree (attributes_in (from_node tree n.0)) start now → ArePlacedSoFar listed tree (attributes_in (from_node tree n.0)) start new
placed_more listed tree n i declared prefix start now new there known some too declares put found so_far = record {
  placed = λ scope all binds.
      put scope (so_far.placed scope all binds)
      (λ new. record {
        there = declares.there;
        is = declares.speaks
            ∙ sym (binds prefix.now (which (attribute_at tree n.0 i) refl there known)
            (or_parts (is_among prefix.now (prefixes_in start)) (is_declared_in listed (take i (attributes_in (from_node tree n.0))) prefix.now)
            (sym (found prefix.now) ∙ new)).0);
      });
}
  where
    both : (b c : Bool) → b ≡ true → c ≡ true → (b && c) ≡ true
    both true c e f = f
    both false c e f = absurd (let clash : false ≡ true = e in cc)

    which : (o : Option Attribute) → attribute_at tree n.0 i ≡ o → IsSome o →
        IfSome o (λ a. option_map (λ (p : Bor (List ℕ)). p.now) declared ≡ declared_prefix a.name) →
        is_declared_in listed (attributes_in (from_node tree n.0)) prefix.now ≡ true
    which None e h k = absurd (let clash : false ≡ true = h in cc)
    which (Some a) e h k =
        both (is_among prefix.now (prefixes_of (declarations (attributes_in (from_node tree n.0))))) (is_among prefix.now (map listed_prefix listed))
        (declares_it listed (attributes_in (from_node tree n.0)) i a prefix.now (sym (shown_attribute tree n.0 i) ∙ e)
        (ap (option_map (λ (p : Bor (List ℕ)). p.now)) (sym some) ∙ k)) too

-- the scope that is left where the elements up to this one were looked at
abbrev pub scope_left : Nodes → Option ℕ → Scope
scope_left tree None = outermost
scope_left tree (Some m) = scope_inside tree m

-- the elements from n to this one were looked at, and bind this
pub record AreLookedAt (listed : List (List ℕ)) (tree : Nodes) (n : ℕ) (next : Option ℕ) (found : List Pair) : Type 0 where
  pub bindings : Scope
  pub inside : scope_inside tree n ≡ bindings ++ scope_left tree next
  pub among : (q : List ℕ) → is_among q (prefixes_in found) ≡ (is_among q (prefixes_of bindings) && is_among q (map listed_prefix listed))
  pub placed : ArePlaced tree (scope_inside tree n) found

-- a prefix that is bound first is bound as if there were no more
bound_first : (bs : List Binding) (scope : Scope) (q : List ℕ) → is_among q (prefixes_of bs) ≡ true → namespace_of (bs ++ scope) q ≡ namespace_of bs q
bound_first [] scope q among = absurd (let clash : false ≡ true = among in cc)
bound_first (b ∷ bs) scope q among = which (bytes_eq q b.prefix) (nat_list_eq_equiv.symm b.prefix q) among (bound_first bs scope q)
  where
    which : (t : Bool) → bytes_eq b.prefix q ≡ t → (t || is_among q (prefixes_of bs)) ≡ true →
        (is_among q (prefixes_of bs) ≡ true → namespace_of (bs ++ scope) q ≡ namespace_of bs q) →
        unwrap_or (cond (bytes_eq b.prefix q) (Some b.namespace) (bound (bs ++ scope) q)) [] ≡ unwrap_or (cond (bytes_eq b.prefix q) (Some b.namespace) (bound bs q)) []
    which true e h behind =
        ap (λ t. unwrap_or (cond t (Some b.namespace) (bound (bs ++ scope) q)) []) e ∙ sym (ap (λ t. unwrap_or (cond t (Some b.namespace) (bound bs q)) []) e)
    which false e h behind =
        ap (λ t. unwrap_or (cond t (Some b.namespace) (bound (bs ++ scope) q)) []) e ∙ behind h
        ∙ sym (ap (λ t. unwrap_or (cond t (Some b.namespace) (bound bs q)) []) e)

-- one more element was looked at
module _ (listed : List (List ℕ)) (tree : Nodes) (n m : ℕ) (next : Option ℕ) (before after : List Pair) (so_far : AreLookedAt listed tree n (Some m) before)
    (left : scope_at outermost tree m ≡ scope_left tree next) where
  abbrev own : Scope
  own = declarations (attributes_in (from_node tree m))

  -- what it binds, in the scope of n
  pub binds_as : IsBoundAs listed (attributes_in (from_node tree m)) (prefixes_in before) (scope_inside tree n)
  binds_as q declared absent =
      let parts = both_of (is_among q (prefixes_of own)) (is_among q (map listed_prefix listed)) declared in
      let fresh : is_among q (prefixes_of so_far.bindings) ≡ false =
      first_false (is_among q (prefixes_of so_far.bindings)) (is_among q (map listed_prefix listed)) (sym (so_far.among q) ∙ absent) parts.1 in
      ap (λ s. namespace_of s q) so_far.inside ∙ ap (λ o. unwrap_or o []) (not_bound so_far.bindings (scope_inside tree m) q fresh)
      ∙ bound_first own (scope_at outermost tree m) q parts.0
    where
      both_of : (b c : Bool) → (b && c) ≡ true → (b ≡ true) × (c ≡ true)
      both_of true c e = (refl, e)
      both_of false c e = absurd (let clash : false ≡ true = e in cc)

      first_false : (b c : Bool) → (b && c) ≡ false → c ≡ true → b ≡ false
      first_false true c e f = absurd (let clash : true ≡ false = sym f ∙ e in cc)
      first_false false c e f = refl

  pub one_more_looked_at : AreFound listed (prefixes_in before) (attributes_in (from_node tree m)) (prefixes_in after) →
      ArePlaced tree (scope_inside tree n) after → AreLookedAt listed tree n next after
  one_more_looked_at found placed = record {
    bindings = so_far.bindings ++ own;
    inside = so_far.inside ∙ sym (append_assoc so_far.bindings own (scope_at outermost tree m)) ∙ ap (λ s. (so_far.bindings ++ own) ++ s) left;
    among = λ q.
        found q ∙ ap (λ b. b || is_declared_in listed (attributes_in (from_node tree m)) q) (so_far.among q)
        ∙ joined (is_among q (prefixes_of so_far.bindings)) (is_among q (prefixes_of own)) (is_among q (map listed_prefix listed))
        ∙ ap (λ b. b && is_among q (map listed_prefix listed))
        (sym (list_any-append (bytes_eq q) (prefixes_of so_far.bindings) (prefixes_of own))
        ∙ ap (is_among q) (sym (map-append (λ (b : Binding). b.prefix) so_far.bindings own)));
    placed = placed;
  }
    where
      joined : (a b c : Bool) → ((a && c) || (b && c)) ≡ ((a || b) && c)
      joined true b true = refl
      joined true true false = refl
      joined true false false = refl
      joined false b c = refl

-- all were looked at, up to the root
pub all_looked_around : (listed : List (List ℕ)) (tree : Nodes) (n : ℕ) (found : List Pair) → AreLookedAt listed tree n None found →
    AreDeclared listed tree n [] found
all_looked_around listed tree n found all = record {
  among = λ q e. second (is_among q (prefixes_of all.bindings)) (is_among q (map listed_prefix listed)) (sym (all.among q) ∙ e);
  placed = all.placed;
  others = λ q too other absent.
      ap (λ s. namespace_of s q) all.inside
      ∙ ap (λ o. unwrap_or o [])
      (not_bound all.bindings outermost q (first_false (is_among q (prefixes_of all.bindings)) (is_among q (map listed_prefix listed)) (sym (all.among q) ∙ absent) too))
      ∙ ap (λ b. unwrap_or (cond b (Some xml_namespace) None) []) (nat_list_eq_equiv.symm (codes "xml") q ∙ other);
}
  where
    second : (b c : Bool) → (b && c) ≡ true → c ≡ true
    second true c e = e
    second false c e = absurd (let clash : false ≡ true = e in cc)

    first_false : (b c : Bool) → (b && c) ≡ false → c ≡ true → b ≡ false
    first_false true c e f = absurd (let clash : true ≡ false = sym f ∙ e in cc)
    first_false false c e f = refl

-- the elements around, one after the other
abbrev pub number_of : Option NodeNo → Option ℕ
number_of o = option_map (λ (m : NodeNo). m.0) o

pub scope_around : (tree : Nodes) (m : ℕ) (o : Option NodeNo) → number_of o ≡ parent_of tree m → scope_at outermost tree m ≡ scope_left tree (number_of o)
scope_around tree m None e = none_around outermost tree m None refl e
scope_around tree m (Some p) e = (element_around outermost tree m (Some p) p refl e).inside

-- how many are left at most
abbrev pub left_above : Option NodeNo → ℕ
left_above None = 0
left_above (Some m) = suc m.0

pub fewer_left : (tree : Nodes) (m : ℕ) (o : Option NodeNo) → number_of o ≡ parent_of tree m → left_above o < suc m
fewer_left tree m None e = omega arith
fewer_left tree m (Some p) e = omega (arith, (element_around outermost tree m (Some p) p refl e).before)

-- a node that is no element declares nothing, and an element its own
pub declared_here : (listed : List (List ℕ)) (tree : Nodes) (n : ℕ) (found : List Pair) (rendered : Scope) → ArePlaced tree (scope_inside tree n) found →
    AreFound listed [] (attributes_in (from_node tree n)) (prefixes_in found) → AreListedRendered listed [] (scope_at outermost tree n) rendered →
    AreDeclared listed tree n rendered found
declared_here listed tree n found rendered placed among kept = record {
  among = λ q e. second (is_among q (prefixes_of (declarations (attributes_in (from_node tree n))))) (is_among q (map listed_prefix listed)) (sym (among q) ∙ e);
  placed = placed;
  others = λ q too other absent.
      ap (λ o. unwrap_or o [])
      (not_bound (declarations (attributes_in (from_node tree n))) (scope_at outermost tree n) q
      (first_false (is_among q (prefixes_of (declarations (attributes_in (from_node tree n))))) (is_among q (map listed_prefix listed)) (sym (among q) ∙ absent) too))
      ∙ kept q too other refl;
}
  where
    second : (b c : Bool) → (b && c) ≡ true → c ≡ true
    second true c e = e
    second false c e = absurd (let clash : false ≡ true = e in cc)

    first_false : (b c : Bool) → (b && c) ≡ false → c ≡ true → b ≡ false
    first_false true c e f = absurd (let clash : true ≡ false = sym f ∙ e in cc)
    first_false false c e f = refl

-- in the scope of the element itself its declarations are what it binds
pub binds_here : (listed : List (List ℕ)) (tree : Nodes) (n : ℕ) (before : List (List ℕ)) →
    IsBoundAs listed (attributes_in (from_node tree n)) before (scope_inside tree n)
binds_here listed tree n before q declared absent =
    bound_first (declarations (attributes_in (from_node tree n))) (scope_at outermost tree n) q
    (first_true (is_among q (prefixes_of (declarations (attributes_in (from_node tree n))))) (is_among q (map listed_prefix listed)) declared)
  where
    first_true : (b c : Bool) → (b && c) ≡ true → b ≡ true
    first_true true c e = refl
    first_true false c e = absurd (let clash : false ≡ true = e in cc)

-- only an element has attributes
pub none_here : (nodes : Nodes) (kind : NodeKind) → kind_of nodes ≡ Some kind → (kind ≡ kinds.Element → ⊥) → attributes_in nodes ≡ []
none_here NoNodes kind e other = refl
none_here (Element name attributes kids rest) kind e other = absurd (other (let same : kind ≡ kinds.Element = cc in same))
none_here (Text text rest) kind e other = refl
none_here (Comment text rest) kind e other = refl
none_here (Instruction target value rest) kind e other = refl

-- what holds of a node, if there is one, by its number
pub of_number : (P : ℕ → Type 0) (o : Option NodeNo) → IfSome o (λ m. P m.0) → IfSome (number_of o) P
of_number P None h = tt
of_number P (Some m) h = h
