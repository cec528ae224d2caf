-- Levels with the numbers of places, seen as levels of bindings.
use Rattle.std.proofs.Common.{◌≡◌, ◌↔◌, ℕ, suc, ◌<◌, ◌≤◌, Bool, true, false, not, ◌&&◌, cond, eqb, codes, List, [], ◌∷◌, ◌++◌, length, get_or, map, take, drop, reverse, Option, Some, None, IsSome, IsTrue, Result, Ok, Err, OnOk, OnErr, refl, sym, ap, ◌∙◌, subst, arith}
use Rattle.std.specs.List.{AllByRecursion}
use Rattle.std.specs.Option.{option_map, option_or, unwrap_or}
use Rattle.std.specs.Map.{lookup}
use Rattle.std.specs.Str.{bytes_eq}
use Rattle.std.proofs.lemmas.List.{length-map, length-append, length-take-le, map-append, drop-map, reverse-append, take-append-drop, get_or-map, get_or_append_left, get_or_push}
use Rattle.std.proofs.lemmas.Bool.{false_from_ne_true}
use Rattle.std.proofs.lemmas.Slice.Eq.{bytes_eq-Decides}
use Rattle.namespace_scope.specs.Levels as numbered
use Rattle.xml_spec.specs.Tree.{Nodes}
use Rattle.xml_spec.specs.Names.{Scope, bound, namespace_of}
use Rattle.xml_spec.specs.Canonical.{is_rendered_anew}
use Rattle.saml_tree.specs.NodeNames.{IsNameAt, namespace_at}
use Rattle.saml_tree.specs.declared.node.NameAt.{NameAt}
use Rattle.saml_tree.proofs.Lists.{all_at, all_push}
use Rattle.excl_c14n.specs.Levels.{RenderedView, in_force, with_binding}
use Rattle.excl_c14n.specs.Pairs.{space_at, binding_placed}
use Rattle.excl_c14n.specs.Tables.{Table, spaces_of, name_of_number, binding_of_pair, levels_named, rendered_view, AreBelow, AreWithin, IsKept}
use Rattle.excl_c14n.proofs.Speaking.{named_there, empty_by_length}

abbrev name_numbered : Table → ℕ → List ℕ
name_numbered table k = get_or table k []

-- what a level binds comes in front of what the others bind
level_bound : (table : Table) (level : numbered.Level) (rest : Scope) (q : List ℕ) →
    bound (map (binding_of_pair table) level ++ rest) q
    ≡ option_or (option_map (name_numbered table) (lookup (λ prefix. bytes_eq prefix q) level)) (bound rest q)
level_bound table [] rest q = refl
level_bound table (pair ∷ level) rest q = which (bytes_eq pair.0 q) (level_bound table level rest q)
  where
    which : (b : Bool) →
        bound (map (binding_of_pair table) level ++ rest) q
        ≡ option_or (option_map (name_numbered table) (lookup (λ prefix. bytes_eq prefix q) level)) (bound rest q) →
        cond b (Some (name_numbered table pair.1)) (bound (map (binding_of_pair table) level ++ rest) q)
        ≡ option_or (option_map (name_numbered table) (cond b (Some pair.1) (lookup (λ prefix. bytes_eq prefix q) level))) (bound rest q)
    which true later = refl
    which false later = later

joined_map : (f : ℕ → List ℕ) (o p : Option ℕ) → option_or (option_map f o) (option_map f p) ≡ option_map f (option_or o p)
joined_map f None p = refl
joined_map f (Some k) p = refl

all_bound : (table : Table) (levels : List numbered.Level) (q : List ℕ) →
    bound (in_force (levels_named table levels)) q ≡ option_map (name_numbered table) (numbered.lookup_of q levels)
all_bound table [] q = refl
all_bound table (level ∷ outer) q =
    level_bound table level (in_force (levels_named table outer)) q
    ∙ ap (λ o. option_or (option_map (name_numbered table) (lookup (λ prefix. bytes_eq prefix q) level)) o) (all_bound table outer q)
    ∙ joined_map (name_numbered table) (lookup (λ prefix. bytes_eq prefix q) level) (numbered.lookup_of q outer)

none_empty : (table : Table) (o : Option ℕ) → unwrap_or (option_map (name_numbered table) o) [] ≡ name_of_number table o
none_empty table None = refl
none_empty table (Some k) = refl

-- a prefix's namespace is that of the number that is found
namespace_found : (table : Table) (levels : List numbered.Level) (q : List ℕ) →
    namespace_of (in_force (levels_named table levels)) q ≡ name_of_number table (numbered.lookup_of q levels)
namespace_found table levels q =
    ap (λ o. unwrap_or o []) (all_bound table levels q) ∙ none_empty table (numbered.lookup_of q levels)

-- more places leave the namespaces of the lower numbers
same_level : (table more : Table) (level : numbered.Level) → AllByRecursion (λ (pair : numbered.Pair). pair.1 < length table) level →
    map (binding_of_pair (table ++ more)) level ≡ map (binding_of_pair table) level
same_level table more [] below = refl
same_level table more (pair ∷ level) below =
    λ i. record { prefix = pair.0; namespace = get_or_append_left table more [] pair.1 below.0 i } ∷ same_level table more level below.1 i

same_levels : (table more : Table) (levels : List numbered.Level) → AreBelow (length table) levels →
    levels_named (table ++ more) levels ≡ levels_named table levels
same_levels table more [] below = refl
same_levels table more (level ∷ levels) below =
    λ i. same_level table more level below.0 i ∷ same_levels table more levels below.1 i

-- one more pair is one more binding
named_declared : (table : Table) (levels : List numbered.Level) (prefix : List ℕ) (k : ℕ) →
    levels_named table (numbered.declared_in prefix k levels)
    ≡ with_binding (record { prefix = prefix; namespace = get_or table k [] }) (levels_named table levels)
named_declared table [] prefix k = refl
named_declared table (level ∷ levels) prefix k = refl

more_in_level : (count more : ℕ) (level : numbered.Level) → count ≤ more → AllByRecursion (λ (pair : numbered.Pair). pair.1 < count) level →
    AllByRecursion (λ (pair : numbered.Pair). pair.1 < more) level
more_in_level count more [] h below = tt
more_in_level count more (pair ∷ level) h below = (omega (arith, below.0), more_in_level count more level h below.1)

still_below : (count more : ℕ) (levels : List numbered.Level) → count ≤ more → AreBelow count levels → AreBelow more levels
still_below count more [] h below = tt
still_below count more (level ∷ levels) h below = (more_in_level count more level h below.0, still_below count more levels h below.1)

-- a number that is found has a place
found_in_level : (count : ℕ) (level : numbered.Level) (q : List ℕ) (k : ℕ) → AllByRecursion (λ (pair : numbered.Pair). pair.1 < count) level →
    lookup (λ prefix. bytes_eq prefix q) level ≡ Some k → k < count
found_in_level count [] q k below e = absurd (let clash : None ≡ Some k = e in cc)
found_in_level count (pair ∷ level) q k below e = which (bytes_eq pair.0 q) (found_in_level count level q k below.1) e
  where
    which : (b : Bool) → (lookup (λ prefix. bytes_eq prefix q) level ≡ Some k → k < count) →
        cond b (Some pair.1) (lookup (λ prefix. bytes_eq prefix q) level) ≡ Some k → k < count
    which true later e = let same : pair.1 ≡ k = cc in omega (arith, below.0)
    which false later e = later e

pub found_below : (count : ℕ) (levels : List numbered.Level) (q : List ℕ) (k : ℕ) → AreBelow count levels → numbered.lookup_of q levels ≡ Some k → k < count
found_below count [] q k below e = absurd (let clash : None ≡ Some k = e in cc)
found_below count (level ∷ levels) q k below e =
    which (lookup (λ prefix. bytes_eq prefix q) level) (found_in_level count level q k below.0) (found_below count levels q k below.1) e
  where
    which : (o : Option ℕ) → (o ≡ Some k → k < count) → (numbered.lookup_of q levels ≡ Some k → k < count) →
        option_or o (numbered.lookup_of q levels) ≡ Some k → k < count
    which None first later e = later e
    which (Some j) first later e = first e

-- numbers that are within are below the count
within_below : (count : ℕ) (levels : List numbered.Level) (starts : List ℕ) → AreWithin count levels starts → AreBelow count levels
within_below count [] [] h = tt
within_below count [] (start ∷ starts) h = tt
within_below count (level ∷ outer) [] h = absurd h
within_below count (level ∷ outer) (start ∷ starts) h = (h.1, still_below start count outer h.0 (within_below start outer starts h.2))

pub are_below : (tree : Nodes) (places : List NameAt) (levels : List numbered.Level) (starts : List ℕ) → IsKept tree places levels starts →
    AreBelow (length places) levels
are_below tree places levels starts kept = within_below (length places) levels starts kept.within

within_more : (count more : ℕ) (levels : List numbered.Level) (starts : List ℕ) → count ≤ more → AreWithin count levels starts → AreWithin more levels starts
within_more count more [] [] h all = tt
within_more count more [] (start ∷ starts) h all = absurd all
within_more count more (level ∷ outer) [] h all = absurd all
within_more count more (level ∷ outer) (start ∷ starts) h all = (omega (arith, all.0), more_in_level count more level h all.1, all.2)

within_declared : (count : ℕ) (levels : List numbered.Level) (starts : List ℕ) (prefix : List ℕ) (k : ℕ) → AreWithin count levels starts → k < count →
    AreWithin count (numbered.declared_in prefix k levels) starts
within_declared count [] starts prefix k all h = all
within_declared count (level ∷ outer) [] prefix k all h = absurd all
within_declared count (level ∷ outer) (start ∷ starts) prefix k all h = (all.0, (h, all.1), all.2)

-- a prefix was rendered, or there was no memory
within_after : {A E : Type 0} (r : Result A E) (count : ℕ) (levels after : List numbered.Level) (starts : List ℕ) (prefix : List ℕ) (k : ℕ) →
    OnOk r (after ≡ numbered.declared_in prefix k levels) → OnErr r (after ≡ levels) → AreWithin count levels starts → k < count →
    AreWithin count after starts
within_after (Ok a) count levels after starts prefix k is same all h =
    subst (λ ls. AreWithin count ls starts) (sym is) (within_declared count levels starts prefix k all h)
within_after (Err e) count levels after starts prefix k is same all h = subst (λ ls. AreWithin count ls starts) (sym same) all

pub still_kept : {A E : Type 0} (r : Result A E) (tree : Nodes) (places new : List NameAt) (place : NameAt) (levels after : List numbered.Level)
    (starts : List ℕ) (prefix : List ℕ) (k : ℕ) → OnOk r (after ≡ numbered.declared_in prefix k levels) → OnErr r (after ≡ levels) →
    IsKept tree places levels starts → IsNameAt tree place → new ≡ places ++ place ∷ [] → k ≡ length places → IsKept tree new after starts
still_kept r tree places new place levels after starts prefix k is same old there more last =
    let count : length new ≡ suc (length places) = omega (arith, ap length more, length-append places (place ∷ [])) in
    record {
      within =
          within_after r (length new) levels after starts prefix k is same (within_more (length places) (length new) levels starts (omega arith) old.within)
          (omega arith);
      there = subst (AllByRecursion (IsNameAt tree)) (sym more) (all_push (IsNameAt tree) places place old.there there);
    }

-- an element ends, with its places
split_levels : (count : ℕ) (levels : List numbered.Level) (start : ℕ) (starts : List ℕ) → AreWithin count levels (start ∷ starts) →
    (start ≤ count) × AreWithin start (drop 1 levels) starts
split_levels count [] start starts all = absurd all
split_levels count (level ∷ outer) start starts all = (all.0, all.2)

module _ (tree : Nodes) (places fewer : List NameAt) (levels outer : List numbered.Level) (starts rest : List ℕ) (start : ℕ)
    (kept : IsKept tree places levels (reverse starts)) (popped : outer ≡ drop 1 levels) (last : starts ≡ rest ++ start ∷ []) (cut : fewer ≡ take start places) where
  parts : (start ≤ length places) × AreWithin start (drop 1 levels) (reverse rest)
  parts =
      split_levels (length places) levels start (reverse rest)
      (subst (AreWithin (length places) levels) (ap reverse last ∙ reverse-append rest (start ∷ [])) kept.within)

  pub view_left : (v : RenderedView) → rendered_view tree places levels ≡ v → rendered_view tree fewer outer ≡ record { tree = v.tree; levels = drop 1 v.levels }
  view_left v view =
      let front : Table = spaces_of tree (take start places) in
      let back : Table = spaces_of tree (drop start places) in
      let whole : spaces_of tree places ≡ front ++ back =
      ap (map (space_at tree)) (sym (take-append-drop start places)) ∙ map-append (space_at tree) (take start places) (drop start places) in
      let count : length front ≡ start = length-map (take start places) (space_at tree) ∙ length-take-le start places parts.0 in
      (λ i. record { tree = tree; levels = levels_named (spaces_of tree (cut i)) (popped i) })
      ∙ (λ i. record {
        tree = tree;
        levels = sym (same_levels front back (drop 1 levels)
            (subst (λ n. AreBelow n (drop 1 levels)) (sym count) (within_below start (drop 1 levels) (reverse rest) parts.1))) i;
      })
      ∙ (λ i. record { tree = tree; levels = levels_named (sym whole i) (drop 1 levels) })
      ∙ (λ i. record { tree = tree; levels = sym (drop-map (map (binding_of_pair (spaces_of tree places))) 1 levels) i })
      ∙ ap (λ (w : RenderedView). record { tree = w.tree; levels = drop 1 w.levels }) view

pub level_in_view : (tree : Nodes) (places : List NameAt) (levels : List numbered.Level) (v : RenderedView) → rendered_view tree places levels ≡ v →
    0 < length v.levels → 0 < length levels
level_in_view tree places levels v view h =
    omega (arith, ap (λ (w : RenderedView). length w.levels) view, length-map levels (map (binding_of_pair (spaces_of tree places))))

pub one_rendered : (tree : Nodes) (places new : List NameAt) (place : NameAt) (levels after : List numbered.Level) (v : RenderedView) (prefix : List ℕ)
    (k : ℕ) → rendered_view tree places levels ≡ v → AreBelow (length places) levels → new ≡ places ++ place ∷ [] → k ≡ length places →
    after ≡ numbered.declared_in prefix k levels →
    rendered_view tree new after ≡ record { tree = v.tree; levels = with_binding (binding_placed v.tree (prefix, place)) v.levels }
one_rendered tree places new place levels after v prefix k view old more last is =
    let table : Table = spaces_of tree places in
    let own : List ℕ = space_at tree place in
    let grown : spaces_of tree new ≡ table ++ own ∷ [] = ap (map (space_at tree)) more ∙ map-append (space_at tree) places (place ∷ []) in
    let count : length table ≡ length places = length-map places (space_at tree) in
    let word : get_or (table ++ own ∷ []) k [] ≡ own = get_or_push table own [] k (count ∙ sym last) in
    let now : rendered_view tree new after ≡ record { tree = tree; levels = with_binding (record { prefix = prefix; namespace = own }) (levels_named table levels) } =
    (λ i. record { tree = tree; levels = levels_named (grown i) (is i) })
    ∙ (λ i. record { tree = tree; levels = named_declared (table ++ own ∷ []) levels prefix k i })
    ∙ (λ i. record {
      tree = tree;
      levels = with_binding (record { prefix = prefix; namespace = word i })
          (same_levels table (own ∷ []) levels (still_below (length places) (length table) levels (omega arith) old) i);
    }) in
    now ∙ ap (λ (w : RenderedView). record { tree = w.tree; levels = with_binding (binding_placed w.tree (prefix, place)) w.levels }) view

-- whether a prefix is to be declared anew
decides : (same : Bool) (x y : List ℕ) → (IsTrue same → x ≡ y) → (x ≡ y → IsTrue same) → same ≡ bytes_eq x y
decides true x y to from = sym ((bytes_eq-Decides x y).1 (to refl))
decides false x y to from =
    sym (false_from_ne_true (bytes_eq x y) (λ e. (let clash : false ≡ true = from ((bytes_eq-Decides x y).0 e) in cc)))

both_some : (a b : Option (List ℕ)) → IsSome a → IsSome b → unwrap_or a [] ≡ unwrap_or b [] → a ≡ b
both_some None b h k e = absurd (let clash : false ≡ true = h in cc)
both_some (Some x) None h k e = absurd (let clash : false ≡ true = k in cc)
both_some (Some x) (Some y) h k e = ap Some e

anew_by : (scope rendered : Scope) (prefix : List ℕ) (same : Bool) → bytes_eq prefix (codes "xml") ≡ false →
    same ≡ bytes_eq (namespace_of scope prefix) (namespace_of rendered prefix) → not same ≡ is_rendered_anew scope rendered prefix
anew_by scope rendered prefix same other e =
    ap not e ∙ ap (λ b. not b && not (bytes_eq (namespace_of scope prefix) (namespace_of rendered prefix))) (sym other)

module _ (tree : Nodes) (places : List NameAt) (levels : List numbered.Level) (v : RenderedView) (prefix : List ℕ) (place : NameAt)
    (view : rendered_view tree places levels ≡ v) (below : AreBelow (length places) levels) (all_there : AllByRecursion (IsNameAt tree) places) (other : bytes_eq prefix (codes "xml") ≡ false)
    (scope : Scope) (speaks : space_at v.tree place ≡ namespace_of scope prefix) where
  speaks_here : space_at tree place ≡ namespace_of scope prefix
  speaks_here = ap (λ (w : RenderedView). space_at w.tree place) view ∙ speaks

  rendered_here : (o : Option ℕ) → o ≡ numbered.lookup_of prefix levels → name_of_number (spaces_of tree places) o ≡ namespace_of (in_force v.levels) prefix
  rendered_here o e =
      ap (name_of_number (spaces_of tree places)) e ∙ sym (namespace_found (spaces_of tree places) levels prefix)
      ∙ ap (λ (w : RenderedView). namespace_of (in_force w.levels) prefix) view

  pub anew_some : (number : ℕ) (at : NameAt) (same : Bool) → Some number ≡ numbered.lookup_of prefix levels → at ≡ get_or places number at →
      IsNameAt tree place → IsTrue same ↔ (namespace_at tree at ≡ namespace_at tree place) →
      not same ≡ is_rendered_anew scope (in_force v.levels) prefix
  anew_some number at same found is there tells =
      let low : number < length places = found_below (length places) levels prefix number below (sym found) in
      let at_there : IsNameAt tree at = subst (IsNameAt tree) (sym is) (all_at (IsNameAt tree) places number at all_there low) in
      let space : space_at tree at ≡ namespace_of (in_force v.levels) prefix =
      ap (space_at tree) is ∙ sym (get_or-map (space_at tree) places number at [] low) ∙ rendered_here (Some number) found in
      anew_by scope (in_force v.levels) prefix same other
      (decides same (namespace_of scope prefix) (namespace_of (in_force v.levels) prefix)
      (λ t. sym speaks_here ∙ ap (λ o. unwrap_or o []) (sym (tells.0 t)) ∙ space)
      (λ e. tells.1 (both_some (namespace_at tree at) (namespace_at tree place) (named_there tree at at_there) (named_there tree place there)
      (space ∙ sym e ∙ sym speaks_here))))

  pub anew_none : (found : List ℕ) (empty : Bool) → None ≡ numbered.lookup_of prefix levels → namespace_at tree place ≡ Some found →
      empty ≡ eqb (length found) 0 → not empty ≡ is_rendered_anew scope (in_force v.levels) prefix
  anew_none found empty missed is tested =
      let own : found ≡ namespace_of scope prefix = ap (λ o. unwrap_or o []) (sym is) ∙ speaks_here in
      let none : [] ≡ namespace_of (in_force v.levels) prefix = rendered_here None missed in
      anew_by scope (in_force v.levels) prefix empty other (tested ∙ by_length found ∙ (λ i. bytes_eq (own i) (none i)))
    where
      by_length : (x : List ℕ) → eqb (length x) 0 ≡ bytes_eq x []
      by_length [] = refl
      by_length (b ∷ x) = empty_by_length (b ∷ x)
