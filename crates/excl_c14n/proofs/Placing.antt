-- Where a name goes among names in order.
use Rattle.std.proofs.Common.{◌≡◌, ℕ, zero, suc, ◌+◌, ◌-◌, ◌<◌, ◌≤◌, Bool, filter, true, false, not, List, [], ◌∷◌, length, map, get_or, IsTrue, refl, sym, ap, ◌∙◌, subst, arith}
use Rattle.std.specs.List.{All, AllByRecursion, insert, range_with_len}
use Rattle.std.specs.Cmp.{IsTotalOrder}
use Rattle.std.specs.declared.cmp.Ordering.{Ordering}
use Rattle.std.specs.declared.cmp.Ordering.TheVariants.{Less, Equal, Greater}
use Rattle.std.specs.Ordering.{is_le, is_gt}
use Rattle.std.proofs.lemmas.Cmp.{nat_list_cmp_total, on_total, then_total, upto}
use Rattle.std.proofs.lemmas.List.{get_or-map}
use Rattle.xml_spec.specs.Tree.{Nodes}
use Rattle.xml_spec.specs.Names.{Scope, ExpandedName, attribute_name}
use Rattle.xml_spec.specs.Canonical.{expanded_order, inserted}
use Rattle.xml_spec.proofs.Sorting.{sorted_is_non_descending}
use Rattle.xml_spec.specs.Laws.{IsNonDescending}
use Rattle.saml_tree.specs.NodeNames.{IsNameAt}
use Rattle.excl_c14n.specs.Shown.{expanded_of}
use Rattle.excl_c14n.specs.declared.order.Expanded.{Expanded}
use Rattle.excl_c14n.specs.NodeByNode.{attribute_name_of, number_order, is_proper_number}
use Rattle.excl_c14n.proofs.Ordered.{IsOrder}
use Rattle.excl_c14n.proofs.Sorting.{map-sorted, insert_is_inserted}

expanded_order_is_total : IsTotalOrder expanded_order
expanded_order_is_total =
    then_total (on_total (λ (a : ExpandedName). a.namespace) nat_list_cmp_total) (on_total (λ (a : ExpandedName). a.local) nat_list_cmp_total)

le_or_gt : (o : Ordering) (b : Bool) → is_le o ≡ b → is_gt o ≡ not b
le_or_gt Less true h = refl
le_or_gt Less false h = sym h
le_or_gt Equal true h = refl
le_or_gt Equal false h = sym h
le_or_gt Greater true h = sym h
le_or_gt Greater false h = refl

-- where x is above z, and y is not, x is above y
below_falls : {Y : Type 0} (R : Y → Y → Ordering) → IsTotalOrder R → (x y z : Y) → is_le (R y z) ≡ true → is_le (R x z) ≡ false →
    is_le (R x y) ≡ false
below_falls R o x y z up h = which (is_le (R x y)) refl
  where
    which : (b : Bool) → is_le (R x y) ≡ b → b ≡ false
    which true e =
        let clash : true ≡ false =
        sym (le_or_gt (R x z) false h) ∙ upto o x y z (le_or_gt (R x y) true e) (le_or_gt (R y z) true up) in
        clash
    which false e = refl

-- an element of a list is the same with any default
pub at_any : {X : Type 0} (P : X → Type 0) (xs : List X) (k : ℕ) (d e : X) → k < length xs → P (get_or xs k d) → P (get_or xs k e)
at_any P [] k d e h is = absurd (omega arith)
at_any P (x ∷ xs) zero d e h is = is
at_any P (x ∷ xs) (suc k) d e h is = at_any P xs k d e (omega arith) is

each_mapped : {X Y : Type 0} (f : X → Y) (P : Y → Type 0) (xs : List X) (k : ℕ) (d : X) → AllByRecursion P (map f xs) → k < length xs →
    P (f (get_or xs k d))
each_mapped f P [] k d each h = absurd (omega arith)
each_mapped f P (x ∷ xs) zero d each h = each.0
each_mapped f P (x ∷ xs) (suc k) d each h = each_mapped f P xs k d each.1 (omega arith)

-- what is above an element of a list in order is above those before it
falls : {X Y : Type 0} (f : X → Y) (R : Y → Y → Ordering) → IsTotalOrder R → (y : Y) (xs : List X) (m k : ℕ) (d : X) →
    IsNonDescending R (map f xs) → m < length xs → k ≤ m → is_le (R y (f (get_or xs m d))) ≡ false → is_le (R y (f (get_or xs k d))) ≡ false
falls f R o y [] m k d up h le above = absurd (omega arith)
falls f R o y (x ∷ xs) zero zero d up h le above = above
falls f R o y (x ∷ xs) zero (suc k) d up h le above = absurd (omega arith)
falls f R o y (x ∷ xs) (suc m) zero d up h le above =
    below_falls R o y (f x) (f (get_or xs m d)) (each_mapped f (λ z. IsTrue (is_le (R (f x) z))) xs m d up.0 (omega arith)) above
falls f R o y (x ∷ xs) (suc m) (suc k) d up h le above = falls f R o y xs m k d up.1 (omega arith) (omega arith) above

pub all_above : (tree : Nodes) (name : Expanded) (names : List Expanded) (m : ℕ) → IsNonDescending expanded_order (map (expanded_of tree) names) → m < length names →
    ((d : Expanded) → is_le (expanded_order (expanded_of tree name) (expanded_of tree (get_or names m d))) ≡ false) →
    (k : ℕ) (d : Expanded) → k ≤ m → is_le (expanded_order (expanded_of tree name) (expanded_of tree (get_or names k d))) ≡ false
all_above tree name names m up h above k d le = falls (expanded_of tree) expanded_order expanded_order_is_total (expanded_of tree name) names m k d up h le (above d)

-- the expanded name of attribute i of node n
abbrev name_at : Scope → Nodes → ℕ → ℕ → ExpandedName
name_at scope tree n i = attribute_name scope (attribute_name_of tree n i)

-- the names of attributes, kept beside their numbers, each with a place of the document for its namespace
pub record AreNamesOf (scope : Scope) (tree : Nodes) (n : ℕ) (order : List ℕ) (names : List Expanded) : Type 0 where
  pub same : map (expanded_of tree) names ≡ map (name_at scope tree n) order
  pub there : AllByRecursion (λ (kept : Expanded). IsNameAt tree kept.namespace) names
  pub long : length names ≡ length order

pub no_names : (scope : Scope) (tree : Nodes) (n : ℕ) (order : List ℕ) (names : List Expanded) → order ≡ [] → names ≡ [] →
    AreNamesOf scope tree n order names
no_names scope tree n order names none no_name =
    subst (λ xs. AreNamesOf scope tree n xs names) (sym none)
    (subst (AreNamesOf scope tree n []) (sym no_name) (record { same = refl; there = tt; long = refl }))

map_insert : {X Y : Type 0} (f : X → Y) (xs : List X) (p : ℕ) (x : X) → p ≤ length xs → map f (insert xs p x) ≡ insert (map f xs) p (f x)
map_insert f [] zero x h = refl
map_insert f [] (suc p) x h = absurd (omega arith)
map_insert f (y ∷ ys) zero x h = refl
map_insert f (y ∷ ys) (suc p) x h = ap (λ zs. f y ∷ zs) (map_insert f ys p x (omega arith))

each_insert : {X : Type 0} (P : X → Type 0) (xs : List X) (p : ℕ) (x : X) → p ≤ length xs → P x → AllByRecursion P xs →
    AllByRecursion P (insert xs p x)
each_insert P [] zero x h here each = (here, tt)
each_insert P [] (suc p) x h here each = absurd (omega arith)
each_insert P (y ∷ ys) zero x h here each = (here, each)
each_insert P (y ∷ ys) (suc p) x h here each = (each.0, each_insert P ys p x (omega arith) here each.1)

each_at : {X : Type 0} (P : X → Type 0) (xs : List X) (k : ℕ) (d : X) → AllByRecursion P xs → k < length xs → P (get_or xs k d)
each_at P [] k d each h = absurd (omega arith)
each_at P (x ∷ xs) zero d each h = each.0
each_at P (x ∷ xs) (suc k) d each h = each_at P xs k d each.1 (omega arith)

length_insert : {X : Type 0} (xs : List X) (p : ℕ) (x : X) → p ≤ length xs → length (insert xs p x) ≡ length xs + 1
length_insert [] zero x h = refl
length_insert [] (suc p) x h = absurd (omega arith)
length_insert (y ∷ ys) zero x h = omega arith
length_insert (y ∷ ys) (suc p) x h = let later : length (insert ys p x) ≡ length ys + 1 = length_insert ys p x (omega arith) in omega arith

-- one more name and its number, put at one place
pub one_more_named : (scope : Scope) (tree : Nodes) (n i place : ℕ) (name : Expanded) (order new : List ℕ) (names put seen : List Expanded) →
    AreNamesOf scope tree n order names → seen ≡ names → place ≤ length seen →
    expanded_of tree name ≡ name_at scope tree n i → IsNameAt tree name.namespace →
    new ≡ insert order place i → put ≡ insert names place name → AreNamesOf scope tree n new put
one_more_named scope tree n i place name order new names put seen are seen_is within is there new_is put_is =
    let seen_long : length seen ≡ length names = ap length seen_is in
    let h : place ≤ length names = omega arith in
    let long : length names ≡ length order = are.long in
    let h' : place ≤ length order = omega arith in
    let more : length new ≡ length order + 1 = ap length new_is ∙ length_insert order place i h' in
    let more_names : length put ≡ length names + 1 = ap length put_is ∙ length_insert names place name h in
    record {
      same =
          ap (map (expanded_of tree)) put_is ∙ map_insert (expanded_of tree) names place name h
          ∙ (λ j. insert (are.same j) place (is j))
          ∙ sym (map_insert (name_at scope tree n) order place i h') ∙ ap (map (name_at scope tree n)) (sym new_is);
      there =
          subst (AllByRecursion (λ (kept : Expanded). IsNameAt tree kept.namespace)) (sym put_is)
          (each_insert (λ (kept : Expanded). IsNameAt tree kept.namespace) names place name h there are.there);
      long = omega arith;
    }

pub names_in_order : (scope : Scope) (tree : Nodes) (n count from : ℕ) (order : List ℕ) (names seen : List Expanded) →
    AreNamesOf scope tree n order names → IsOrder scope tree n count from order → seen ≡ names →
    IsNonDescending expanded_order (map (expanded_of tree) seen)
names_in_order scope tree n count from order names seen are is seen_is =
    let numbers = filter (is_proper_number tree n) (range_with_len from (count - from)) in
    subst (IsNonDescending expanded_order)
    (sym (ap (map (expanded_of tree)) seen_is ∙ are.same ∙ ap (map (name_at scope tree n)) is
    ∙ map-sorted (name_at scope tree n) (number_order scope tree n) expanded_order (λ i j. refl) numbers))
    (sorted_is_non_descending expanded_order expanded_order_is_total (map (name_at scope tree n) numbers))

-- the names have places of the document
pub all_there : (scope : Scope) (tree : Nodes) (n : ℕ) (order : List ℕ) (names seen : List Expanded) → AreNamesOf scope tree n order names → seen ≡ names →
    All (λ (kept : Expanded). IsNameAt tree kept.namespace) seen
all_there scope tree n order names seen are seen_is k d h =
    each_at (λ (kept : Expanded). IsNameAt tree kept.namespace) seen k d
    (subst (AllByRecursion (λ (kept : Expanded). IsNameAt tree kept.namespace)) (sym seen_is) are.there) h

-- the number of a name goes where the name goes
pub put_where_named : (scope : Scope) (tree : Nodes) (n i place : ℕ) (name : Expanded) (order new : List ℕ) (names seen : List Expanded) →
    AreNamesOf scope tree n order names → seen ≡ names → expanded_of tree name ≡ name_at scope tree n i → place ≤ length seen →
    ((k : ℕ) (d : Expanded) → k < place → is_le (expanded_order (expanded_of tree name) (expanded_of tree (get_or seen k d))) ≡ false) →
    ((d : Expanded) → place < length seen → is_le (expanded_order (expanded_of tree name) (expanded_of tree (get_or seen place d))) ≡ true) →
    new ≡ insert order place i → new ≡ inserted (number_order scope tree n) i order
put_where_named scope tree n i place name order new names seen are seen_is is within above at put =
    let long : length names ≡ length order = are.long in
    let seen_long : length seen ≡ length names = ap length seen_is in
    let named : (k : ℕ) → k < length order → name_at scope tree n (get_or order k 0) ≡ expanded_of tree (get_or seen k name) =
    λ k h. sym (get_or-map (name_at scope tree n) order k 0 (expanded_of tree name) h)
    ∙ ap (λ zs. get_or zs k (expanded_of tree name)) (sym are.same ∙ ap (map (expanded_of tree)) (sym seen_is))
    ∙ get_or-map (expanded_of tree) seen k name (expanded_of tree name) (omega arith) in
    put ∙ insert_is_inserted (number_order scope tree n) i order place 0 (omega arith)
    (λ k h. (λ j. is_le (expanded_order (sym is j) (named k (omega arith) j))) ∙ above k name h)
    (λ h. (λ j. is_le (expanded_order (sym is j) (named place h j))) ∙ at name (omega arith))
