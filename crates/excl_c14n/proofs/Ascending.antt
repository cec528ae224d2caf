-- Ascending lists of prefixes: one more is put in its place, and two that have the same elements are one.
use Rattle.std.proofs.Common.{◌≡◌, ℕ, zero, suc, ◌<◌, ◌≤◌, Bool, true, false, cond, ◌||◌, List, [], ◌∷◌, length, get_or, IsTrue, Bor, refl, sym, ap, ◌∙◌, subst, inl, inr, arith}
use Rattle.std.specs.List.{AllByRecursion, insert}
use Rattle.std.specs.List.Sorted.{IsNonDecreasingBy, IsPartitionPoint}
use Rattle.std.specs.declared.cmp.Ordering.{Ordering}
use Rattle.std.specs.declared.cmp.Ordering.TheVariants.{Less, Equal, Greater}
use Rattle.std.specs.Ordering.{is_lt, is_le, is_eq, ordering_index, ordering_reverse}
use Rattle.std.specs.Str.{bytes_eq}
use Rattle.std.proofs.lemmas.Bool.{cases_lt, or_parts}
use Rattle.std.proofs.lemmas.Cmp.{nat_list_cmp_total, tied_itself, alike_right}
use Rattle.std.proofs.lemmas.List.{get_or-map, length-map}
use Rattle.std.proofs.lemmas.Map.Text.{is_eq-slice_cmp}
use Rattle.std.proofs.lemmas.Slice.Eq.{bytes_eq-Decides}
use Rattle.xml_spec.specs.Canonical.{byte_order, inserted}
use Rattle.xml_spec.specs.Laws.{IsAscending}
use Rattle.xml_spec.proofs.Sorting.{each_weaker, each_inserted, below_other}
use Rattle.excl_c14n.specs.Levels.{is_among}
use Rattle.excl_c14n.specs.Texts.{texts}
use Rattle.excl_c14n.proofs.Sorting.{insert_is_inserted}

abbrev Below : List ℕ → List ℕ → Type 0
Below p q = IsTrue (is_lt (byte_order p q))

is_below : (o : Ordering) → is_lt o ≡ true → o ≡ Less
is_below Less h = refl
is_below Equal h = absurd (let clash : false ≡ true = h in cc)
is_below Greater h = absurd (let clash : false ≡ true = h in cc)

strictly : (o : Ordering) → is_le o ≡ true → is_eq o ≡ false → o ≡ Less
strictly Less h k = refl
strictly Equal h k = absurd (let clash : true ≡ false = k in cc)
strictly Greater h k = absurd (let clash : false ≡ true = h in cc)

below_chain : (p q r : List ℕ) → byte_order p q ≡ Less → Below q r → Below p r
below_chain p q r h k = ap is_lt (nat_list_cmp_total.trans p q r h (is_below (byte_order q r) k))

insert_keeps_ascending : (p : List ℕ) (ps : List (List ℕ)) → IsAscending byte_order ps → is_among p ps ≡ false →
    IsAscending byte_order (inserted byte_order p ps)
insert_keeps_ascending p [] up new = (tt, tt)
insert_keeps_ascending p (q ∷ qs) up new =
    let apart = or_parts (bytes_eq p q) (is_among p qs) new in
    which (is_le (byte_order p q)) refl apart.0 (insert_keeps_ascending p qs up.1 apart.1)
  where
    which : (b : Bool) → is_le (byte_order p q) ≡ b → bytes_eq p q ≡ false → IsAscending byte_order (inserted byte_order p qs) →
        IsAscending byte_order (cond b (p ∷ q ∷ qs) (q ∷ inserted byte_order p qs))
    which true h differs later =
        let below : byte_order p q ≡ Less = strictly (byte_order p q) h (is_eq-slice_cmp p q ∙ differs) in
        ((ap is_lt below, each_weaker (Below q) (Below p) (λ r k. below_chain p q r below k) qs up.0), up)
    which false h differs later =
        (each_inserted byte_order (Below q) p qs (ap is_lt (below_other byte_order nat_list_cmp_total p q h)) up.0, later)

or_last : (a b c : Bool) → (a || (b || c)) ≡ (b || (c || a))
or_last true true c = refl
or_last true false true = refl
or_last true false false = refl
or_last false true c = refl
or_last false false true = refl
or_last false false false = refl

or_turned : (a b : Bool) → (a || b) ≡ (b || a)
or_turned true true = refl
or_turned true false = refl
or_turned false true = refl
or_turned false false = refl

or_kept : (a b m n : Bool) → m ≡ (n || b) → (a || m) ≡ ((a || n) || b)
or_kept true b m n e = refl
or_kept false b m n e = e

among_inserted : (q p : List ℕ) (ps : List (List ℕ)) → is_among q (inserted byte_order p ps) ≡ (is_among q ps || bytes_eq q p)
among_inserted q p [] = or_turned (bytes_eq q p) false
among_inserted q p (r ∷ ps) = which (is_le (byte_order p r)) (among_inserted q p ps)
  where
    which : (b : Bool) → is_among q (inserted byte_order p ps) ≡ (is_among q ps || bytes_eq q p) →
        is_among q (cond b (p ∷ r ∷ ps) (r ∷ inserted byte_order p ps)) ≡ ((bytes_eq q r || is_among q ps) || bytes_eq q p)
    which true later = or_turned (bytes_eq q p) (bytes_eq q r || is_among q ps)
    which false later = or_kept (bytes_eq q r) (bytes_eq q p) (is_among q (inserted byte_order p ps)) (is_among q ps) later

each_at : (P : List ℕ → Type 0) (ps : List (List ℕ)) (k : ℕ) (d : List ℕ) → AllByRecursion P ps → k < length ps → P (get_or ps k d)
each_at P [] k d each h = absurd (omega arith)
each_at P (p ∷ ps) zero d each h = each.0
each_at P (p ∷ ps) (suc k) d each h = each_at P ps k d each.1 (omega arith)

ascends_at : (ps : List (List ℕ)) (i j : ℕ) (d : List ℕ) → IsAscending byte_order ps → i < j → j < length ps →
    byte_order (get_or ps i d) (get_or ps j d) ≡ Less
ascends_at [] i j d up less h = absurd (omega arith)
ascends_at (p ∷ ps) i zero d up less h = absurd (omega arith)
ascends_at (p ∷ ps) zero (suc j) d up less h = is_below (byte_order p (get_or ps j d)) (each_at (Below p) ps j d up.0 (omega arith))
ascends_at (p ∷ ps) (suc i) (suc j) d up less h = ascends_at ps i j d up.1 (omega arith) (omega arith)

-- where y is below z, x as seen from y is not above x as seen from z
index_rises : (y z x : List ℕ) → byte_order y z ≡ Less → ordering_index (byte_order y x) ≤ ordering_index (byte_order z x)
index_rises y z x h = which (byte_order z x) refl
  where
    at_most_two : (o : Ordering) → ordering_index o ≤ 2
    at_most_two Less = omega arith
    at_most_two Equal = omega arith
    at_most_two Greater = omega arith

    which : (o : Ordering) → byte_order z x ≡ o → ordering_index (byte_order y x) ≤ ordering_index o
    which Less e = omega (arith, ap ordering_index (nat_list_cmp_total.trans y z x h e))
    which Equal e = omega (arith, ap ordering_index (sym (alike_right nat_list_cmp_total z x y e) ∙ h))
    which Greater e = at_most_two (byte_order y x)

at_text : (items : List (Bor (List ℕ))) (k : ℕ) (d : Bor (List ℕ)) → k < length items → get_or (texts items) k d.now ≡ (get_or items k d).now
at_text items k d h = get_or-map (λ (text : Bor (List ℕ)). text.now) items k d d.now h

-- so a search by halves finds its place
pub search_rises : (items : List (Bor (List ℕ))) (x : List ℕ) → IsAscending byte_order (texts items) →
    IsNonDecreasingBy (λ (y : Bor (List ℕ)). ordering_index (byte_order y.now x)) items
search_rises items x up i j d le h = elim (cases_lt i j) [
  | inl less ↦
      let in_texts : j < length (texts items) = omega (arith, length-map items (λ (text : Bor (List ℕ)). text.now)) in
      let rise =
      index_rises (get_or (texts items) i d.now) (get_or (texts items) j d.now) x (ascends_at (texts items) i j d.now up less in_texts) in
      let one = ap (λ y. ordering_index (byte_order y x)) (at_text items i d (omega arith)) in
      let other = ap (λ y. ordering_index (byte_order y x)) (at_text items j d h) in
      omega (arith, rise, one, other)
  | inr past ↦
      let same : i ≡ j = omega arith in
      omega (arith, ap (λ k. ordering_index (byte_order (get_or items k d).now x)) same)
]

texts-insert : (items : List (Bor (List ℕ))) (place : ℕ) (x : Bor (List ℕ)) → texts (insert items place x) ≡ insert (texts items) place x.now
texts-insert items zero x = refl
texts-insert [] (suc place) x = refl
texts-insert (y ∷ items) (suc place) x = ap (λ ys. y.now ∷ ys) (texts-insert items place x)

never_among : (p : List ℕ) (ps : List (List ℕ)) → ((k : ℕ) → k < length ps → byte_order (get_or ps k p) p ≡ Equal → ⊥) → is_among p ps ≡ false
never_among p [] never = refl
never_among p (q ∷ ps) never =
    which (bytes_eq p q) refl (never_among p ps (λ k h e. never (suc k) (omega arith) e))
  where
    which : (b : Bool) → bytes_eq p q ≡ b → is_among p ps ≡ false → (b || is_among p ps) ≡ false
    which true same later =
        absurd (never 0 (omega arith) (ap (λ r. byte_order r p) (sym ((bytes_eq-Decides p q).0 same)) ∙ tied_itself nat_list_cmp_total p))
    which false same later = later

-- what a search found where the prefix is not
pub record IsPlace (items : List (Bor (List ℕ))) (place : ℕ) (x : Bor (List ℕ)) : Type 0 where
  pub fits : place ≤ length items
  pub before : (k : ℕ) → k < place → byte_order (get_or items k x).now x.now ≡ Less
  pub behind : (k : ℕ) → place ≤ k → k < length items → byte_order (get_or items k x).now x.now ≡ Greater

module _ (items : List (Bor (List ℕ))) (place : ℕ) (x : Bor (List ℕ)) (is : IsPlace items place x) where
  as_many : length (texts items) ≡ length items
  as_many = length-map items (λ (text : Bor (List ℕ)). text.now)

  put_in_place : texts (insert items place x) ≡ inserted byte_order x.now (texts items)
  put_in_place =
      texts-insert items place x
      ∙ insert_is_inserted byte_order x.now (texts items) place x.now (omega (arith, is.fits, as_many))
      (λ k h. ap (λ y. is_le (byte_order x.now y)) (at_text items k x (omega (arith, is.fits)))
      ∙ ap is_le (nat_list_cmp_total.antisymm x.now (get_or items k x).now ∙ ap ordering_reverse (is.before k h)))
      (λ h. ap (λ y. is_le (byte_order x.now y)) (at_text items place x (omega (arith, as_many)))
      ∙ ap is_le (nat_list_cmp_total.antisymm x.now (get_or items place x).now ∙ ap ordering_reverse (is.behind place (omega arith) (omega (arith, as_many)))))

  not_equal : (k : ℕ) → k < length items → byte_order (get_or items k x).now x.now ≡ Equal → ⊥
  not_equal k h e = elim (cases_lt k place) [
    | inl less ↦ let clash : Less ≡ Equal = sym (is.before k less) ∙ e in cc
    | inr past ↦ let clash : Greater ≡ Equal = sym (is.behind k past h) ∙ e in cc
  ]

  pub put_ascends : (new : List (Bor (List ℕ))) → new ≡ insert items place x → IsAscending byte_order (texts items) → IsAscending byte_order (texts new)
  put_ascends new put up =
      subst (IsAscending byte_order) (sym (ap texts put ∙ put_in_place))
      (insert_keeps_ascending x.now (texts items) up
      (never_among x.now (texts items)
      (λ k h e. not_equal k (omega (arith, as_many)) (ap (λ y. byte_order y x.now) (sym (at_text items k x (omega (arith, as_many)))) ∙ e))))

  pub put_absent : is_among x.now (texts items) ≡ false
  put_absent =
      never_among x.now (texts items)
      (λ k h e. not_equal k (omega (arith, as_many)) (ap (λ y. byte_order y x.now) (sym (at_text items k x (omega (arith, as_many)))) ∙ e))

  pub put_among : (new : List (Bor (List ℕ))) → new ≡ insert items place x → (q : List ℕ) →
      is_among q (texts new) ≡ (is_among q (texts items) || bytes_eq q x.now)
  put_among new put q = ap (is_among q) (ap texts put ∙ put_in_place) ∙ among_inserted q x.now (texts items)

among_at : (q : List ℕ) (ps : List (List ℕ)) (k : ℕ) (d : List ℕ) → k < length ps → bytes_eq q (get_or ps k d) ≡ true → is_among q ps ≡ true
among_at q [] k d h same = absurd (omega arith)
among_at q (p ∷ ps) zero d h same = ap (λ b. b || is_among q ps) same
among_at q (p ∷ ps) (suc k) d h same = second (bytes_eq q p) (among_at q ps k d (omega arith) same)
  where
    second : (b : Bool) → is_among q ps ≡ true → (b || is_among q ps) ≡ true
    second true later = refl
    second false later = later

-- what a search found where the prefix is
pub found_among : (items : List (Bor (List ℕ))) (k : ℕ) (x : Bor (List ℕ)) → k < length items → byte_order (get_or items k x).now x.now ≡ Equal →
    (q : List ℕ) → is_among q (texts items) ≡ (is_among q (texts items) || bytes_eq q x.now)
found_among items k x h tied q = which (bytes_eq q x.now) refl
  where
    drop_false : (a : Bool) → a ≡ (a || false)
    drop_false true = refl
    drop_false false = refl

    all_true : (a : Bool) → a ≡ true → a ≡ (a || true)
    all_true true e = refl
    all_true false e = e

    which : (b : Bool) → bytes_eq q x.now ≡ b → is_among q (texts items) ≡ (is_among q (texts items) || b)
    which false e = drop_false (is_among q (texts items))
    which true e =
        let same : q ≡ x.now = (bytes_eq-Decides q x.now).0 e in
        let equal : bytes_eq (get_or items k x).now x.now ≡ true = sym (is_eq-slice_cmp (get_or items k x).now x.now) ∙ ap is_eq tied in
        let is : q ≡ get_or (texts items) k x.now = same ∙ sym ((bytes_eq-Decides (get_or items k x).now x.now).0 equal) ∙ sym (at_text items k x h) in
        all_true (is_among q (texts items))
        (among_at q (texts items) k x.now (omega (arith, length-map items (λ (text : Bor (List ℕ)). text.now))) ((bytes_eq-Decides q (get_or (texts items) k x.now)).1 is))

-- a prefix that is below all of a list is not in it
below_not_among : (p : List ℕ) (ps : List (List ℕ)) → AllByRecursion (Below p) ps → is_among p ps ≡ false
below_not_among p [] below = refl
below_not_among p (q ∷ ps) below = which (bytes_eq p q) refl (below_not_among p ps below.1)
  where
    which : (b : Bool) → bytes_eq p q ≡ b → is_among p ps ≡ false → (b || is_among p ps) ≡ false
    which true e later =
        absurd (let clash : Equal ≡ Less =
        sym (tied_itself nat_list_cmp_total p) ∙ ap (byte_order p) ((bytes_eq-Decides p q).0 e) ∙ is_below (byte_order p q) below.0 in cc)
    which false e later = later

below_among : (p q : List ℕ) (ps : List (List ℕ)) → AllByRecursion (Below p) ps → is_among q ps ≡ true → byte_order p q ≡ Less
below_among p q [] below among = absurd (let clash : false ≡ true = among in cc)
below_among p q (r ∷ ps) below among = which (bytes_eq q r) refl (below_among p q ps below.1) among
  where
    which : (b : Bool) → bytes_eq q r ≡ b → (is_among q ps ≡ true → byte_order p q ≡ Less) → (b || is_among q ps) ≡ true → byte_order p q ≡ Less
    which true e later among = ap (byte_order p) ((bytes_eq-Decides q r).0 e) ∙ is_below (byte_order p r) below.0
    which false e later among = later among

same_itself : (p : List ℕ) → bytes_eq p p ≡ true
same_itself p = (bytes_eq-Decides p p).1 refl

-- the first of one list is not below the first of the other
not_below : (a b : List ℕ) (bs : List (List ℕ)) → IsAscending byte_order (b ∷ bs) → is_among a (b ∷ bs) ≡ true → byte_order a b ≡ Less → ⊥
not_below a b bs up among less = which (bytes_eq a b) refl among
  where
    which : (t : Bool) → bytes_eq a b ≡ t → (t || is_among a bs) ≡ true → ⊥
    which true e among =
        let clash : Equal ≡ Less = sym (tied_itself nat_list_cmp_total a) ∙ ap (byte_order a) ((bytes_eq-Decides a b).0 e) ∙ less in cc
    which false e among =
        let clash : Equal ≡ Less =
        sym (tied_itself nat_list_cmp_total a) ∙ nat_list_cmp_total.trans a b a less (below_among b a bs up.0 among) in cc

-- without the first element
rest_same : (q a : List ℕ) (m n t : Bool) → bytes_eq q a ≡ t → (t ≡ true → (m ≡ false) × (n ≡ false)) → (t || m) ≡ (t || n) → m ≡ n
rest_same q a m n true is none e = (none refl).0 ∙ sym (none refl).1
rest_same q a m n false is none e = e

pub same_ascending : (ps qs : List (List ℕ)) → IsAscending byte_order ps → IsAscending byte_order qs →
    ((q : List ℕ) → is_among q ps ≡ is_among q qs) → ps ≡ qs
same_ascending [] [] one other same = refl
same_ascending [] (b ∷ qs) one other same =
    absurd (let clash : false ≡ true = same b ∙ ap (λ t. t || is_among b qs) (same_itself b) in cc)
same_ascending (a ∷ ps) [] one other same =
    absurd (let clash : true ≡ false = ap (λ t. t || is_among a ps) (sym (same_itself a)) ∙ same a in cc)
same_ascending (a ∷ ps) (b ∷ qs) one other same =
    let first : a ≡ b = which (byte_order a b) refl in
    let equal : (q : List ℕ) → is_among q ps ≡ is_among q qs = λ q.
    rest_same q a (is_among q ps) (is_among q qs) (bytes_eq q a) refl
    (λ e. (let is : q ≡ a = (bytes_eq-Decides q a).0 e in
    (ap (λ r. is_among r ps) is ∙ below_not_among a ps one.0, ap (λ r. is_among r qs) (is ∙ first) ∙ below_not_among b qs other.0)))
    (same q ∙ ap (λ r. bytes_eq q r || is_among q qs) (sym first)) in
    (λ i. first i ∷ same_ascending ps qs one.1 other.1 equal i)
  where
    which : (o : Ordering) → byte_order a b ≡ o → a ≡ b
    which Less e = absurd (not_below a b qs other (sym (same a) ∙ ap (λ t. t || is_among a ps) (same_itself a)) e)
    which Equal e = (bytes_eq-Decides a b).0 (sym (is_eq-slice_cmp a b) ∙ ap is_eq e)
    which Greater e =
        absurd (not_below b a ps one (same b ∙ ap (λ t. t || is_among b qs) (same_itself b))
        (nat_list_cmp_total.antisymm b a ∙ ap ordering_reverse e))

-- the place that a search in the same list gives
pub place_found : (items given : List (Bor (List ℕ))) (place : ℕ) (x : Bor (List ℕ)) → given ≡ items → place ≤ length given →
    (IsNonDecreasingBy (λ (y : Bor (List ℕ)). ordering_index (byte_order y.now x.now)) given →
    IsPartitionPoint (λ (y : Bor (List ℕ)). byte_order y.now x.now ≡ Less) (λ (y : Bor (List ℕ)). byte_order y.now x.now ≡ Greater) given place) →
    IsAscending byte_order (texts items) → IsPlace items place x
place_found items given place x same fits search =
    subst (λ (xs : List (Bor (List ℕ))). IsAscending byte_order (texts xs) → IsPlace xs place x) same (λ up.
    (let parts = search (search_rises given x.now up) in
    record { fits = fits; before = λ k h. parts.0 k x (omega arith) h; behind = λ k low h. parts.1 k x low h }))

pub found_in : (items given : List (Bor (List ℕ))) (k : ℕ) (x : Bor (List ℕ)) → given ≡ items → k < length given →
    ((d : Bor (List ℕ)) → byte_order (get_or given k d).now x.now ≡ Equal) →
    (q : List ℕ) → is_among q (texts items) ≡ (is_among q (texts items) || bytes_eq q x.now)
found_in items given k x same h tied =
    subst (λ (xs : List (Bor (List ℕ))). (q : List ℕ) → is_among q (texts xs) ≡ (is_among q (texts xs) || bytes_eq q x.now)) same
    (found_among given k x h (tied x))
