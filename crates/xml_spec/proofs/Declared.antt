-- The declarations that are written at an element stand in ascending order, each that is needed once.
use Rattle.std.proofs.Common.{◌≡◌, ℕ, ◌+◌, Bool, true, false, cond, ◌&&◌, ◌||◌, List, [], ◌∷◌, ◌++◌, map, filter, IsTrue, refl, sym, ◌∙◌, ap, subst, arith}
use Rattle.std.specs.Prelude.{count_by}
use Rattle.std.specs.List.{list_any, AllByRecursion}
use Rattle.std.specs.declared.cmp.Ordering.{Ordering}
use Rattle.std.specs.declared.cmp.Ordering.TheVariants.{Less, Equal, Greater}
use Rattle.std.specs.Ordering.{is_lt, is_le, is_eq}
use Rattle.std.specs.Str.{bytes_eq}
use Rattle.std.proofs.lemmas.Bool.{or_parts}
use Rattle.std.proofs.lemmas.Cmp.{nat_list_cmp_total, nat_list_eq_equiv}
use Rattle.std.proofs.lemmas.Map.Text.{is_eq-slice_cmp}
use Rattle.std.proofs.lemmas.Slice.Eq.{bytes_eq-Decides}
use Rattle.std.proofs.lemmas.List.Sorted.{IsPermutation-sym, sum_by-IsPermutation, list_any-IsPermutation}
use Rattle.std.proofs.lemmas.List.Sums.{sum_by-cons}
use Rattle.xml_spec.specs.Tree.{Attribute}
use Rattle.xml_spec.specs.Names.{Binding, Scope, namespace_of}
use Rattle.xml_spec.specs.Canonical.{byte_order, inserted, sorted, once, used_prefixes, listed_prefix, is_rendered_anew, written_declarations}
use Rattle.xml_spec.specs.Laws.{IsAscending, times_declared, IsDeclaredAsNeeded}
use Rattle.xml_spec.proofs.Sorting.{each_weaker, each_inserted, below_other, sorted_is_permutation}

pub same_bytes : (p q : List ℕ) → bytes_eq p q ≡ true → p ≡ q
same_bytes p q h = (bytes_eq-Decides p q).0 h

-- what is not above and not equal is below
pub strictly : (o : Ordering) → is_le o ≡ true → is_eq o ≡ false → o ≡ Less
strictly Less h k = refl
strictly Equal h k = absurd (let clash : true ≡ false = k in cc)
strictly Greater h k = absurd (let clash : false ≡ true = h in cc)

pub is_below : (o : Ordering) → is_lt o ≡ true → o ≡ Less
is_below Less h = refl
is_below Equal h = absurd (let clash : false ≡ true = h in cc)
is_below Greater h = absurd (let clash : false ≡ true = h in cc)

-- p is below the list's elements
abbrev pub Below : List ℕ → List ℕ → Type 0
Below p q = IsTrue (is_lt (byte_order p q))

pub below_chain : (p q r : List ℕ) → byte_order p q ≡ Less → Below q r → Below p r
below_chain p q r h k = ap is_lt (nat_list_cmp_total.trans p q r h (is_below (byte_order q r) k))

pub insert_keeps_ascending : (p : List ℕ) (ps : List (List ℕ)) → IsAscending byte_order ps → list_any (bytes_eq p) ps ≡ false →
    IsAscending byte_order (inserted byte_order p ps)
insert_keeps_ascending p [] up new = (tt, tt)
insert_keeps_ascending p (q ∷ qs) up new =
    let apart = or_parts (bytes_eq p q) (list_any (bytes_eq p) qs) new in
    which (is_le (byte_order p q)) refl apart.0 (insert_keeps_ascending p qs up.1 apart.1)
  where
    which : (b : Bool) → is_le (byte_order p q) ≡ b → bytes_eq p q ≡ false → IsAscending byte_order (inserted byte_order p qs) →
        IsAscending byte_order (cond b (p ∷ q ∷ qs) (q ∷ inserted byte_order p qs))
    which true h differs later =
        let below : byte_order p q ≡ Less = strictly (byte_order p q) h (is_eq-slice_cmp p q ∙ differs) in
        ((ap is_lt below, each_weaker (Below q) (Below p) (λ r k. below_chain p q r below k) qs up.0), up)
    which false h differs later =
        (each_inserted byte_order (Below q) p qs (ap is_lt (below_other byte_order nat_list_cmp_total p q h)) up.0, later)

-- a list has the prefixes that it has once
pub once_has_same : (q : List ℕ) (ps : List (List ℕ)) → list_any (bytes_eq q) (once ps) ≡ list_any (bytes_eq q) ps
once_has_same q [] = refl
once_has_same q (p ∷ ps) = which (list_any (bytes_eq p) ps) refl (bytes_eq q p) refl (once_has_same q ps)
  where
    which : (twice : Bool) → list_any (bytes_eq p) ps ≡ twice → (same : Bool) → bytes_eq q p ≡ same →
        list_any (bytes_eq q) (once ps) ≡ list_any (bytes_eq q) ps →
        list_any (bytes_eq q) (cond twice (once ps) (p ∷ once ps)) ≡ (same || list_any (bytes_eq q) ps)
    which true t true s later = later ∙ subst (λ r. list_any (bytes_eq r) ps ≡ true) (sym (same_bytes q p s)) t
    which true t false s later = later
    which false t same s later = cc

pub sorted_once_is_ascending : (ps : List (List ℕ)) → IsAscending byte_order (sorted byte_order (once ps))
sorted_once_is_ascending [] = tt
sorted_once_is_ascending (p ∷ ps) = which (list_any (bytes_eq p) ps) refl (sorted_once_is_ascending ps)
  where
    which : (twice : Bool) → list_any (bytes_eq p) ps ≡ twice → IsAscending byte_order (sorted byte_order (once ps)) →
        IsAscending byte_order (sorted byte_order (cond twice (once ps) (p ∷ once ps)))
    which true t later = later
    which false t later =
        insert_keeps_ascending p (sorted byte_order (once ps)) later
        (list_any-IsPermutation (bytes_eq p) (sorted byte_order (once ps)) (once ps)
        (IsPermutation-sym (once ps) (sorted byte_order (once ps)) (sorted_is_permutation byte_order (once ps)))
        ∙ once_has_same p ps ∙ t)

pub each_filtered : (P : List ℕ → Type 0) (test : List ℕ → Bool) (ps : List (List ℕ)) → AllByRecursion P ps → AllByRecursion P (filter test ps)
each_filtered P test [] h = tt
each_filtered P test (p ∷ ps) h = which (test p) (each_filtered P test ps h.1)
  where
    which : (b : Bool) → AllByRecursion P (filter test ps) → AllByRecursion P (cond b (p ∷ filter test ps) (filter test ps))
    which true later = (h.0, later)
    which false later = later

pub filter_keeps_ascending : (test : List ℕ → Bool) (ps : List (List ℕ)) → IsAscending byte_order ps → IsAscending byte_order (filter test ps)
filter_keeps_ascending test [] up = tt
filter_keeps_ascending test (p ∷ ps) up = which (test p) (filter_keeps_ascending test ps up.1)
  where
    which : (b : Bool) → IsAscending byte_order (filter test ps) → IsAscending byte_order (cond b (p ∷ filter test ps) (filter test ps))
    which true later = (each_filtered (Below p) test ps up.0, later)
    which false later = later

-- the prefixes with their namespaces
abbrev pub with_namespaces : Scope → List (List ℕ) → List Binding
with_namespaces scope ps = map (λ prefix. record { prefix = prefix; namespace = namespace_of scope prefix }) ps

pub prefixes_stay : (scope : Scope) (ps : List (List ℕ)) → map (λ b. b.prefix) (with_namespaces scope ps) ≡ ps
prefixes_stay scope [] = refl
prefixes_stay scope (p ∷ ps) = ap (λ qs. p ∷ qs) (prefixes_stay scope ps)

pub declarations_ascend : (listed : List (List ℕ)) (scope rendered : Scope) (name : List ℕ) (attributes : List Attribute) →
    IsAscending byte_order (map (λ b. b.prefix) (written_declarations listed scope rendered name attributes))
declarations_ascend listed scope rendered name attributes =
    let all : List (List ℕ) = used_prefixes name attributes ++ map listed_prefix listed in
    subst (IsAscending byte_order) (sym (prefixes_stay scope (filter (is_rendered_anew scope rendered) (sorted byte_order (once all)))))
    (filter_keeps_ascending (is_rendered_anew scope rendered) (sorted byte_order (once all)) (sorted_once_is_ascending all))

-- once, or not at all
abbrev pub times_if : Bool → ℕ
times_if b = cond b 1 0

-- how often a prefix stands in a list
abbrev pub times : List ℕ → List (List ℕ) → ℕ
times q ps = count_by (λ p. bytes_eq p q) ps

pub times_more : (q p : List ℕ) (ps : List (List ℕ)) → times q (p ∷ ps) ≡ cond (bytes_eq p q) 1 0 + times q ps
times_more q p ps = sum_by-cons (λ r. cond (bytes_eq r q) 1 0) p ps

pub declared_times : (scope : Scope) (q : List ℕ) (ps : List (List ℕ)) → times_declared q (with_namespaces scope ps) ≡ times q ps
declared_times scope q [] = refl
declared_times scope q (p ∷ ps) =
    sum_by-cons (λ (b : Binding). cond (bytes_eq b.prefix q) 1 0) (record { prefix = p; namespace = namespace_of scope p }) (with_namespaces scope ps)
    ∙ ap (λ n. cond (bytes_eq p q) 1 0 + n) (declared_times scope q ps) ∙ sym (times_more q p ps)

-- one that passes as q does, or is another than q, in front of a filtered list
pub filter_step : (passes wanted same : Bool) (n m : ℕ) → (same ≡ true → passes ≡ wanted) → m ≡ cond wanted n 0 →
    cond passes (cond same 1 0 + m) m ≡ cond wanted (cond same 1 0 + n) 0
filter_step true true same n m agree e = ap (λ k. cond same 1 0 + k) e
filter_step true false true n m agree e = absurd (let clash : true ≡ false = agree refl in cc)
filter_step true false false n m agree e = omega arith
filter_step false true true n m agree e = absurd (let clash : false ≡ true = agree refl in cc)
filter_step false true false n m agree e = omega arith
filter_step false false same n m agree e = e

pub filtered_times : (test : List ℕ → Bool) (q : List ℕ) (ps : List (List ℕ)) → times q (filter test ps) ≡ cond (test q) (times q ps) 0
filtered_times test q [] = none (test q)
  where
    none : (b : Bool) → times q [] ≡ cond b 0 0
    none true = refl
    none false = refl
filtered_times test q (p ∷ ps) =
    in_front (test p)
    ∙ filter_step (test p) (test q) (bytes_eq p q) (times q ps) (times q (filter test ps))
    (λ e. ap test (same_bytes p q e)) (filtered_times test q ps)
    ∙ ap (λ n. cond (test q) n 0) (sym (times_more q p ps))
  where
    in_front : (b : Bool) → times q (cond b (p ∷ filter test ps) (filter test ps))
        ≡ cond b (cond (bytes_eq p q) 1 0 + times q (filter test ps)) (times q (filter test ps))
    in_front true = times_more q p (filter test ps)
    in_front false = refl

pub sorted_times : (q : List ℕ) (ps : List (List ℕ)) → times q (sorted byte_order ps) ≡ times q ps
sorted_times q ps = sum_by-IsPermutation (λ p. cond (bytes_eq p q) 1 0) ps (sorted byte_order ps) (sorted_is_permutation byte_order ps)

-- one that stands in the list again just where q does, or is another than q, in front of a list without repetitions
pub once_step : (again same stands : Bool) (m : ℕ) → (same ≡ true → again ≡ stands) → m ≡ cond stands 1 0 →
    cond again m (cond same 1 0 + m) ≡ cond (same || stands) 1 0
once_step true true true m agree e = e
once_step true true false m agree e = absurd (let clash : true ≡ false = agree refl in cc)
once_step true false stands m agree e = e
once_step false true true m agree e = absurd (let clash : false ≡ true = agree refl in cc)
once_step false true false m agree e = omega arith
once_step false false true m agree e = omega arith
once_step false false false m agree e = omega arith

pub once_times : (q : List ℕ) (ps : List (List ℕ)) → times q (once ps) ≡ cond (list_any (bytes_eq q) ps) 1 0
once_times q [] = refl
once_times q (p ∷ ps) =
    in_front (list_any (bytes_eq p) ps)
    ∙ once_step (list_any (bytes_eq p) ps) (bytes_eq p q) (list_any (bytes_eq q) ps) (times q (once ps))
    (λ e. ap (λ r. list_any (bytes_eq r) ps) (same_bytes p q e)) (once_times q ps)
    ∙ ap (λ same. cond (same || list_any (bytes_eq q) ps) 1 0) (nat_list_eq_equiv.symm p q)
  where
    in_front : (b : Bool) → times q (cond b (once ps) (p ∷ once ps)) ≡ cond b (times q (once ps)) (cond (bytes_eq p q) 1 0 + times q (once ps))
    in_front true = refl
    in_front false = times_more q p (once ps)

pub declared_as_needed : (listed : List (List ℕ)) (scope rendered : Scope) (name : List ℕ) (attributes : List Attribute) (prefix : List ℕ) →
    IsDeclaredAsNeeded listed scope rendered name attributes prefix
declared_as_needed listed scope rendered name attributes prefix =
    let all : List (List ℕ) = used_prefixes name attributes ++ map listed_prefix listed in
    let anew : List ℕ → Bool = is_rendered_anew scope rendered in
    declared_times scope prefix (filter anew (sorted byte_order (once all)))
    ∙ filtered_times anew prefix (sorted byte_order (once all))
    ∙ ap (λ n. cond (anew prefix) n 0) (sorted_times prefix (once all) ∙ once_times prefix all)
    ∙ joined (list_any (bytes_eq prefix) all) (anew prefix)
  where
    joined : (a b : Bool) → cond b (times_if a) 0 ≡ times_if (a && b)
    joined true true = refl
    joined true false = refl
    joined false true = refl
    joined false false = refl
