-- Names with the numbers of their namespaces, in order.
use Rattle.std.proofs.Common.{◌≡◌, ℕ, zero, suc, ◌==◌, ◌+◌, ◌<◌, Bool, true, false, cond, ◌&&◌, ◌||◌, not, List, [], ◌∷◌, ◌++◌, length, get_or, take, map, refl, sym, ap, ◌∙◌, arith}
use Rattle.std.specs.List.{list_any}
use Rattle.std.specs.Cmp.{IsTotalOrder, both_ways}
use Rattle.std.specs.Cmp.Lexicographic.{slice_cmp}
use Rattle.std.specs.declared.cmp.Ordering.{Ordering}
use Rattle.std.specs.declared.cmp.Ordering.TheVariants.{Less, Equal, Greater}
use Rattle.std.specs.Ordering.{is_eq, nat_cmp, ordering_then}
use Rattle.std.specs.Str.{bytes_eq}
use Rattle.std.proofs.lemmas.Cmp.{nat_cmp_total, nat_list_cmp_total, then_total, on_total}
use Rattle.std.proofs.lemmas.Map.Text.{is_eq-slice_cmp}
use Rattle.std.proofs.lemmas.List.{append-nil}
use Rattle.std.proofs.lemmas.Slice.Eq.{bytes_eq-Decides}
use Rattle.xml_spec.specs.Tree.{Attribute}
use Rattle.xml_tokens.specs.Views.{attribute_view}
use Rattle.xml_tokens.specs.declared.token.Attribute as token
use Rattle.element_names.specs.declared.names.Expanded.{Expanded}
use Rattle.element_names.specs.Keys.{Key, same_key, are_distinct, are_apart, key_view}
use Rattle.element_names.specs.Named.{name_key, proper_keys, AreInTable, expanded_view, is_proper_same, are_apart_expanded}
use Rattle.element_names.specs.Tables.{HasEachOnce}
use Rattle.element_names.proofs.Differing.{distinct}

abbrev pub order : Key → Key → Ordering
order x y = ordering_then (nat_cmp x.0 y.0) (slice_cmp nat_cmp x.1.now y.1.now)

pub order_total : IsTotalOrder order
order_total = then_total (on_total (λ (x : Key). x.0) nat_cmp_total) (on_total (λ (x : Key). x.1.now) nat_list_cmp_total)

both_equal : (a b : Ordering) → is_eq (ordering_then a b) ≡ (is_eq a && is_eq b)
both_equal Less b = refl
both_equal Equal b = refl
both_equal Greater b = refl

number_equal : (m n : ℕ) → is_eq (nat_cmp m n) ≡ (m == n)
number_equal m n = grind arith

pub equal_keys : (x y : Key) → is_eq (order x y) ≡ same_key x y
equal_keys x y =
    both_equal (nat_cmp x.0 y.0) (slice_cmp nat_cmp x.1.now y.1.now)
    ∙ ap (λ b. b && is_eq (slice_cmp nat_cmp x.1.now y.1.now)) (number_equal x.0 y.0)
    ∙ ap (λ b. (x.0 == y.0) && b) (is_eq-slice_cmp x.1.now y.1.now)

any_equal : (x : Key) (xs : List Key) → list_any (λ y. is_eq (order y x)) xs ≡ list_any (λ y. same_key y x) xs
any_equal x [] = refl
any_equal x (y ∷ xs) = ap (λ b. b || list_any (λ z. is_eq (order z x)) xs) (equal_keys y x) ∙ ap (λ b. same_key y x || b) (any_equal x xs)

pub keys_distinct : (xs : List Key) → distinct order order_total xs ≡ are_distinct xs
keys_distinct [] = refl
keys_distinct (x ∷ xs) =
    ap (λ b. not b && distinct order order_total xs) (any_equal x xs)
    ∙ ap (λ b. not (list_any (λ y. same_key y x) xs) && b) (keys_distinct xs)

take_suc : {X : Type 0} (xs : List X) (k : ℕ) (d : X) → k < length xs → take (suc k) xs ≡ take k xs ++ get_or xs k d ∷ []
take_suc [] k d h = absurd (omega arith)
take_suc (x ∷ xs) zero d h = refl
take_suc (x ∷ xs) (suc k) d h = ap (λ ys. x ∷ ys) (take_suc xs k d (omega arith))

take_more : {X : Type 0} (xs : List X) (k : ℕ) (d : X) → k < length xs → take (k + 1) xs ≡ take k xs ++ get_or xs k d ∷ []
take_more xs k d h =
    let same : k + 1 ≡ suc k = omega arith in
    ap (λ n. take n xs) same ∙ take_suc xs k d h

-- the keys of one name more
proper_pushed : (es : List Expanded) (e : Expanded) → proper_keys (es ++ e ∷ []) ≡ proper_keys es ++ cond e.is_proper ((e.namespace, e.local) ∷ []) []
proper_pushed [] e = refl
proper_pushed (x ∷ es) e = by_test x.is_proper (proper_pushed es e)
  where
    more : List Key
    more = cond e.is_proper ((e.namespace, e.local) ∷ []) []

    by_test : (b : Bool) → proper_keys (es ++ e ∷ []) ≡ proper_keys es ++ cond e.is_proper ((e.namespace, e.local) ∷ []) [] →
        cond b ((x.namespace, x.local) ∷ proper_keys (es ++ e ∷ [])) (proper_keys (es ++ e ∷ []))
        ≡ cond b ((x.namespace, x.local) ∷ proper_keys es) (proper_keys es) ++ cond e.is_proper ((e.namespace, e.local) ∷ []) []
    by_test true h = ap (λ (ks : List Key). (x.namespace, x.local) ∷ ks) h
    by_test false h = h

pub proper_more : (es : List Expanded) (k : ℕ) (d : Expanded) → k < length es →
    proper_keys (take (k + 1) es) ≡ proper_keys (take k es) ++ cond (get_or es k d).is_proper (((get_or es k d).namespace, (get_or es k d).local) ∷ []) []
proper_more es k d h = ap proper_keys (take_more es k d h) ∙ proper_pushed (take k es) (get_or es k d)

-- the names as they are written
any_written : (key : Key) (a : token.Attribute) (keys : List Key) (list : List token.Attribute) → key_view key ≡ name_key a →
    map key_view keys ≡ map name_key list →
    list_any (λ other. same_key other key) keys ≡ list_any (λ other. bytes_eq other a.name) (map (λ (x : Attribute). x.name) (map attribute_view list))
any_written key a [] [] e h = refl
any_written key a [] (x ∷ list) e h = absurd (let clash : [] ≡ name_key x ∷ map name_key list = h in cc)
any_written key a (k ∷ keys) [] e h = absurd (let clash : key_view k ∷ map key_view keys ≡ [] = h in cc)
any_written key a (k ∷ keys) (x ∷ list) e h =
    let own : key_view k ≡ name_key x = cc in
    let others : map key_view keys ≡ map name_key list = cc in
    let first : ((k.0 == key.0) && bytes_eq k.1.now key.1.now) ≡ ((0 == 0) && bytes_eq x.name a.name) =
    (λ i. ((own i).0 == (e i).0) && bytes_eq (own i).1 (e i).1) in
    (λ i. first i || any_written key a keys list e others i)

pub written_apart : (keys : List Key) (list : List token.Attribute) → map key_view keys ≡ map name_key list →
    are_distinct keys ≡ are_apart (map (λ (x : Attribute). x.name) (map attribute_view list))
written_apart [] [] h = refl
written_apart [] (x ∷ list) h = absurd (let clash : [] ≡ name_key x ∷ map name_key list = h in cc)
written_apart (k ∷ keys) [] h = absurd (let clash : key_view k ∷ map key_view keys ≡ [] = h in cc)
written_apart (k ∷ keys) (x ∷ list) h =
    let own : key_view k ≡ name_key x = cc in
    let others : map key_view keys ≡ map name_key list = cc in
    (λ i. not (any_written k x keys list own others i) && written_apart keys list others i)

-- the expanded names of those that declare nothing
module _ (table : List (List ℕ)) (once : HasEachOnce table) where
  same_expanded : (e x : Expanded) → e.namespace < length table → x.namespace < length table →
      same_key (x.namespace, x.local) (e.namespace, e.local)
      ≡ (bytes_eq e.local.now x.local.now && bytes_eq (get_or table e.namespace []) (get_or table x.namespace []))
  same_expanded e x in_e in_x =
      ap (λ b. b && bytes_eq x.local.now e.local.now) (once.each x.namespace e.namespace in_x in_e)
      ∙ ap (λ b. bytes_eq (get_or table x.namespace []) (get_or table e.namespace []) && b) (turned x.local.now e.local.now)
      ∙ ap (λ b. b && bytes_eq e.local.now x.local.now) (turned (get_or table x.namespace []) (get_or table e.namespace []))
      ∙ and_comm (bytes_eq (get_or table e.namespace []) (get_or table x.namespace [])) (bytes_eq e.local.now x.local.now)
    where
      turned : (p q : List ℕ) → bytes_eq p q ≡ bytes_eq q p
      turned p q =
          both_ways (bytes_eq p q) (bytes_eq q p)
          (λ h. (bytes_eq-Decides q p).1 (sym ((bytes_eq-Decides p q).0 h)))
          (λ h. (bytes_eq-Decides p q).1 (sym ((bytes_eq-Decides q p).0 h)))

      and_comm : (a b : Bool) → (a && b) ≡ (b && a)
      and_comm true true = refl
      and_comm true false = refl
      and_comm false true = refl
      and_comm false false = refl

  any_expanded : (e : Expanded) (es : List Expanded) → e.namespace < length table → AreInTable table es →
      list_any (λ other. same_key other (e.namespace, e.local)) (proper_keys es)
      ≡ list_any (is_proper_same (expanded_view table e).1) (map (expanded_view table) es)
  any_expanded e [] in_e all = refl
  any_expanded e (x ∷ es) in_e all = by_test x.is_proper (same_expanded e x in_e all.0) (any_expanded e es in_e all.1)
    where
      by_test : (b : Bool) →
          same_key (x.namespace, x.local) (e.namespace, e.local)
          ≡ (bytes_eq e.local.now x.local.now && bytes_eq (get_or table e.namespace []) (get_or table x.namespace [])) →
          list_any (λ other. same_key other (e.namespace, e.local)) (proper_keys es)
          ≡ list_any (is_proper_same (expanded_view table e).1) (map (expanded_view table) es) →
          list_any (λ other. same_key other (e.namespace, e.local)) (cond b ((x.namespace, x.local) ∷ proper_keys es) (proper_keys es))
          ≡ ((b && (bytes_eq e.local.now x.local.now && bytes_eq (get_or table e.namespace []) (get_or table x.namespace [])))
          || list_any (is_proper_same (expanded_view table e).1) (map (expanded_view table) es))
      by_test true same rest =
          ap (λ b. b || list_any (λ other. same_key other (e.namespace, e.local)) (proper_keys es)) same
          ∙ ap (λ b. (bytes_eq e.local.now x.local.now && bytes_eq (get_or table e.namespace []) (get_or table x.namespace [])) || b) rest
      by_test false same rest = rest

  pub expanded_apart : (es : List Expanded) → AreInTable table es →
      are_distinct (proper_keys es) ≡ are_apart_expanded (map (expanded_view table) es)
  expanded_apart [] all = refl
  expanded_apart (e ∷ es) all = by_test e.is_proper (any_expanded e es all.0 all.1) (expanded_apart es all.1)
    where
      by_test : (b : Bool) →
          list_any (λ other. same_key other (e.namespace, e.local)) (proper_keys es)
          ≡ list_any (is_proper_same (expanded_view table e).1) (map (expanded_view table) es) →
          are_distinct (proper_keys es) ≡ are_apart_expanded (map (expanded_view table) es) →
          are_distinct (cond b ((e.namespace, e.local) ∷ proper_keys es) (proper_keys es))
          ≡ (not (b && list_any (is_proper_same (expanded_view table e).1) (map (expanded_view table) es))
          && are_apart_expanded (map (expanded_view table) es))
      by_test true any rest =
          ap (λ b. not b && are_distinct (proper_keys es)) any
          ∙ ap (λ b. not (list_any (is_proper_same (expanded_view table e).1) (map (expanded_view table) es)) && b) rest
      by_test false any rest = rest

-- a name that counts is added, and another is not
pub proper_added : (es : List Expanded) (k : ℕ) (d : Expanded) (keys new : List Key) → k < length es → keys ≡ proper_keys (take k es) →
    (get_or es k d).is_proper ≡ true → new ≡ keys ++ ((get_or es k d).namespace, (get_or es k d).local) ∷ [] →
    new ≡ proper_keys (take (k + 1) es)
proper_added es k d keys new less is proper e =
    let own : List Key = ((get_or es k d).namespace, (get_or es k d).local) ∷ [] in
    e ∙ ap (λ (ks : List Key). ks ++ own) is
    ∙ sym (proper_more es k d less ∙ ap (λ b. proper_keys (take k es) ++ cond b own []) proper)

pub proper_passed : (es : List Expanded) (k : ℕ) (d : Expanded) (keys new : List Key) → k < length es → keys ≡ proper_keys (take k es) →
    (get_or es k d).is_proper ≡ false → new ≡ keys → new ≡ proper_keys (take (k + 1) es)
proper_passed es k d keys new less is proper e =
    let own : List Key = ((get_or es k d).namespace, (get_or es k d).local) ∷ [] in
    e ∙ is ∙ sym (proper_more es k d less ∙ ap (λ b. proper_keys (take k es) ++ cond b own []) proper ∙ append-nil (proper_keys (take k es)))
