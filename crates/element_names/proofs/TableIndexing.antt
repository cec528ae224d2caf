-- How a table of texts and its index are kept.
use Rattle.std.proofs.Common.{◌≡◌, ℕ, zero, suc, ◌<◌, ◌≤◌, Bool, true, false, cond, ◌||◌, ◌==◌, List, [], ◌∷◌, ◌++◌, length, get_or, Option, Some, None, MatchOption, refl, sym, ap, ◌∙◌, subst, inl, inr, arith}
use Rattle.std.specs.List.{list_any, slice_get}
use Rattle.std.specs.BTreeMap.{get_by_text}
use Rattle.std.specs.Str.{bytes_eq}
use Rattle.std.proofs.lemmas.Bool.{cases_lt, cond-true, cond-false, eq-eqb, ne_eqb, false_from_ne_true}
use Rattle.std.proofs.lemmas.Slice.Eq.{bytes_eq-Decides}
use Rattle.element_names.specs.Tables.{added, Index, IsIndexed}

-- what is found in a table stays where the table grows
pub found_still : {X : Type 0} (xs ys : List X) (n : ℕ) (x : X) → slice_get xs n ≡ Some x → slice_get (xs ++ ys) n ≡ Some x
found_still [] ys n x h = absurd (let clash : None ≡ Some x = h in cc)
found_still (y ∷ xs) ys zero x h = h
found_still (y ∷ xs) ys (suc n) x h = found_still xs ys n x h

pub found_last : {X : Type 0} (xs : List X) (x : X) → slice_get (xs ++ x ∷ []) (length xs) ≡ Some x
found_last [] x = refl
found_last (y ∷ xs) x = found_last xs x

pub found_is : {X : Type 0} (xs : List X) (n : ℕ) (d : X) → n < length xs → slice_get xs n ≡ Some (get_or xs n d)
found_is [] n d h = absurd (omega arith)
found_is (x ∷ xs) zero d h = refl
found_is (x ∷ xs) (suc n) d h = found_is xs n d (omega arith)

pub found_within : {X : Type 0} (xs : List X) (n : ℕ) (x : X) → slice_get xs n ≡ Some x → n < length xs
found_within [] n x h = absurd (let clash : None ≡ Some x = h in cc)
found_within (y ∷ xs) zero x h = omega arith
found_within (y ∷ xs) (suc n) x h = let less = found_within xs n x h in omega arith

pub found_value : {X : Type 0} (xs : List X) (n : ℕ) (x d : X) → slice_get xs n ≡ Some x → get_or xs n d ≡ x
found_value xs n x d h =
    let both : Some (get_or xs n d) ≡ Some x = sym (found_is xs n d (found_within xs n x h)) ∙ h in
    cc

-- what is found in a longer table is in the table, or is the last
found_before : {X : Type 0} (xs : List X) (y x : X) (n : ℕ) → n < length xs → slice_get (xs ++ y ∷ []) n ≡ Some x → slice_get xs n ≡ Some x
found_before [] y x n less h = absurd (omega arith)
found_before (z ∷ xs) y x zero less h = h
found_before (z ∷ xs) y x (suc n) less h = found_before xs y x n (omega arith) h

found_end : {X : Type 0} (xs : List X) (y x : X) (n : ℕ) → length xs ≤ n → slice_get (xs ++ y ∷ []) n ≡ Some x → (n ≡ length xs) × (x ≡ y)
found_end [] y x zero past h = (refl, (let both : Some y ≡ Some x = h in cc))
found_end [] y x (suc n) past h = absurd (let clash : None ≡ Some x = h in cc)
found_end (z ∷ xs) y x zero past h = absurd (omega arith)
found_end (z ∷ xs) y x (suc n) past h = let e = found_end xs y x n (omega arith) h in (ap suc e.0, e.1)

-- a text of the table is found by the test, and no other is
among : (table : List (List ℕ)) (text : List ℕ) (n : ℕ) → slice_get table n ≡ Some text → list_any (λ t. bytes_eq t text) table ≡ true
among [] text n h = absurd (let clash : None ≡ Some text = h in cc)
among (t ∷ table) text zero h =
    let both : Some t ≡ Some text = h in
    let same : t ≡ text = cc in
    ap (λ b. b || list_any (λ x. bytes_eq x text) table) ((bytes_eq-Decides t text).1 same)
among (t ∷ table) text (suc n) h = or_true (bytes_eq t text) (among table text n h)
  where
    or_true : (b : Bool) → list_any (λ x. bytes_eq x text) table ≡ true → (b || list_any (λ x. bytes_eq x text) table) ≡ true
    or_true true k = refl
    or_true false k = k

place_of : (table : List (List ℕ)) (text : List ℕ) → list_any (λ t. bytes_eq t text) table ≡ true → (n : ℕ) × (slice_get table n ≡ Some text)
place_of [] text h = absurd (let clash : false ≡ true = h in cc)
place_of (t ∷ table) text h = by_test (bytes_eq t text) refl h (λ k. place_of table text k)
  where
    by_test : (b : Bool) → bytes_eq t text ≡ b → (b || list_any (λ x. bytes_eq x text) table) ≡ true →
        (list_any (λ x. bytes_eq x text) table ≡ true → (n : ℕ) × (slice_get table n ≡ Some text)) →
        (n : ℕ) × (slice_get (t ∷ table) n ≡ Some text)
    by_test true e k behind = (0, ap Some ((bytes_eq-Decides t text).0 e))
    by_test false e k behind = let found = behind k in (suc found.0, found.1)

-- what the index has says whether the text is there
pub numbered : (table : List (List ℕ)) (numbers : Index) (text : List ℕ) (o : Option ℕ) → IsIndexed table numbers → get_by_text numbers text ≡ o →
    MatchOption o (list_any (λ t. bytes_eq t text) table ≡ false) (λ n. slice_get table n ≡ Some text)
numbered table numbers text None h e =
    false_from_ne_true (list_any (λ t. bytes_eq t text) table) (λ yes.
    let place = place_of table text yes in
    absurd (let clash : None ≡ Some place.0 = sym e ∙ h.finds text place.0 place.1 in cc))
numbered table numbers text (Some n) h e = h.leads text n e

no_number : (table : List (List ℕ)) (numbers : Index) (text : List ℕ) (o : Option ℕ) → IsIndexed table numbers → get_by_text numbers text ≡ o →
    list_any (λ t. bytes_eq t text) table ≡ false → o ≡ None
no_number table numbers text None h e none = refl
no_number table numbers text (Some n) h e none =
    absurd (let clash : true ≡ false = sym (among table text n (h.leads text n e)) ∙ none in cc)

pub added_there : (table : List (List ℕ)) (text : List ℕ) (n : ℕ) → slice_get table n ≡ Some text → added table text ≡ table
added_there table text n h = cond-true (list_any (λ t. bytes_eq t text) table) _ _ (among table text n h)

pub added_last : (table : List (List ℕ)) (text : List ℕ) → list_any (λ t. bytes_eq t text) table ≡ false → added table text ≡ table ++ text ∷ []
added_last table text h = cond-false (list_any (λ t. bytes_eq t text) table) _ _ h

-- the index with one more text
pub indexed_more : (table : List (List ℕ)) (before after : Index) (text : List ℕ) → IsIndexed table before → list_any (λ t. bytes_eq t text) table ≡ false →
    ((q : List ℕ) → get_by_text after q ≡ cond (bytes_eq text q) (Some (length table)) (get_by_text before q)) → IsIndexed (table ++ text ∷ []) after
indexed_more table before after text h none now =
    let absent = no_number table before text (get_by_text before text) h refl none in record {
      leads = λ q n e. by_test q n (bytes_eq text q) refl (sym (now q) ∙ e);
      finds = λ q n e. elim (cases_lt n (length table)) [
        | inl less ↦
            let was = h.finds q n (found_before table text q n less e) in
            let other : bytes_eq text q ≡ false = false_from_ne_true (bytes_eq text q) (λ yes.
            let same = (bytes_eq-Decides text q).0 yes in
            absurd (let clash : None ≡ Some n = sym absent ∙ ap (get_by_text before) same ∙ was in cc)) in
            now q ∙ cond-false (bytes_eq text q) _ _ other ∙ was
        | inr past ↦
            let last = found_end table text q n past e in
            now q ∙ cond-true (bytes_eq text q) _ _ ((bytes_eq-Decides text q).1 (sym last.1)) ∙ ap Some (sym last.0)
      ];
    }
  where
    by_test : (q : List ℕ) (n : ℕ) (b : Bool) → bytes_eq text q ≡ b → cond b (Some (length table)) (get_by_text before q) ≡ Some n →
        slice_get (table ++ text ∷ []) n ≡ Some q
    by_test q n true e k =
        let same = (bytes_eq-Decides text q).0 e in
        let both : Some (length table) ≡ Some n = k in
        let at : length table ≡ n = cc in
        subst (λ (i : ℕ). slice_get (table ++ text ∷ []) i ≡ Some q) at (found_last table text ∙ ap Some same)
    by_test q n false e k = found_still table (text ∷ []) n q (h.leads q n k)

-- one text has one number
pub same_number : (table : List (List ℕ)) (numbers : Index) (one other : ℕ) → IsIndexed table numbers → one < length table → other < length table →
    bytes_eq (get_or table one []) (get_or table other []) ≡ true → one ≡ other
same_number table numbers one other h in_one in_other e =
    let same = (bytes_eq-Decides (get_or table one []) (get_or table other [])).0 e in
    let first = h.finds (get_or table one []) one (found_is table one [] in_one) in
    let second = h.finds (get_or table other []) other (found_is table other [] in_other) in
    let both : Some one ≡ Some other = sym first ∙ ap (get_by_text numbers) same ∙ second in
    cc

pub same_tests : (table : List (List ℕ)) (numbers : Index) (one other : ℕ) → IsIndexed table numbers → one < length table → other < length table →
    (one == other) ≡ bytes_eq (get_or table one []) (get_or table other [])
same_tests table numbers one other h in_one in_other = by_test (bytes_eq (get_or table one []) (get_or table other [])) refl
  where
    by_test : (b : Bool) → bytes_eq (get_or table one []) (get_or table other []) ≡ b → (one == other) ≡ b
    by_test true e = eq-eqb one other (same_number table numbers one other h in_one in_other e)
    by_test false e =
        ne_eqb one other (λ same. absurd (let clash : true ≡ false =
        sym ((bytes_eq-Decides (get_or table one []) (get_or table other [])).1 (ap (λ n. get_or table n []) same)) ∙ e in cc))
