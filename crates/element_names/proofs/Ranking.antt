-- How the texts of a table are ranked by its index.
use Rattle.std.proofs.Common.{◌≡◌, ℕ, zero, suc, ◌+◌, ◌<◌, ◌≤◌, Bool, true, false, cond, List, [], ◌∷◌, length, get_or, set, drop, Option, Some, None, String, string_bytes, refl, sym, ap, ◌∙◌, subst, inl, inr, arith}
use Rattle.std.specs.List.{slice_get}
use Rattle.std.specs.Option.{option_map}
use Rattle.std.specs.BTreeMap.{values, is_at, IsOrdered}
use Rattle.std.specs.Map.{keys_of, values_of, lookup}
use Rattle.std.specs.Ordering.{nat_cmp, ordering_reverse}
use Rattle.std.specs.Cmp.Lexicographic.{slice_cmp}
use Rattle.std.specs.String.{string_cmp, string_cmp_total}
use Rattle.std.specs.declared.alloc.Global.{Global}
use Rattle.std.specs.declared.cmp.Ordering.TheVariants.{Less, Equal}
use Rattle.std.proofs.lemmas.Bool.{cases_lt}
use Rattle.std.proofs.lemmas.Cmp.{ranked, by_ranked, nat_list_cmp_total, tied_itself, eq_by_cmp_equiv}
use Rattle.std.proofs.lemmas.List.{get_or-set_same, get_or-set_other, length-drop}
use Rattle.std.proofs.lemmas.Map.Entries.{lookup_from_place}
use Rattle.std.proofs.lemmas.Map.Keys.{Less-from_sorted, IsDistinct-from_sorted}
use Rattle.std.proofs.lemmas.Map.Text.{is_eq-slice_cmp}
use Rattle.std.proofs.lemmas.Option.{slice_get-map, slice_get_within, get_or_from_slice_get, slice_get-get_or}
use Rattle.std.proofs.lemmas.Slice.Eq.{bytes_eq-Decides}
use Rattle.xml_spec.specs.Canonical.{byte_order}
use Rattle.element_names.specs.Tables.{Index, IsIndexed, AreRanks}

abbrev Entry : Type 0
Entry = String Global × ℕ

-- the first so many of these numbers have their places as ranks
abbrev pub AreWritten : List ℕ → ℕ → List ℕ → Type 0
AreWritten numbers count ranks = (p n : ℕ) → p < count → slice_get numbers p ≡ Some n → get_or ranks n 0 ≡ p

-- a number stands at place p of the index, with this text
record IsEntry (m : Index) (p n : ℕ) (text : List ℕ) : Type 0 where
  key : String Global
  here : slice_get m.entries p ≡ Some (key, n)
  is : string_bytes key ≡ text

-- where a list goes on with this number, and what is left behind it
next_of : {X : Type 0} (all : List X) (k : ℕ) (x : X) (rest : List X) → drop k all ≡ x ∷ rest → (slice_get all k ≡ Some x) × (rest ≡ drop (k + 1) all)
next_of [] zero x rest h = absurd (let clash : [] ≡ x ∷ rest = h in cc)
next_of [] (suc k) x rest h = absurd (let clash : [] ≡ x ∷ rest = h in cc)
next_of (y ∷ ys) zero x rest h =
    let both : y ∷ ys ≡ x ∷ rest = h in
    let first : y ≡ x = cc in
    let behind : ys ≡ rest = cc in
    (ap Some first, sym behind)
next_of (y ∷ ys) (suc k) x rest h =
    let later = next_of ys k x rest h in
    let more : suc (k + 1) ≡ suc k + 1 = omega arith in
    (later.0, later.1 ∙ ap (λ n. drop n (y ∷ ys)) more)

pub left_behind : (all left rest : List ℕ) (k n : ℕ) → left ≡ drop k all → left ≡ n ∷ rest → (rest ≡ drop (k + 1) all) × (k < length all)
left_behind all left rest k n is goes_on =
    let next = next_of all k n rest (sym is ∙ goes_on) in
    (next.1, slice_get_within all k n next.0)

-- the entry that a look-up finds
entry_found : {K X : Type 0} (test : K → Bool) (es : List (K × X)) (v : X) → lookup test es ≡ Some v →
    (p : ℕ) × (k : K) × (slice_get es p ≡ Some (k, v)) × (test k ≡ true)
entry_found {K} {X} test [] v h = absurd (let clash : None ≡ Some v = h in cc)
entry_found {K} {X} test (e ∷ es) v h = by_test (test e.0) refl h (λ later. entry_found test es v later)
  where
    by_test : (b : Bool) → test e.0 ≡ b → cond b (Some e.1) (lookup test es) ≡ Some v →
        (lookup test es ≡ Some v → (p : ℕ) × (k : K) × (slice_get es p ≡ Some (k, v)) × (test k ≡ true)) →
        (p : ℕ) × (k : K) × (slice_get (e ∷ es) p ≡ Some (k, v)) × (test k ≡ true)
    by_test true is found behind =
        let same : e.1 ≡ v = cc in
        (0, e.0, ap (λ x. Some (e.0, x)) same, is)
    by_test false is found behind = let at = behind found in (suc at.0, at.1, at.2, at.3)

-- the entry at a place, of whose parts this is one
entry_at : {K X : Type 0} (es : List (K × X)) (p : ℕ) (v : X) → slice_get (values_of es) p ≡ Some v → (k : K) × (slice_get es p ≡ Some (k, v))
entry_at {K} {X} es p v h = which (slice_get es p) refl (sym (slice_get-map (λ (e : K × X). e.1) es p) ∙ h)
  where
    which : (o : Option (K × X)) → slice_get es p ≡ o → option_map (λ (e : K × X). e.1) o ≡ Some v → (k : K) × (slice_get es p ≡ Some (k, v))
    which None here is = absurd (let clash : None ≡ Some v = is in cc)
    which (Some e) here is =
        let same : e.1 ≡ v = cc in
        (e.0, here ∙ ap (λ x. Some (e.0, x)) same)

first_same : {X Y : Type 0} (one other : X × Y) → Some one ≡ Some other → one.0 ≡ other.0
first_same {X} {Y} one other e = let pairs : one ≡ other = cc in ap (λ (p : X × Y). p.0) pairs

module _ (m : Index) (ordered : IsOrdered string_cmp m) where
  -- a key that stands before another is below it
  below : (p q n o : ℕ) (x y : List ℕ) → p < q → IsEntry m p n x → IsEntry m q o y → byte_order x y ≡ Less
  below p q n o x y less one other =
      let keys = keys_of m.entries in
      let first : slice_get keys p ≡ Some one.key = slice_get-map (λ (e : Entry). e.0) m.entries p ∙ ap (option_map (λ (e : Entry). e.0)) one.here in
      let second : slice_get keys q ≡ Some other.key = slice_get-map (λ (e : Entry). e.0) m.entries q ∙ ap (option_map (λ (e : Entry). e.0)) other.here in
      let order = Less-from_sorted string_cmp keys p q one.key ordered less (slice_get_within keys q other.key second) in
      (λ i. byte_order (sym one.is i) (sym other.is i))
      ∙ (λ i. string_cmp (sym (get_or_from_slice_get keys p one.key one.key first) i) (sym (get_or_from_slice_get keys q other.key one.key second) i))
      ∙ order

  module _ (table : List (List ℕ)) (indexed : IsIndexed table m) where
    -- the text of the number at a place is its key
    text_at : (p n : ℕ) (key : String Global) → slice_get m.entries p ≡ Some (key, n) → slice_get table n ≡ Some (string_bytes key)
    text_at p n key here =
        indexed.leads (string_bytes key) n
        (lookup_from_place (eq_by_cmp_equiv string_cmp_total) m.entries p key n (IsDistinct-from_sorted string_cmp (keys_of m.entries) ordered) here)

    -- a number stands at one place
    once : (p q n : ℕ) → p < q → slice_get (values m) p ≡ Some n → slice_get (values m) q ≡ Some n → ⊥
    once p q n less one other =
        let first = entry_at m.entries p n one in
        let second = entry_at m.entries q n other in
        let both : Some (string_bytes first.0) ≡ Some (string_bytes second.0) = sym (text_at p n first.0 first.1) ∙ text_at q n second.0 second.1 in
        let same : string_bytes first.0 ≡ string_bytes second.0 = cc in
        let order =
        below p q n n (string_bytes first.0) (string_bytes first.0) less (record { key = first.0; here = first.1; is = refl })
        (record { key = second.0; here = second.1; is = sym same }) in
        let clash : Equal ≡ Less = sym (tied_itself nat_list_cmp_total (string_bytes first.0)) ∙ order in
        cc

    -- the next number is in the table, and gets its place as its rank
    module _ (all : List ℕ) (is : all ≡ values m) where
      pub in_table : (left rest : List ℕ) (k n : ℕ) → left ≡ drop k all → left ≡ n ∷ rest → n < length table
      in_table left rest k n at goes_on =
          let here : slice_get (values m) k ≡ Some n = ap (λ l. slice_get l k) (sym is) ∙ (next_of all k n rest (sym at ∙ goes_on)).0 in
          let e = entry_at m.entries k n here in
          slice_get_within table n (string_bytes e.0) (text_at k n e.0 e.1)

      pub one_more : (left rest ranks : List ℕ) (k n : ℕ) → left ≡ drop k all → left ≡ n ∷ rest → length ranks ≡ length table → AreWritten all k ranks →
          AreWritten all (k + 1) (set ranks n k)
      one_more left rest ranks k n at goes_on count so_far p o less there =
          let here = (next_of all k n rest (sym at ∙ goes_on)).0 in
          let inside = in_table left rest k n at goes_on in
          elim (cases_lt p k) [
            | inl before ↦
                get_or-set_other ranks n o k 0
                (λ same. once p k n before (ap (λ l. slice_get l p) (sym is) ∙ there ∙ ap Some same) (ap (λ l. slice_get l k) (sym is) ∙ here))
                ∙ so_far p o before there
            | inr past ↦
                let last : p ≡ k = omega arith in
                let both : Some o ≡ Some n = sym there ∙ ap (slice_get all) last ∙ here in
                let same : o ≡ n = cc in
                ap (λ t. get_or (set ranks n k) t 0) same ∙ get_or-set_same ranks n k 0 (omega arith) ∙ sym last
          ]

    -- where each number of the table stands
    place_of : (n : ℕ) → n < length table → (p : ℕ) × IsEntry m p n (get_or table n [])
    place_of n less =
        let text = get_or table n [] in
        let found = entry_found (is_at (λ (k : String Global). slice_cmp nat_cmp text (string_bytes k))) m.entries n (indexed.finds text n (slice_get-get_or table n [] less)) in (
          found.0,
          record {
            key = found.1;
            here = found.2;
            is = sym ((bytes_eq-Decides text (string_bytes found.1)).0 (sym (is_eq-slice_cmp text (string_bytes found.1)) ∙ found.3));
          },
        )

    rank_is : (p n : ℕ) {count : ℕ} (text ranks : List ℕ) → length (values m) ≤ count → AreWritten (values m) count ranks → IsEntry m p n text → get_or ranks n 0 ≡ p
    rank_is p n {count} text ranks all written e =
        let here : slice_get (values m) p ≡ Some n = slice_get-map (λ (x : Entry). x.1) m.entries p ∙ ap (option_map (λ (x : Entry). x.1)) e.here in
        written p n (let inside = slice_get_within (values m) p n here in omega arith) here

    -- places are in the order of the texts
    placed : (p q n o : ℕ) (x y : List ℕ) → IsEntry m p n x → IsEntry m q o y → nat_cmp p q ≡ byte_order x y
    placed p q n o x y one other =
        by_ranked (p < q) (p ≡ q) (q < p) (nat_cmp p q) (ranked p q (nat_cmp p q) refl)
        (λ is h. is ∙ sym (below p q n o x y h one other))
        (λ is h.
        let both : Some (one.key, n) ≡ Some (other.key, o) = sym one.here ∙ ap (slice_get m.entries) h ∙ other.here in
        let keys : one.key ≡ other.key = first_same (one.key, n) (other.key, o) both in
        let same : x ≡ y = sym one.is ∙ ap string_bytes keys ∙ other.is in
        is ∙ sym (ap (byte_order x) (sym same) ∙ tied_itself nat_list_cmp_total x))
        (λ is h. is ∙ sym (nat_list_cmp_total.antisymm x y ∙ ap ordering_reverse (below q p o n y x h other one)))

    pub all_ranked : (all left ranks : List ℕ) (count : ℕ) → all ≡ values m → left ≡ drop count all → left ≡ [] → length ranks ≡ length table →
        AreWritten all count ranks → AreRanks table ranks
    all_ranked all left ranks count is at none long written = record {
      count = long;
      order =
          λ one other in_one in_other.
          let first = place_of one in_one in
          let second = place_of other in_other in
          (λ i. nat_cmp (rank_is first.0 one (get_or table one []) ranks so_many now first.1 i) (rank_is second.0 other (get_or table other []) ranks so_many now second.1 i))
          ∙ placed first.0 second.0 one other (get_or table one []) (get_or table other []) first.1 second.1;
    }
      where
        so_many : length (values m) ≤ count
        so_many = let e = ap length is in let f = sym (length-drop count all) ∙ ap length (sym at ∙ none) in omega arith

        now : AreWritten (values m) count ranks
        now = subst (λ l. AreWritten l count ranks) is written
