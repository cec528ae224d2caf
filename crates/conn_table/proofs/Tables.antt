-- The table of the connections in the slots of a slab.
use Rattle.std.proofs.Common.{◌≡◌, ◌≢◌, ◌⊎◌, ℕ, zero, suc, pred, ◌+◌, true, false, List, [], ◌∷◌, get_or, Option, Some, None, is_some, cond, count_by, refl, sym, ap, ◌∙◌, inl, inr, arith}
use Rattle.std.proofs.lemmas.Bool.{cases_eq}
use Rattle.std.proofs.lemmas.List.Sums.{sum_by-cons}
use Rattle.std.specs.Prelude.{map, filter_map}
use Rattle.std.specs.Ordering.{nat_cmp, eq_by_cmp}
use Rattle.std.specs.Cmp.{unsigned_tied, nat_cmp_total}
use Rattle.std.specs.FinMap as finite
use Rattle.slab.specs.Slab.{Slab, get, slab_len, Updates}
use Rattle.conn_table.specs.Kept.{Kept, table_of, AreDistinct}
use Rattle.conn_table.specs.Table.{Table}

-- ---- the order of numbers

pub tied : (x y : ℕ) → x ≡ y → eq_by_cmp nat_cmp x y ≡ true
tied x y same = unsigned_tied x y ∙ grind arith

pub apart : (x y : ℕ) → x ≢ y → eq_by_cmp nat_cmp x y ≡ false
apart x y differs = unsigned_tied x y ∙ grind arith

-- ---- what a look-up finds

abbrev pairs : List (Option Kept) → List (ℕ × List ℕ)
pairs slots = map (λ kept. (kept.conn, kept.bytes)) (filter_map (λ slot. slot) slots)

-- no slot holds this connection
abbrev pub IsAbsent : List (Option Kept) → ℕ → Type 0
IsAbsent slots conn = (at : ℕ) (other : Kept) → get_or slots at None ≡ Some other → other.conn ≢ conn

-- each slot with the number of this one holds the same
abbrev pub IsAlone : List (Option Kept) → Kept → Type 0
IsAlone slots kept = (at : ℕ) (other : Kept) → get_or slots at None ≡ Some other → other.conn ≡ kept.conn → other ≡ kept

found_in : (slots : List (Option Kept)) (at : ℕ) (kept : Kept) → get_or slots at None ≡ Some kept → IsAlone slots kept
    → finite.find nat_cmp kept.conn (pairs slots) ≡ Some kept.bytes
found_in [] at kept held alone = absurd (cc)
found_in (None ∷ rest) zero kept held alone = absurd (cc)
found_in (None ∷ rest) (suc at) kept held alone = found_in rest at kept held (λ k other there. alone (suc k) other there)
found_in (Some first ∷ rest) zero kept held alone =
    let same : first ≡ kept = cc in
    ap (λ b. cond b (Some first.bytes) (finite.find nat_cmp kept.conn (pairs rest))) (tied kept.conn first.conn (ap (λ k. k.conn) (sym same)))
    ∙ ap (λ k. Some k.bytes) same
found_in (Some first ∷ rest) (suc at) kept held alone =
    elim (cases_eq first.conn kept.conn) [
      | inl same ↦
          ap (λ b. cond b (Some first.bytes) (finite.find nat_cmp kept.conn (pairs rest))) (tied kept.conn first.conn (sym same))
          ∙ ap (λ k. Some k.bytes) (alone zero first refl same)
      | inr differs ↦
          ap (λ b. cond b (Some first.bytes) (finite.find nat_cmp kept.conn (pairs rest))) (apart kept.conn first.conn (λ same. differs (sym same)))
          ∙ found_in rest at kept held (λ k other there. alone (suc k) other there)
    ]

absent_in : (slots : List (Option Kept)) (conn : ℕ) → IsAbsent slots conn → finite.find nat_cmp conn (pairs slots) ≡ None
absent_in [] conn absent = refl
absent_in (None ∷ rest) conn absent = absent_in rest conn (λ k other there. absent (suc k) other there)
absent_in (Some first ∷ rest) conn absent =
    ap (λ b. cond b (Some first.bytes) (finite.find nat_cmp conn (pairs rest))) (apart conn first.conn (λ same. absent zero first refl (sym same)))
    ∙ absent_in rest conn (λ k other there. absent (suc k) other there)

pub get-found : (slots : List (Option Kept)) (at : ℕ) (kept : Kept) → get_or slots at None ≡ Some kept → IsAlone slots kept
    → finite.get (table_of slots) kept.conn ≡ Some kept.bytes
get-found slots at kept held alone = finite.get-from_entries nat_cmp_total (pairs slots) kept.conn ∙ found_in slots at kept held alone

pub get-absent : (slots : List (Option Kept)) (conn : ℕ) → IsAbsent slots conn → finite.get (table_of slots) conn ≡ None
get-absent slots conn absent = finite.get-from_entries nat_cmp_total (pairs slots) conn ∙ absent_in slots conn absent

-- a connection is in a slot, or in none
abbrev IsHeld : List (Option Kept) → ℕ → Type 0
IsHeld slots conn = (at : ℕ) × (kept : Kept) × (get_or slots at None ≡ Some kept) × (kept.conn ≡ conn)

pub held_or_absent : (slots : List (Option Kept)) (conn : ℕ) → IsHeld slots conn ⊎ IsAbsent slots conn
held_or_absent [] conn = inr (λ at other there. absurd (cc))
held_or_absent (slot ∷ rest) conn =
    elim (held_or_absent rest conn) [
      | inl held ↦ inl (suc held.0, held.1, held.2, held.3)
      | inr absent ↦ first_slot slot rest conn absent
    ]
  where
    later : (slot : Option Kept) (rest : List (Option Kept)) (conn : ℕ) → IsAbsent rest conn → ((kept : Kept) → slot ≡ Some kept → kept.conn ≢ conn) → IsAbsent (slot ∷ rest) conn
    later slot rest conn absent here zero other there = here other there
    later slot rest conn absent here (suc at) other there = absent at other there

    first_slot : (slot : Option Kept) (rest : List (Option Kept)) (conn : ℕ) → IsAbsent rest conn → IsHeld (slot ∷ rest) conn ⊎ IsAbsent (slot ∷ rest) conn
    first_slot None rest conn absent = inr (later None rest conn absent (λ kept there. absurd (cc)))
    first_slot (Some kept) rest conn absent =
        elim (cases_eq kept.conn conn) [
          | inl same ↦ inl (zero, kept, refl, same)
          | inr differs ↦ inr (later (Some kept) rest conn absent (λ other there same. differs (ap (λ k. k.conn) (some_same kept other there) ∙ same)))
        ]
      where
        some_same : (a b : Kept) → Some a ≡ Some b → a ≡ b
        some_same a b e = cc

some_same : {X : Type 0} (a b : X) → Some a ≡ Some b → a ≡ b
some_same a b e = cc

-- ---- the table of a slab whose connections are distinct

pub alone_by : (s : Slab Kept) (at : ℕ) (kept : Kept) → AreDistinct s → get s at ≡ Some kept → IsAlone s.slots kept
alone_by s at kept distinct held k other there same = some_same other kept (sym there ∙ ap (get s) (distinct k at other kept there held same) ∙ held)

pub holds : (s : Slab Kept) (at : ℕ) (kept : Kept) → AreDistinct s → get s at ≡ Some kept → finite.get (table_of s.slots) kept.conn ≡ Some kept.bytes
holds s at kept distinct held = get-found s.slots at kept held (alone_by s at kept distinct held)

-- what the table does not hold is in no slot
pub absent_by : (s : Slab Kept) (conn : ℕ) → AreDistinct s → finite.get (table_of s.slots) conn ≡ None → IsAbsent s.slots conn
absent_by s conn distinct none =
    elim (held_or_absent s.slots conn) [
      | inl held ↦ absurd (differ _ (sym (holds s held.0 held.1 distinct held.2) ∙ ap (finite.get (table_of s.slots)) held.3 ∙ none))
      | inr absent ↦ absent
    ]
  where
    differ : (bytes : List ℕ) → Some bytes ≡ None → ⊥
    differ bytes e = cc

-- as many are in the table as in the slab
AreDistinctIn : List (Option Kept) → Type 0
AreDistinctIn slots = (a b : ℕ) (one other : Kept) → get_or slots a None ≡ Some one → get_or slots b None ≡ Some other → one.conn ≡ other.conn → a ≡ b

len_in : (slots : List (Option Kept)) → AreDistinctIn slots → finite.len (table_of slots) ≡ count_by is_some slots
unfolding AreDistinctIn
len_in [] distinct = finite.len-empty nat_cmp (List ℕ)
len_in (None ∷ rest) distinct =
    omega (arith, len_in rest (λ a b one other p q same. ap pred (distinct (suc a) (suc b) one other p q same)), sum_by-cons (λ o. cond (is_some o) 1 0) None rest)
len_in (Some kept ∷ rest) distinct =
    let fewer = len_in rest (λ a b one other p q same. ap pred (distinct (suc a) (suc b) one other p q same)) in
    let none = get-absent rest kept.conn (λ at other there same. absurd (omega (arith, distinct (suc at) zero other kept there refl same))) in
    let more : finite.len (table_of (Some kept ∷ rest)) ≡ finite.len (table_of rest) + 1 =
    finite.len-insert nat_cmp_total (table_of rest) kept.conn kept.bytes
    ∙ ap (λ o. cond (is_some o) (finite.len (table_of rest)) (finite.len (table_of rest) + 1)) none in
    omega (arith, fewer, more, sum_by-cons (λ o. cond (is_some o) 1 0) (Some kept) rest)

pub len_table : (s : Slab Kept) → AreDistinct s → finite.len (table_of s.slots) ≡ slab_len s
unfolding AreDistinctIn
len_table s distinct = len_in s.slots distinct

-- two tables with the same look-ups are one
same_table : (m n : Table) → ((q : ℕ) → finite.get m q ≡ finite.get n q) → m ≡ n
same_table m n same = finite.same_map nat_cmp_total finite.nat_cmp-IsAntisymmetric m n same

pub insert_same : (m : Table) (conn : ℕ) (bytes : List ℕ) → finite.get m conn ≡ Some bytes → finite.insert m conn bytes ≡ m
insert_same m conn bytes held = same_table _ _ (λ q. finite.get-insert nat_cmp_total m conn bytes q ∙ at q)
  where
    at : (q : ℕ) → cond (eq_by_cmp nat_cmp q conn) (Some bytes) (finite.get m q) ≡ finite.get m q
    at q =
        elim (cases_eq q conn) [
          | inl same ↦ ap (λ b. cond b (Some bytes) (finite.get m q)) (tied q conn same) ∙ sym held ∙ ap (finite.get m) (sym same)
          | inr differs ↦ ap (λ b. cond b (Some bytes) (finite.get m q)) (apart q conn differs)
        ]

pub remove_absent : (m : Table) (conn : ℕ) → finite.get m conn ≡ None → m ≡ finite.remove m conn
remove_absent m conn none = sym (same_table _ _ (λ q. finite.get-remove nat_cmp_total m conn q ∙ at q))
  where
    at : (q : ℕ) → cond (eq_by_cmp nat_cmp q conn) None (finite.get m q) ≡ finite.get m q
    at q =
        elim (cases_eq q conn) [
          | inl same ↦ ap (λ b. cond b None (finite.get m q)) (tied q conn same) ∙ sym none ∙ ap (finite.get m) (sym same)
          | inr differs ↦ ap (λ b. cond b None (finite.get m q)) (apart q conn differs)
        ]

-- ---- a connection is put into a slot that was empty or had it

module _ (old new : Slab Kept) (key : ℕ) (kept : Kept) (distinct : AreDistinct old) (updates : Updates old new key (Some kept))
    (only : (at : ℕ) (other : Kept) → get old at ≡ Some other → other.conn ≡ kept.conn → at ≡ key)
    (was : (other : Kept) → get old key ≡ Some other → other.conn ≡ kept.conn) where
  in_new : (at : ℕ) (other : Kept) → get new at ≡ Some other → ((at ≡ key) × (other ≡ kept)) ⊎ ((at ≢ key) × (get old at ≡ Some other))
  in_new at other there =
      elim (cases_eq at key) [
        | inl same ↦ inl (same, some_same other kept (sym there ∙ ap (get new) same ∙ updates.changed))
        | inr differs ↦ inr (differs, sym (updates.others at differs) ∙ there)
      ]

  pub distinct_with : AreDistinct new
  distinct_with a b one other p q same =
      elim (in_new a one p) [
        | inl first ↦ elim (in_new b other q) [
          | inl second ↦ first.0 ∙ sym second.0
          | inr second ↦ absurd (second.0 (only b other second.1 (sym same ∙ ap (λ k. k.conn) first.1)))
        ]
        | inr first ↦ elim (in_new b other q) [
          | inl second ↦ absurd (first.0 (only a one first.1 (same ∙ ap (λ k. k.conn) second.1)))
          | inr second ↦ distinct a b one other first.1 second.1 same
        ]
      ]

  get_with : (q : ℕ) → finite.get (table_of new.slots) q ≡ cond (eq_by_cmp nat_cmp q kept.conn) (Some kept.bytes) (finite.get (table_of old.slots) q)
  get_with q =
      elim (cases_eq q kept.conn) [
        | inl same ↦
            ap (finite.get (table_of new.slots)) same ∙ holds new key kept distinct_with updates.changed
            ∙ sym (ap (λ b. cond b (Some kept.bytes) (finite.get (table_of old.slots) q)) (tied q kept.conn same))
        | inr differs ↦ elsewhere differs (held_or_absent old.slots q) ∙ sym (ap (λ b. cond b (Some kept.bytes) (finite.get (table_of old.slots) q)) (apart q kept.conn differs))
      ]
    where
      elsewhere : q ≢ kept.conn → IsHeld old.slots q ⊎ IsAbsent old.slots q → finite.get (table_of new.slots) q ≡ finite.get (table_of old.slots) q
      elsewhere differs (inl held) =
          let stays : held.0 ≢ key = λ e. differs (sym held.3 ∙ was held.1 (ap (get old) (sym e) ∙ held.2)) in
          ap (finite.get (table_of new.slots)) (sym held.3)
          ∙ holds new held.0 held.1 distinct_with (updates.others held.0 stays ∙ held.2)
          ∙ sym (ap (finite.get (table_of old.slots)) (sym held.3) ∙ holds old held.0 held.1 distinct held.2)
      elsewhere differs (inr absent) =
          get-absent new.slots q (λ at other there same. elim (in_new at other there) [
            | inl here ↦ differs (sym same ∙ ap (λ k. k.conn) here.1)
            | inr there ↦ absent at other there.1 same
          ])
          ∙ sym (get-absent old.slots q absent)

  pub table_with : table_of new.slots ≡ finite.insert (table_of old.slots) kept.conn kept.bytes
  table_with = same_table _ _ (λ q. get_with q ∙ sym (finite.get-insert nat_cmp_total (table_of old.slots) kept.conn kept.bytes q))

-- ---- a connection is taken out of its slot

module _ (old new : Slab Kept) (key : ℕ) (kept : Kept) (distinct : AreDistinct old) (held : get old key ≡ Some kept) (updates : Updates old new key None) where
  in_left : (at : ℕ) (other : Kept) → get new at ≡ Some other → (at ≢ key) × (get old at ≡ Some other)
  in_left at other there =
      let differs : at ≢ key = λ same. nothing other (sym updates.changed ∙ ap (get new) (sym same) ∙ there) in
      (differs, sym (updates.others at differs) ∙ there)
    where
      nothing : (other : Kept) → None ≡ Some other → ⊥
      nothing other e = cc

  pub distinct_without : AreDistinct new
  distinct_without a b one other p q same = distinct a b one other (in_left a one p).1 (in_left b other q).1 same

  get_without : (q : ℕ) → finite.get (table_of new.slots) q ≡ cond (eq_by_cmp nat_cmp q kept.conn) None (finite.get (table_of old.slots) q)
  get_without q =
      elim (cases_eq q kept.conn) [
        | inl same ↦
            get-absent new.slots q (λ at other there here. (in_left at other there).0 (distinct at key other kept (in_left at other there).1 held (here ∙ same)))
            ∙ sym (ap (λ b. cond b None (finite.get (table_of old.slots) q)) (tied q kept.conn same))
        | inr differs ↦ elsewhere differs (held_or_absent old.slots q) ∙ sym (ap (λ b. cond b None (finite.get (table_of old.slots) q)) (apart q kept.conn differs))
      ]
    where
      elsewhere : q ≢ kept.conn → IsHeld old.slots q ⊎ IsAbsent old.slots q → finite.get (table_of new.slots) q ≡ finite.get (table_of old.slots) q
      elsewhere differs (inl there) =
          let stays : there.0 ≢ key = λ e. differs (sym there.3 ∙ ap (λ k. k.conn) (some_same there.1 kept (sym there.2 ∙ ap (get old) e ∙ held))) in
          ap (finite.get (table_of new.slots)) (sym there.3)
          ∙ holds new there.0 there.1 distinct_without (updates.others there.0 stays ∙ there.2)
          ∙ sym (ap (finite.get (table_of old.slots)) (sym there.3) ∙ holds old there.0 there.1 distinct there.2)
      elsewhere differs (inr absent) =
          get-absent new.slots q (λ at other there same. absent at other (in_left at other there).1 same) ∙ sym (get-absent old.slots q absent)

  pub table_without : table_of new.slots ≡ finite.remove (table_of old.slots) kept.conn
  table_without = same_table _ _ (λ q. get_without q ∙ sym (finite.get-remove nat_cmp_total (table_of old.slots) kept.conn q))
