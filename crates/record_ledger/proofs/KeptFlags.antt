-- Flags that say what is kept, as marks of the records.
use Rattle.std.proofs.Common.{◌≡◌, ℕ, suc, ◌<◌, Bool, true, false, nat_lt, cond, List, [], ◌∷◌, length, slice_index_or, slice_get, Some, refl, sym, ap, ◌∙◌, inl, inr, arith}
use Rattle.std.proofs.lemmas.Bool.{cases_Bool, false≢true, false_from_ne_true, and_from, lt-ltb}
use Rattle.std.proofs.lemmas.Option.{slice_get_within}
use Rattle.ledger_rules.specs.Kept.{selected}
use Rattle.record_ledger.specs.Rules.{RecordRules}
use Rattle.record_ledger.specs.Compacting.{passes, relates_at, seen_at, names_at, AreKept}
use Rattle.record_ledger.specs.Marks.{Each, Marked, all, kept, KeepsAll, AreClosed}

same_flags : (a b : Bool) → (a ≡ true → b ≡ true) → (b ≡ true → a ≡ true) → a ≡ b
same_flags a b there back =
    elim (cases_Bool a) [
      | inl is ↦ is ∙ sym (there is)
      | inr none ↦ none ∙ sym (false_from_ne_true b (λ is. false≢true (sym none ∙ back is)))
    ]

module _ {R : Type 0} where
  abbrev pub marked : List Bool → List R → List (Marked R)
  marked [] records = []
  marked (flag ∷ flags) [] = []
  marked (flag ∷ flags) (r ∷ records) = (flag, r) ∷ marked flags records

  all_marked : (flags : List Bool) (records : List R) → length flags ≡ length records → all (marked flags records) ≡ records
  all_marked [] [] long = refl
  all_marked [] (r ∷ records) long = absurd (omega arith)
  all_marked (flag ∷ flags) [] long = absurd (omega arith)
  all_marked (flag ∷ flags) (r ∷ records) long = ap (λ rest. r ∷ rest) (all_marked flags records (omega arith))

  kept_marked : (flags : List Bool) (records : List R) → kept (marked flags records) ≡ selected flags records
  kept_marked [] records = refl
  kept_marked (flag ∷ flags) [] = refl
  kept_marked (flag ∷ flags) (r ∷ records) = ap (λ rest. cond flag (r ∷ rest) rest) (kept_marked flags records)

  -- what holds at each place holds of each
  each_marked : (P : Marked R → Type 0) (flags : List Bool) (records : List R)
      → ((k : ℕ) (r : R) → slice_get records k ≡ Some r → P (slice_index_or flags k false, r)) → Each P (marked flags records)
  each_marked P [] records each = tt
  each_marked P (flag ∷ flags) [] each = tt
  each_marked P (flag ∷ flags) (r ∷ records) each = (each 0 r refl, each_marked P flags records (λ k x is. each (suc k) x is))

module _ {R : Type 0} (rules : RecordRules R) where
  closed_marked : (flags : List Bool) (records : List R)
      → ((i j : ℕ) (x y : R) → i < j → slice_get records i ≡ Some x → slice_get records j ≡ Some y → rules.names y x ≡ true
      → slice_index_or flags j false ≡ slice_index_or flags i false)
      → AreClosed rules (marked flags records)
  closed_marked [] records link = tt
  closed_marked (flag ∷ flags) [] link = tt
  closed_marked (flag ∷ flags) (r ∷ records) link = (
    each_marked (λ (n : Marked R). rules.names n.1 r ≡ true → n.0 ≡ flag) flags records
        (λ k y is named. link 0 (suc k) r y (omega arith) refl is named),
    closed_marked flags records (λ i j x y less is is_too named. link (suc i) (suc j) x y (omega arith) is is_too named),
  )

  -- Marks of records of which some are kept.
  pub record AreMarked (now horizon : ℕ) (records some : List R) : Type 0 where
    pub marks : List (Marked R)
    pub are_all : all marks ≡ records
    pub are_kept : kept marks ≡ some
    pub visible : KeepsAll (rules.has_visible now horizon) marks
    pub closed : AreClosed rules marks

  module _ (now horizon : ℕ) (records some : List R) (are : AreKept rules now horizon records some) where
    seen_flag : (k : ℕ) (r : R) → slice_get records k ≡ Some r → rules.has_visible now horizon r ≡ true → slice_index_or are.flags k false ≡ true
    seen_flag k r there here =
        let seen : seen_at rules now horizon records k ≡ true = ap (passes (rules.has_visible now horizon)) there ∙ here in
        (are.each k (slice_get_within records k r there)).1 (0, seen)

    names_there : (i j : ℕ) (x y : R) → i < j → slice_get records i ≡ Some x → slice_get records j ≡ Some y → rules.names y x ≡ true
        → names_at rules records j i ≡ true
    unfolding relates_at
    names_there i j x y less is is_too named =
        and_from (nat_lt i j) (passes (λ later. passes (rules.names later) (slice_get records i)) (slice_get records j)) (lt-ltb i j less)
        (ap (passes (λ later. passes (rules.names later) (slice_get records i))) is_too ∙ ap (passes (rules.names y)) is ∙ named)

    closed_flags : (i j : ℕ) (x y : R) → i < j → slice_get records i ≡ Some x → slice_get records j ≡ Some y → rules.names y x ≡ true
        → slice_index_or are.flags j false ≡ slice_index_or are.flags i false
    closed_flags i j x y less is is_too named =
        let link = names_there i j x y less is is_too named in
        let first = are.each i (slice_get_within records i x is) in
        let second = are.each j (slice_get_within records j y is_too) in
        same_flags (slice_index_or are.flags j false) (slice_index_or are.flags i false)
        (λ set. let of = second.0 set in first.1 (suc of.0, inr (j, inl link, of.1)))
        (λ set. let of = first.0 set in second.1 (suc of.0, inr (i, inr link, of.1)))

    pub are_marked : AreMarked now horizon records some
    are_marked = record {
      marks = marked are.flags records;
      are_all = all_marked are.flags records are.long;
      are_kept = kept_marked are.flags records ∙ sym are.are;
      visible = each_marked (λ (m : Marked R). rules.has_visible now horizon m.1 ≡ true → m.0 ≡ true) are.flags records seen_flag;
      closed = closed_marked are.flags records closed_flags;
    }
