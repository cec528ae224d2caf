-- Where links end, and what is kept by them.
use Rattle.std.proofs.Common.{◌≡◌, ℕ, zero, suc, ◌<◌, ◌⊎◌, inl, inr, ◌==◌, Bool, true, false, List, length, get_or, Option, Some, None, refl, sym, ap, ◌∙◌, subst}
use Rattle.std.proofs.lemmas.Bool.{eqb-true}
use Rattle.std.proofs.lemmas.Bool.Decides.{Decides-eqb}
use Rattle.ledger_rules.specs.Kept.{IsKeptIn, IsKept, link_at, is_link, next_of, along, AreEnds}

pub option_cases : (o : Option ℕ) → (o ≡ None) ⊎ ((x : ℕ) × (o ≡ Some x))
option_cases None = inl refl
option_cases (Some x) = inr (x, refl)

module _ (links : List (Option ℕ)) where
  pub next_linked : (k l : ℕ) → link_at links k ≡ Some l → next_of links k ≡ l
  next_linked k l is = rw is refl

  pub next_unlinked : (k : ℕ) → link_at links k ≡ None → next_of links k ≡ k
  next_unlinked k none = rw none refl

  -- where the next is another record, it is the one that is linked
  pub linked_next : (k : ℕ) → ¬ (next_of links k ≡ k) → link_at links k ≡ Some (next_of links k)
  linked_next k other = elim (option_cases (link_at links k)) [
    | inl none ↦ absurd (other (next_unlinked k none))
    | inr some ↦ some.1 ∙ ap Some (sym (next_linked k some.0 some.1))
  ]

  from_link : (j k : ℕ) → is_link links j k ≡ true → link_at links k ≡ Some j
  unfolding is_link
  from_link j k is = elim (option_cases (link_at links k)) [
    | inl none ↦ let not : is_link links j k ≡ false = rw none refl in cc
    | inr some ↦
        let test : is_link links j k ≡ (some.0 == j) = rw (some.1) refl in
        some.1 ∙ ap Some (eqb-true some.0 j (sym test ∙ is))
  ]

  to_link : (j k : ℕ) → link_at links k ≡ Some j → is_link links j k ≡ true
  unfolding is_link
  to_link j k is = rw is ((Decides-eqb j j).1 refl)

  module _ (seen : ℕ → Bool) where
    -- links from what is kept end where those of a record with a visible row do
    pub kept_end : (ends : List ℕ) → AreEnds links ends → (steps k : ℕ) → IsKeptIn seen (is_link links) steps k
        → (j : ℕ) × (seen j ≡ true) × (get_or ends k 0 ≡ get_or ends j 0)
    kept_end ends are zero k is = (k, is, refl)
    kept_end ends are (suc steps) k (inl kept) = kept_end ends are steps k kept
    kept_end ends are (suc steps) k (inr (j, inl names, kept)) =
        let there = kept_end ends are steps j kept in
        (there.0, there.1, are.same k j (from_link j k names) ∙ there.2)
    kept_end ends are (suc steps) k (inr (j, inr named, kept)) =
        let there = kept_end ends are steps j kept in
        (there.0, there.1, sym (are.same j k (from_link k j named)) ∙ there.2)

    next_kept : (k : ℕ) → IsKept seen (is_link links) k → IsKept seen (is_link links) (next_of links k)
    next_kept k kept = elim (option_cases (link_at links k)) [
      | inl none ↦ subst (IsKept seen (is_link links)) (sym (next_unlinked k none)) kept
      | inr some ↦ subst (IsKept seen (is_link links)) (sym (next_linked k some.0 some.1)) (suc kept.0, inr (k, inr (to_link some.0 k some.1), kept.1))
    ]

    kept_next : (k : ℕ) → IsKept seen (is_link links) (next_of links k) → IsKept seen (is_link links) k
    kept_next k kept = elim (option_cases (link_at links k)) [
      | inl none ↦ subst (IsKept seen (is_link links)) (next_unlinked k none) kept
      | inr some ↦
          let there = subst (IsKept seen (is_link links)) (next_linked k some.0 some.1) kept in
          (suc there.0, inr (some.0, inl (to_link some.0 k some.1), there.1))
    ]

    along_kept : (steps k : ℕ) → IsKept seen (is_link links) k → IsKept seen (is_link links) (along links steps k)
    along_kept zero k kept = kept
    along_kept (suc steps) k kept = along_kept steps (next_of links k) (next_kept k kept)

    kept_along : (steps k : ℕ) → IsKept seen (is_link links) (along links steps k) → IsKept seen (is_link links) k
    kept_along zero k kept = kept
    kept_along (suc steps) k kept = kept_next k (kept_along steps (next_of links k) kept)

    -- what ends there is kept
    pub end_kept : (ends : List ℕ) → AreEnds links ends → (j k : ℕ) → j < length links → k < length links → seen j ≡ true
        → get_or ends k 0 ≡ get_or ends j 0 → IsKept seen (is_link links) k
    end_kept ends are j k inside inside_too is same =
        let to = are.led j inside in
        let from = are.led k inside_too in
        kept_along from.0 k (subst (IsKept seen (is_link links)) (sym to.1 ∙ sym same ∙ from.1) (along_kept to.0 j (0, is)))
