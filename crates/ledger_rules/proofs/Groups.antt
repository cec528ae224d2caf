-- Which records have links that end at a record from which those of one with a visible row end.
use Rattle.std.proofs.Common.{◌≡◌, ℕ, ◌+◌, ◌<◌, ◌⊎◌, inl, inr, Bool, true, false, List, length, get_or, set, Option, sym, ◌∙◌, subst, arith, get_or-set_same, get_or-set_other}
use Rattle.std.specs.Prelude.{◌↔◌}
use Rattle.std.proofs.lemmas.Bool.{cases_eq, cases_lt, false≢true}
use Rattle.std.proofs.lemmas.List.{get_or_past, length-set}
use Rattle.ledger_rules.specs.Kept.{AreFlagsOf, AreEnds}
use Rattle.ledger_rules.proofs.Links.{kept_end, end_kept}

module _ (links : List (Option ℕ)) (seen : List Bool) (ends : List ℕ) where
  -- the links of one of the first i records, with a visible row, end there
  abbrev pub IsMarked : ℕ → ℕ → Type 0
  IsMarked i g = (j : ℕ) × (j < i) × (get_or seen j false ≡ true) × (get_or ends j 0 ≡ g)

  -- the marks that the first i records make
  pub record AreMarks (i : ℕ) (groups : List Bool) : Type 0 where
    pub long : length groups ≡ length links
    pub each : (g : ℕ) → g < length links → (get_or groups g false ≡ true) ↔ IsMarked i g

module _ (links : List (Option ℕ)) (seen : List Bool) (ends : List ℕ) (i : ℕ) (groups : List Bool)
    (marks : AreMarks links seen ends i groups) where
  mark_more : (g : ℕ) → IsMarked links seen ends i g → IsMarked links seen ends (i + 1) g
  mark_more g mark = let least = mark.1 in (mark.0, omega arith, mark.2, mark.3)

  mark_cases : (g : ℕ) → IsMarked links seen ends (i + 1) g → IsMarked links seen ends i g ⊎ ((get_or seen i false ≡ true) × (get_or ends i 0 ≡ g))
  mark_cases g mark = let least = mark.1 in elim (cases_lt mark.0 i) [
    | inl less ↦ inl (mark.0, less, mark.2, mark.3)
    | inr not ↦
        let same : mark.0 ≡ i = omega arith in
        inr (subst (λ j. get_or seen j false ≡ true) same mark.2, subst (λ j. get_or ends j 0 ≡ g) same mark.3)
  ]

  pub marks_unseen : get_or seen i false ≡ false → AreMarks links seen ends (i + 1) groups
  marks_unseen not = record {
    long = marks.long;
    each = λ g within. (
      λ is. mark_more g ((marks.each g within).0 is),
      λ mark. elim (mark_cases g mark) [
        | inl before ↦ (marks.each g within).1 before
        | inr here ↦ absurd (false≢true (sym not ∙ here.0))
      ],
    );
  }

  pub marks_seen : get_or seen i false ≡ true → (end : ℕ) → end ≡ get_or ends i 0 → end < length links → AreMarks links seen ends (i + 1) (set groups end true)
  marks_seen is end last inside =
      let long = marks.long in
      let there : get_or (set groups end true) end false ≡ true = get_or-set_same groups end true false (omega arith) in record {
        long = length-set groups end true ∙ marks.long;
        each = λ g within. elim (cases_eq g end) [
          | inl same ↦ (λ _. (i, omega arith, is, sym last ∙ sym same), λ _. subst (λ g. get_or (set groups end true) g false ≡ true) (sym same) there)
          | inr other ↦
              let stays : get_or (set groups end true) g false ≡ get_or groups g false = get_or-set_other groups end g true false other in (
                λ marked. mark_more g ((marks.each g within).0 (sym stays ∙ marked)),
                λ mark. elim (mark_cases g mark) [
                  | inl before ↦ stays ∙ (marks.each g within).1 before
                  | inr here ↦ absurd (other (sym here.1 ∙ sym last))
                ],
              )
        ];
      }

visible_within : (seen : List Bool) (j : ℕ) → get_or seen j false ≡ true → (n : ℕ) → length seen ≡ n → j < n
visible_within seen j is n same = elim (cases_lt j (length seen)) [
  | inl within ↦ omega arith
  | inr past ↦ let not : get_or seen j false ≡ false = get_or_past seen j false past in absurd (false≢true (sym not ∙ is))
]

-- where each flag is the mark of the record at which links end, the flags say what is kept
pub marks_flags : (links : List (Option ℕ)) (seen : List Bool) (ends : List ℕ) (groups flags : List Bool) → AreEnds links ends
    → length seen ≡ length links → AreMarks links seen ends (length links) groups → length flags ≡ length links
    → ((k : ℕ) → k < length links → get_or flags k false ≡ get_or groups (get_or ends k 0) false) → AreFlagsOf links seen flags
marks_flags links seen ends groups flags are same marks long each = record {
  long = long;
  each = λ k inside. (
    λ flag.
        let mark = (marks.each (get_or ends k 0) (are.within k inside)).0 (sym (each k inside) ∙ flag) in
        end_kept links (λ j. get_or seen j false) ends are mark.0 k mark.1 inside mark.2 (sym mark.3),
    λ kept.
        let there = kept_end links (λ j. get_or seen j false) ends are kept.0 k kept.1 in
        each k inside ∙ (marks.each (get_or ends k 0) (are.within k inside)).1
        (there.0, visible_within seen there.0 there.1 (length links) same, there.1, sym there.2),
  );
}
