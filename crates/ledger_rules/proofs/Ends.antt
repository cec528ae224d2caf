-- Where links end, found in two passes.
use Rattle.std.proofs.Common.{◌≡◌, ℕ, suc, ◌+◌, ◌<◌, ◌≤◌, List, length, get_or, set, Option, Some, None, sym, ap, ◌∙◌, subst, inl, inr, arith, get_or-set_same, get_or-set_other}
use Rattle.std.proofs.lemmas.Bool.{cases_eq, cases_lt}
use Rattle.std.proofs.lemmas.List.{length-set, get_or_past}
use Rattle.ledger_rules.specs.Kept.{link_at, along, AreOrdered, AreEnds}
use Rattle.ledger_rules.proofs.Links.{next_linked}

-- The links to later records are followed from this record on, and those to earlier ones in front of the other.
pub record AreFollowed (links : List (Option ℕ)) (least done : ℕ) (ends : List ℕ) : Type 0 where
  pub long : length ends ≡ length links
  pub within : (k : ℕ) → least ≤ k → k < length links → get_or ends k 0 < length links
  pub led : (k : ℕ) → least ≤ k → k < length links → (steps : ℕ) × (get_or ends k 0 ≡ along links steps k)
  pub up : (k l : ℕ) → least ≤ k → link_at links k ≡ Some l → k < l → get_or ends k 0 ≡ get_or ends l 0
  pub down : (k l : ℕ) → k < done → link_at links k ≡ Some l → l < k → get_or ends k 0 ≡ get_or ends l 0

linked_inside : (links : List (Option ℕ)) (k l : ℕ) → link_at links k ≡ Some l → k < length links
linked_inside links k l link = elim (cases_lt k (length links)) [
  | inl inside ↦ inside
  | inr past ↦ let none : link_at links k ≡ None = get_or_past links k None (omega arith) in absurd (cc)
]

module _ (links : List (Option ℕ)) (ends : List ℕ) (p : ℕ) (inside : p < length links) where
  -- the end of one record more, of which links to later ones are followed
  pub more_followed : (least : ℕ) → least ≡ suc p → AreFollowed links least 0 ends → (end : ℕ) → end < length links
      → (steps : ℕ) × (end ≡ along links steps p) → ((l : ℕ) → link_at links p ≡ Some l → p < l → end ≡ get_or ends l 0)
      → AreFollowed links p 0 (set ends p end)
  more_followed least is are end small led up =
      let long = are.long in
      let here : get_or (set ends p end) p 0 ≡ end = get_or-set_same ends p end 0 (omega arith) in
      let stays : (k : ℕ) → ¬ (k ≡ p) → get_or (set ends p end) k 0 ≡ get_or ends k 0 = λ k other. get_or-set_other ends p k end 0 other in
      record {
        long = length-set ends p end ∙ are.long;
        within = λ k from within. elim (cases_eq k p) [
          | inl same ↦ subst (λ j. get_or (set ends p end) j 0 < length links) (sym same) (subst (λ e. e < length links) (sym here) small)
          | inr other ↦ subst (λ e. e < length links) (sym (stays k other)) (are.within k (omega arith) within)
        ];
        led = λ k from within. elim (cases_eq k p) [
          | inl same ↦
              subst (λ j. (steps : ℕ) × (get_or (set ends p end) j 0 ≡ along links steps j)) (sym same) (led.0, here ∙ led.1)
          | inr other ↦ let before = are.led k (omega arith) within in (before.0, stays k other ∙ before.1)
        ];
        up = λ k l from link less. elim (cases_eq k p) [
          | inl same ↦
              let later : ¬ (l ≡ p) = λ e. absurd (omega arith) in
              let link_too : link_at links p ≡ Some l = subst (λ j. link_at links j ≡ Some l) same link in
              ap (λ j. get_or (set ends p end) j 0) same ∙ here ∙ up l link_too (omega arith) ∙ sym (stays l later)
          | inr other ↦
              let later : ¬ (l ≡ p) = λ e. absurd (omega arith) in
              stays k other ∙ are.up k l (omega arith) link less ∙ sym (stays l later)
        ];
        down = λ k l less link back. absurd (omega arith);
      }

  module _ (ordered : AreOrdered links) (are : AreFollowed links 0 p ends) where
    -- nothing is linked to a record that is linked to an earlier one
    not_back : (l k m : ℕ) → link_at links p ≡ Some l → l < p → link_at links k ≡ Some m → ¬ (m ≡ p)
    not_back l k m link back link_too same =
        ordered.start p l k link back (subst (λ j. link_at links k ≡ Some j) same link_too)

    -- one more of the links to earlier records is followed
    pub followed_back : (l : ℕ) → link_at links p ≡ Some l → l < p → AreFollowed links 0 (p + 1) (set ends p (get_or ends l 0))
    followed_back l link back =
        let end = get_or ends l 0 in
        let long = are.long in
        let least : l < length links = omega arith in
        let here : get_or (set ends p end) p 0 ≡ end = get_or-set_same ends p end 0 (omega arith) in
        let stays : (k : ℕ) → ¬ (k ≡ p) → get_or (set ends p end) k 0 ≡ get_or ends k 0 = λ k other. get_or-set_other ends p k end 0 other in
        record {
          long = length-set ends p end ∙ are.long;
          within = λ k from within. elim (cases_eq k p) [
            | inl same ↦
                subst (λ j. get_or (set ends p end) j 0 < length links) (sym same)
                (subst (λ e. e < length links) (sym here) (are.within l (omega arith) least))
            | inr other ↦ subst (λ e. e < length links) (sym (stays k other)) (are.within k from within)
          ];
          led = λ k from within. elim (cases_eq k p) [
            | inl same ↦
                let before = are.led l (omega arith) least in
                let next = next_linked links p l link in
                subst (λ j. (steps : ℕ) × (get_or (set ends p end) j 0 ≡ along links steps j)) (sym same)
                (suc before.0, here ∙ before.1 ∙ sym (ap (along links before.0) next))
            | inr other ↦ let before = are.led k from within in (before.0, stays k other ∙ before.1)
          ];
          up = λ k m from link_too less. elim (cases_eq k p) [
            | inl same ↦
                let at_p : link_at links p ≡ Some m = subst (λ j. link_at links j ≡ Some m) same link_too in
                let again : l ≡ m = cc in
                absurd (omega arith)
            | inr other ↦
                stays k other ∙ are.up k m from link_too less ∙ sym (stays m (not_back l k m link back link_too))
          ];
          down = λ k m less link_too before. elim (cases_eq k p) [
            | inl same ↦
                let at_p : link_at links p ≡ Some m = subst (λ j. link_at links j ≡ Some m) same link_too in
                let again : l ≡ m = cc in
                let other : ¬ (m ≡ p) = λ e. absurd (omega arith) in
                ap (λ j. get_or (set ends p end) j 0) same ∙ here ∙ ap (λ j. get_or ends j 0) again ∙ sym (stays m other)
            | inr other ↦
                stays k other ∙ are.down k m (omega arith) link_too before ∙ sym (stays m (not_back l k m link back link_too))
          ];
        }

  -- there was none to be followed
  pub followed_none : AreFollowed links 0 p ends → ((l : ℕ) → link_at links p ≡ Some l → l < p → ⊥) → AreFollowed links 0 (p + 1) ends
  followed_none are none = record {
    long = are.long;
    within = are.within;
    led = are.led;
    up = are.up;
    down = λ k l less link back. elim (cases_eq k p) [
      | inl same ↦
          absurd (none l (subst (λ j. link_at links j ≡ Some l) same link) (subst (λ j. l < j) same back))
      | inr other ↦ are.down k l (omega arith) link back
    ];
  }

-- all were followed
pub all_followed : (links : List (Option ℕ)) (ends : List ℕ) (done : ℕ) → AreOrdered links → AreFollowed links 0 done ends
    → length links ≤ done → AreEnds links ends
all_followed links ends done ordered are past = record {
  long = are.long;
  within = λ k inside. are.within k (omega arith) inside;
  led = λ k inside. are.led k (omega arith) inside;
  same = λ k l link. elim (cases_lt k l) [
    | inl less ↦ are.up k l (omega arith) link less
    | inr not ↦
        let inside = linked_inside links k l link in
        let other = ordered.other k l link in
        are.down k l (omega arith) link (elim (cases_eq l k) [ inl same ↦ absurd (other same) | inr different ↦ omega (arith, different) ])
  ];
}
