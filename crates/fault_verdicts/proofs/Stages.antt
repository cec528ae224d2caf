-- What is judged in stages has one verdict.
use Rattle.std.proofs.Common.{◌≡◌, ◌⊎◌, inl, inr, subst}
use Rattle.verdict_codes.specs.declared.codes.Verdict.{Verdict}

-- no two verdicts are right
abbrev pub IsOne : (Verdict → Type 0) → Type 0
IsOne Right = (v w : Verdict) → Right v → Right w → v ≡ w

-- a stage fails with a verdict, or passes with something that the next stages judge
abbrev pub Staged : {X : Type 0} → (Verdict → Type 0) → (X → Type 0) → (X → Verdict → Type 0) → Verdict → Type 0
Staged {X} Fails Passes Next v = Fails v ⊎ ((x : X) × Passes x × Next x v)

pub staged_one : {X : Type 0} (Fails : Verdict → Type 0) (Passes : X → Type 0) (Next : X → Verdict → Type 0) → IsOne Fails →
    ((v : Verdict) (x : X) → Fails v → Passes x → ⊥) → ((x y : X) → Passes x → Passes y → x ≡ y) → ((x : X) → IsOne (Next x)) →
    IsOne (Staged Fails Passes Next)
staged_one Fails Passes Next one apart same next v w (inl f) (inl g) = one v w f g
staged_one Fails Passes Next one apart same next v w (inl f) (inr h) = absurd (apart v h.0 f h.1)
staged_one Fails Passes Next one apart same next v w (inr h) (inl g) = absurd (apart w h.0 g h.1)
staged_one Fails Passes Next one apart same next v w (inr h) (inr k) =
    next k.0 v w (subst (λ x. Next x v) (same h.0 k.0 h.1 k.1) h.2) k.2

-- what passes, and whose next stages have no verdict, has none
pub staged_none : {X : Type 0} (Fails : Verdict → Type 0) (Passes : X → Type 0) (Next : X → Verdict → Type 0) →
    ((v : Verdict) (x : X) → Fails v → Passes x → ⊥) → ((x y : X) → Passes x → Passes y → x ≡ y) → (x : X) → Passes x →
    ((v : Verdict) → Next x v → ⊥) → (v : Verdict) → Staged Fails Passes Next v → ⊥
staged_none Fails Passes Next apart same x p none v (inl f) = apart v x f p
staged_none Fails Passes Next apart same x p none v (inr h) = none v (subst (λ y. Next y v) (same h.0 x h.1 p) h.2)
