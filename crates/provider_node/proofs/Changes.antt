-- What a request does to a ledger that stays whole.
use Rattle.std.specs.Prelude.{Some}
use Rattle.std.proofs.Common.{◌≡◌, inl, inr, ℕ, true, false, sym, subst, refl, ◌∙◌}
use Rattle.http_wire.specs.declared.answer.Answer.{Answer}
use Rattle.http_wire.specs.Requests.{Request}
use Rattle.record_ledger.specs.Rules.{RecordRules}
use Rattle.record_ledger.specs.Ledger.{Held}
use Rattle.record_ledger.specs.Compacting.{Compacts}
use Rattle.provider_node.specs.Changes.{Anew, Changes, More, Nothing}
use Rattle.provider_node.specs.Step as steps
use Rattle.provider_node.specs.Step.{AnswersBy, Provider, Serves}

module _ {Setup R : Type 0} (rules : RecordRules R) (Answers : AnswersBy Setup R) (found : Held R) (request : Request)
    (now : ℕ) (Risen : Type 0) (answer : Answer) (old new : Provider Setup R) (IsRight : Held R → R → Type 0)
    (right : (held : Held R) (r : R) → Answers old.setup held request now answer (Some r) → IsRight held r)
    (unbroken : new.ledger.broken ≡ false) where
  pub changes : Serves rules Answers found request now Risen answer old new
      → Changes rules IsRight now found new.ledger.held
  changes (steps.Plain answers whole) = Nothing whole.is
  changes (steps.Recorded r answers place whole) = More found r (inl refl) whole.is (right found r answers)
  changes (steps.RecordedAfterCompaction held r room answers place whole) =
      More held r (inr room.made) whole.is (right held r answers)
  changes (steps.NoPlace held r another room answers still is whole) =
      Anew (subst (λ (h : Held R). Compacts rules now found h) (sym whole.is) room.made)
  changes (steps.Failed wanted other wants risen is broken) =
      absurd (let clash : true ≡ false = sym broken.is_broken ∙ unbroken in cc)
  changes (steps.Starved held (inl same) is whole) = Nothing (whole.is ∙ same)
  changes (steps.Starved held (inr room) is whole) =
      Anew (subst (λ (h : Held R). Compacts rules now found h) (sym whole.is) room.made)
