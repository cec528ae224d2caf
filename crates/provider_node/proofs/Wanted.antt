-- That a record which is wanted wherever a request is answered over a ledger, and for which there is room, is added.
use Rattle.std.specs.Prelude.{Option, None, Some}
use Rattle.std.proofs.Common.{◌≡◌, ◌⊎◌, inl, inr, ℕ, refl, sym, subst, ap, ◌∙◌}
use Rattle.http_wire.specs.declared.answer.Answer.{Answer}
use Rattle.http_wire.specs.declared.answer.Answer.TheVariants.{Fixed}
use Rattle.http_wire.specs.Requests.{Request}
use Rattle.record_ledger.specs.Rules.{RecordRules, AreRecords}
use Rattle.record_ledger.specs.Ledger.{Held, held_with}
use Rattle.record_ledger.specs.Compacting.{Compacts}
use Rattle.provider_node.specs.Room.{HasRoom, IsRecordedOver}
use Rattle.provider_node.specs.Step as steps
use Rattle.provider_node.specs.Step.{AnswersBy, HasPlace, MakesRoom, Provider, Serves}
use Rattle.provider_node.specs.declared.codes.TheConstants.{NO_MEMORY}
use Rattle.provider_node.proofs.Alike.{CompactionsAnswerAlike, alike}

module _ {R : Type 0} (rules : RecordRules R) (found : Held R) (now : ℕ) where
  -- the ledger that was found or, where it is one of records, what a compaction at the moment makes of it
  abbrev pub IsBehind : Held R → Type 0
  IsBehind held = (held ≡ found) ⊎ (AreRecords rules found.records × Compacts rules now found held)

  -- all that may be asked of the rows is answered there as in the one that was found
  pub alike_behind : (AnswerAlike : (now : ℕ) → (one other : Held R) → Type 0)
      → ((now : ℕ) (held : Held R) → AnswerAlike now held held) → CompactionsAnswerAlike rules AnswerAlike
      → (held : Held R) → IsBehind held → AnswerAlike now held found
  alike_behind AnswerAlike itself law held (inl same) =
      subst (λ (h : Held R). AnswerAlike now h found) (sym same) (itself now found)
  alike_behind AnswerAlike itself law held (inr (are, made)) =
      alike rules AnswerAlike itself law now found held are made

module _ {Setup R : Type 0} (rules : RecordRules R) (Answers : AnswersBy Setup R) (found : Held R) (request : Request)
    (now : ℕ) (Risen : Type 0) (answer : Answer) (old new : Provider Setup R) (recorded : Held R → R) where
  -- it is added with the answer, over this ledger
  pub record IsAdded : Type 0 where
    pub held : Held R
    pub over : IsRecordedOver rules found now recorded held
    pub behind : IsBehind rules found now held
    pub answers : Answers old.setup held request now answer (Some (recorded held))
    pub added : new.ledger.held ≡ held_with (recorded held) held

  module _ (wanted : (held : Held R) → IsBehind rules found now held → (other : Answer) (adds : Option R)
      → Answers old.setup held request now other adds → adds ≡ Some (recorded held)) where
    its_own : (held : Held R) → IsBehind rules found now held
        → (other : Answer) (r : R) → Answers old.setup held request now other (Some r) → recorded held ≡ r
    its_own held behind other r answers =
        let same : Some (recorded held) ≡ Some r = sym (wanted held behind other (Some r) answers) in cc

    -- a compaction is made only where there was no place for it
    no_place : (held : Held R)
        → MakesRoom rules Answers old.setup found request now held → ¬ (HasPlace rules found (recorded found))
    no_place held made place =
        let room = made.room in
        room.none (subst (HasPlace rules found) (its_own found (inl refl) room.other room.wanted room.wants) place)

    -- and behind it there is one
    place_behind : (held : Held R) → MakesRoom rules Answers old.setup found request now held
        → HasRoom rules found now recorded → IsBehind rules found now held × HasPlace rules held (recorded held)
    place_behind held made (inl place) = absurd (no_place held made place)
    place_behind held made (inr there) = (inr (made.room.are, made.made), there held made.made)

    added_over : (held : Held R) → IsRecordedOver rules found now recorded held → IsBehind rules found now held
        → (r : R) → Answers old.setup held request now answer (Some r) → new.ledger.held ≡ held_with r held → IsAdded
    added_over held over behind r answers added = let same = sym (its_own held behind answer r answers) in
        record {
          held = held;
          over = over;
          behind = behind;
          answers = subst (λ (x : R). Answers old.setup held request now answer (Some x)) same answers;
          added = added ∙ ap (λ (x : R). held_with x held) same;
        }

    -- it is, where the disk does not fail and memory is found
    pub comes_of_wanted : HasRoom rules found now recorded
        → ¬ Risen → Serves rules Answers found request now Risen answer old new → (answer ≡ Fixed NO_MEMORY) ⊎ IsAdded
    comes_of_wanted room calm (steps.Plain answers whole) =
        absurd (let e = wanted found (inl refl) answer None answers in cc)
    comes_of_wanted room calm (steps.Recorded r answers place whole) =
        inr (added_over found (inl refl) (inl refl) r answers whole.is)
    comes_of_wanted room calm (steps.RecordedAfterCompaction held r made answers place whole) =
        let (behind, there) = place_behind held made room in
        inr (added_over held (inr (no_place held made, made.made)) behind r answers whole.is)
    comes_of_wanted room calm (steps.NoPlace held r another made answers still is whole) =
        let (behind, there) = place_behind held made room in
        absurd (still (subst (HasPlace rules held) (its_own held behind another r answers) there))
    comes_of_wanted room calm (steps.Failed r other wants risen is broken) = absurd (calm risen)
    comes_of_wanted room calm (steps.Starved held which is whole) = inl is

    -- and so what it brings about holds of the ledger
    pub holds_of_wanted : (P : Held R → Type 0) → ((held : Held R) → IsBehind rules found now held
        → P (held_with (recorded held) held)) → HasRoom rules found now recorded → ¬ Risen
        → Serves rules Answers found request now Risen answer old new → (answer ≡ Fixed NO_MEMORY) ⊎ P new.ledger.held
    holds_of_wanted P with_it room calm serves = of_case (comes_of_wanted room calm serves)
      where
        of_case : (answer ≡ Fixed NO_MEMORY) ⊎ IsAdded → (answer ≡ Fixed NO_MEMORY) ⊎ P new.ledger.held
        of_case (inl is) = inl is
        of_case (inr added) = inr (subst P (sym added.added) (with_it added.held added.behind))
