-- That what is visible stays where there was no memory.
use Rattle.std.specs.Prelude.{max, Option, Contains}
use Rattle.std.proofs.Common.{◌≡◌, ◌⊎◌, inl, inr, ℕ, true, false, List, [], ◌∷◌, ◌++◌, sym, subst, refl, ap, ◌∙◌}
use Rattle.std.proofs.Common.{append-nil, arith}
use Rattle.std.proofs.lemmas.Bool.{cases_lt}
use Rattle.crash_disk.specs.Disk.{DiskState}
use Rattle.http_wire.specs.declared.answer.Answer.{Answer}
use Rattle.http_wire.specs.declared.answer.Answer.TheVariants.{Fixed}
use Rattle.http_wire.specs.Requests.{Request}
use Rattle.record_ledger.specs.Rules.{RecordRules}
use Rattle.record_ledger.specs.Ledger.{Held}
use Rattle.record_ledger.specs.Compacting.{Compacts}
use Rattle.record_ledger.specs.Runs as events
use Rattle.record_ledger.specs.Runs.{IsVisibleThroughout, Stays}
use Rattle.record_ledger.proofs.Staying.{visible_records_stay}
use Rattle.provider_node.specs.Starving.{CodesAddNothing, IsSameOrCompacted, Keeps, RowsAnswerAsBefore}
use Rattle.provider_node.specs.Starving.{WhatIsVisibleStays}
use Rattle.provider_node.specs.Step as steps
use Rattle.provider_node.specs.Step.{AnswersBy, Provider, Serves, Steps}
use Rattle.provider_node.specs.declared.codes.TheConstants.{NO_MEMORY, DISK_FAULT}
use Rattle.provider_node.proofs.Alike.{CompactionsAnswerAlike, alike}

-- the code of an answer
abbrev code_in : Answer → ℕ
code_in (Fixed code) = code
code_in other = 0

max_is_one : (a b : ℕ) → (max a b ≡ a) ⊎ (max a b ≡ b)
max_is_one a b = elim (cases_lt a b) as
    (λ _. (max a b ≡ a) ⊎ (max a b ≡ b)) [ inl less ↦ inr (omega (arith, less)) | inr more ↦ inl (omega (arith, more)) ]

module _ {R : Type 0} (rules : RecordRules R) (now : ℕ) (old : Held R) where
  only_now : Contains (now ∷ []) now
  only_now = (0, omega arith, refl)

  stays_in : (new : Held R) → IsSameOrCompacted rules now old new → (front behind : List R) (r : R) → old.records
      ≡ front ++ r ∷ behind → IsVisibleThroughout rules old.header.horizon (now ∷ []) r → Stays rules r behind [] new
  stays_in new (inl same) front behind r there visible = record {
    before_it = front;
    behind_it = behind;
    stands = ap (λ (h : Held R). h.records) same ∙ there;
    naming_it = sym (append-nil _);
  }
  stays_in new (inr made) front behind r there visible =
      let stays = visible_records_stay rules old new
      (events.Compacts now ∷ []) (now ∷ []) front behind r (old, refl, made) (only_now, tt) there visible in
      record {
        before_it = stays.before_it;
        behind_it = stays.behind_it;
        stands = stays.stands;
        naming_it = stays.naming_it;
      }

  horizon_of : (new : Held R)
      → IsSameOrCompacted rules now old new → (new.header.horizon ≡ old.header.horizon) ⊎ (new.header.horizon ≡ now)
  horizon_of new (inl same) = inl (ap (λ (h : Held R). h.header.horizon) same)
  horizon_of new (inr (inl (last, same))) = inl (ap (λ (h : Held R). h.header.horizon) same)
  horizon_of new (inr (inr (less, made))) =
      elim (max_is_one old.header.horizon now) as (λ _. (new.header.horizon ≡ old.header.horizon)
      ⊎ (new.header.horizon ≡ now)) [ inl is ↦ inl (made.horizon ∙ is) | inr is ↦ inr (made.horizon ∙ is) ]

  visible_in : (new : Held R) → IsSameOrCompacted rules now old new → (r : R)
      → IsVisibleThroughout rules old.header.horizon (now ∷ []) r → rules.has_visible now new.header.horizon r ≡ true
  visible_in new same r visible = visible now new.header.horizon only_now
      (elim (horizon_of new same) as (λ _. (new.header.horizon ≡ old.header.horizon)
      ⊎ Contains (now ∷ []) new.header.horizon) [ inl is ↦ inl is | inr is ↦ inr (0, omega arith, sym is) ])

  keeps : (new : Held R) → IsSameOrCompacted rules now old new → Keeps rules now old new
  keeps new same = record { same = same; stays = stays_in new same; visible = visible_in new same }

module _ {Setup R : Type 0} (rules : RecordRules R) (Answers : AnswersBy Setup R) (nothing : CodesAddNothing Answers)
  where
    served : (found : Held R) (request : Request) (now : ℕ) (Risen : Type 0) (old new : Provider Setup R) → Serves rules
        Answers found request now Risen (Fixed NO_MEMORY) old new → IsSameOrCompacted rules now found new.ledger.held
    served found request now Risen old new (steps.Plain answers whole) = inl whole.is
    served found request now Risen old new (steps.Recorded r answers place whole) =
        absurd (nothing old.setup found request now NO_MEMORY r answers)
    served found request now Risen old new (steps.RecordedAfterCompaction held r room answers place whole) =
        absurd (nothing old.setup held request now NO_MEMORY r answers)
    served found request now Risen old new (steps.NoPlace held r another room answers still is whole) =
        inr (subst (λ (h : Held R). Compacts rules now found h) (sym whole.is) room.made)
    served found request now Risen old new (steps.Failed wanted other wants risen is broken) =
        let clash : NO_MEMORY ≡ DISK_FAULT = ap code_in is in absurd (omega (arith, clash))
    served found request now Risen old new (steps.Starved held (inl same) is whole) = inl (whole.is ∙ same)
    served found request now Risen old new (steps.Starved held (inr room) is whole) =
        inr (subst (λ (h : Held R). Compacts rules now found h) (sym whole.is) room.made)

    stepped : (old new : Provider Setup R) (disk : Option DiskState) (request : Request) (now : ℕ) (Risen : Type 0)
        → old.ledger.broken ≡ false → Steps rules Answers old disk request now Risen (Fixed NO_MEMORY) new
        → IsSameOrCompacted rules now old.ledger.held new.ledger.held
    stepped old new disk request now Risen whole (steps.WithLedger unbroken serves) =
        served old.ledger.held request now Risen old new serves
    stepped old new disk request now Risen whole (steps.WithOpened found broken is serves) =
        absurd (let e = sym whole ∙ broken in cc)
    stepped old new disk request now Risen whole (steps.NotOpened was risen is broken) =
        absurd (let e = sym whole ∙ was in cc)
    stepped old new disk request now Risen whole (steps.Strange was none is broken) =
        absurd (let e = sym whole ∙ was in cc)
    stepped old new disk request now Risen whole (steps.StarvedAtOpening was is broken) =
        absurd (let e = sym whole ∙ was in cc)

pub visible_stays : {Setup R : Type 0} (rules : RecordRules R) (Answers : AnswersBy Setup R)
    → WhatIsVisibleStays rules Answers
visible_stays rules Answers nothing old new disk request now before after whole steps = keeps rules
    now old.ledger.held new.ledger.held (stepped rules Answers nothing old new disk request now _ whole steps)

-- and all that may be asked of the rows is answered as before
pub rows_as_before : {Setup R : Type 0} (rules : RecordRules R) (Answers : AnswersBy Setup R)
    (AnswerAlike : (now : ℕ) → (one other : Held R) → Type 0) → ((now : ℕ) (held : Held R) → AnswerAlike now held held)
    → CompactionsAnswerAlike rules AnswerAlike → CodesAddNothing Answers → RowsAnswerAsBefore rules Answers AnswerAlike
rows_as_before
    {Setup} {R} rules Answers AnswerAlike itself law nothing old new disk request now before after are whole steps =
    of_case (stepped rules Answers nothing old new disk request now _ whole steps)
  where
    of_case : IsSameOrCompacted rules now old.ledger.held new.ledger.held
        → AnswerAlike now new.ledger.held old.ledger.held
    of_case (inl same) =
        subst (λ (h : Held R). AnswerAlike now h old.ledger.held) (sym same) (itself now old.ledger.held)
    of_case (inr made) = alike rules AnswerAlike itself law now old.ledger.held new.ledger.held are made
