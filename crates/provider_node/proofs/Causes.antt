-- That each code which a provider answers for itself has its cause.
use Rattle.std.proofs.Common.{◌≡◌, ◌≢◌, ◌⊎◌, ◌<◌, ◌≤◌, inl, inr, ℕ, refl, sym, ◌∙◌, arith}
use Rattle.std.specs.Prelude.{Option, None, Some, List}
use Rattle.crash_disk.specs.Disk.{DiskState}
use Rattle.http_wire.specs.declared.answer.Answer.{Answer}
use Rattle.http_wire.specs.declared.answer.Answer.TheVariants.{Fixed, Full}
use Rattle.http_wire.specs.Requests.{Request}
use Rattle.record_ledger.specs.Rules.{RecordRules}
use Rattle.record_ledger.specs.Ledger.{Held}
use Rattle.provider_node.specs.Causes.{EachCodeHasItsCause, Finds, GivesNoOwnCode, HasItsCause, IsNoOwnCode}
use Rattle.provider_node.specs.Step as steps
use Rattle.provider_node.specs.Step.{AnswersBy, Provider, Serves, Steps}
use Rattle.provider_node.specs.declared.codes.TheConstants.{DISK_FAULT, FOREIGN, FULL, NO_MEMORY}

number_in : (m n : ℕ) → Fixed m ≡ Fixed n → m ≡ n
number_in m n e = cc

differ : (answer : Answer) (m n : ℕ) → m ≢ n → answer ≡ Fixed m → answer ≢ Fixed n
differ answer m n other is e = other (number_in m n (sym is ∙ e))

not_fixed : (bytes : List ℕ) (n : ℕ) → Full bytes ≢ Fixed n
not_fixed bytes n e = cc

-- ---- answers that are none of the codes

pub of_page : (answer : Answer) (bytes : List ℕ) → answer ≡ Full bytes → IsNoOwnCode answer
of_page answer bytes is = record {
  no_fault = λ e. not_fixed bytes DISK_FAULT (sym is ∙ e);
  not_full = λ e. not_fixed bytes FULL (sym is ∙ e);
  not_starved = λ e. not_fixed bytes NO_MEMORY (sym is ∙ e);
  not_foreign = λ e. not_fixed bytes FOREIGN (sym is ∙ e);
}

-- the code is below or above those of a provider
abbrev pub IsOther : ℕ → Type 0
IsOther code = (code < 50) ⊎ (53 < code)

other : (code own : ℕ) → 50 ≤ own → own ≤ 53 → IsOther code → code ≢ own
other code own from to (inl less) e = omega (arith, from, less, e)
other code own from to (inr more) e = omega (arith, to, more, e)

pub of_code : (answer : Answer) (code : ℕ) → IsOther code → answer ≡ Fixed code → IsNoOwnCode answer
of_code answer code is_other is = record {
  no_fault = differ answer code DISK_FAULT (other code DISK_FAULT (omega arith) (omega arith) is_other) is;
  not_full = differ answer code FULL (other code FULL (omega arith) (omega arith) is_other) is;
  not_starved = differ answer code NO_MEMORY (other code NO_MEMORY (omega arith) (omega arith) is_other) is;
  not_foreign = differ answer code FOREIGN (other code FOREIGN (omega arith) (omega arith) is_other) is;
}

-- ---- a step

module _ {Setup R : Type 0} (rules : RecordRules R) (Answers : AnswersBy Setup R) (none_own : GivesNoOwnCode Answers)
    (old new : Provider Setup R) (disk : Option DiskState) (request : Request) (now : ℕ) (Risen : Type 0)
    (answer : Answer) where
  Caused : Type 0
  Caused = HasItsCause rules Answers old disk request now Risen answer

  by_answer : (held : Held R) (adds : Option R) → Answers old.setup held request now answer adds → Caused
  unfolding Caused
  by_answer held adds answers = let no = none_own old.setup held request now answer adds answers in
      record {
        failed = λ e. absurd (no.no_fault e);
        full = λ e. absurd (no.not_full e);
        foreign = λ e. absurd (no.not_foreign e);
      }

  by_fault : Risen → answer ≡ Fixed DISK_FAULT → Caused
  unfolding Caused
  by_fault risen is = record {
    failed = λ e. risen;
    full = λ e. absurd (differ answer DISK_FAULT FULL (λ n. omega (arith, n)) is e);
    foreign = λ e. absurd (differ answer DISK_FAULT FOREIGN (λ n. omega (arith, n)) is e);
  }

  by_starving : answer ≡ Fixed NO_MEMORY → Caused
  unfolding Caused
  by_starving is = record {
    failed = λ e. absurd (differ answer NO_MEMORY DISK_FAULT (λ n. omega (arith, n)) is e);
    full = λ e. absurd (differ answer NO_MEMORY FULL (λ n. omega (arith, n)) is e);
    foreign = λ e. absurd (differ answer NO_MEMORY FOREIGN (λ n. omega (arith, n)) is e);
  }

  served : (found : Held R) → Finds rules old disk found
      → Serves rules Answers found request now Risen answer old new → Caused
  unfolding Caused
  served found finds (steps.Plain answers whole) = by_answer found None answers
  served found finds (steps.Recorded r answers place whole) = by_answer found (Some r) answers
  served found finds (steps.RecordedAfterCompaction held r room answers place whole) = by_answer held (Some r) answers
  served found finds (steps.NoPlace held r another room answers still is whole) = record {
    failed = λ e. absurd (differ answer FULL DISK_FAULT (λ n. omega (arith, n)) is e);
    full = λ e. record {
      found = found;
      finds = finds;
      held = held;
      makes_room = room;
      wanted = r;
      other = another;
      wants = answers;
      none = still;
    };
    foreign = λ e. absurd (differ answer FULL FOREIGN (λ n. omega (arith, n)) is e);
  }
  served found finds (steps.Failed wanted another wants risen is broken) = by_fault risen is
  served found finds (steps.Starved held which is whole) = by_starving is

  pub caused : Steps rules Answers old disk request now Risen answer new
      → HasItsCause rules Answers old disk request now Risen answer
  unfolding Caused
  caused (steps.WithLedger whole serves) = served old.ledger.held (inl (whole, refl)) serves
  caused (steps.WithOpened found broken is serves) = served found (inr (broken, is)) serves
  caused (steps.NotOpened was risen is broken) = by_fault risen is
  caused (steps.Strange was none is broken) = record {
    failed = λ e. absurd (differ answer FOREIGN DISK_FAULT (λ n. omega (arith, n)) is e);
    full = λ e. absurd (differ answer FOREIGN FULL (λ n. omega (arith, n)) is e);
    foreign = λ e. record { broken = was; foreign = none };
  }
  caused (steps.StarvedAtOpening was is broken) = by_starving is

pub each_has_its_cause : {Setup R : Type 0} (rules : RecordRules R) (Answers : AnswersBy Setup R)
    → EachCodeHasItsCause rules Answers
each_has_its_cause rules Answers none_own old new disk request now before after answer =
    caused rules Answers none_own old new disk request now _ answer
