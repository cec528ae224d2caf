-- That what stands anew in a ledger is of the request.
use Rattle.std.specs.Prelude.{Contains, IfSome, IsSome, Option, None, Some, Result, Ok, ◌==◌}
use Rattle.std.proofs.Common.{◌≡◌, ◌⊎◌, ⊎_elim, inl, inr, ℕ, zero, suc, Bool, true, false, List, [], ◌∷◌, sym}
use Rattle.std.proofs.Common.{subst, refl, ap, ◌∙◌, arith}
use Rattle.std.proofs.lemmas.List.Elements.{Contains-append_cases}
use Rattle.crash_disk.specs.Disk.{Image, DiskState, MayLeave, image_of}
use Rattle.gate_journal.specs.Format.{Fault}
use Rattle.http_wire.specs.Requests.{Request}
use Rattle.ledger_rules.specs.Kept.{selected}
use Rattle.record_ledger.specs.Rules.{RecordRules}
use Rattle.record_ledger.specs.Ledger.{Held, IsWithOrWithout, LeftByOpening, held_with, ledger_in, migrated, taken}
use Rattle.record_ledger.specs.Compacting.{Compacts}
use Rattle.provider_node.specs.Added.{IsNew, WhatIsNewIsOfTheRequest}
use Rattle.provider_node.specs.Causes.{Finds, IsAddedOver}
use Rattle.provider_node.specs.Step.{Adding, AnswersBy, AtFirst, InCommit, InCompaction, InLedger, InOpened, InOpening}
use Rattle.provider_node.specs.Step.{Provider, ServingLeaves}
use Rattle.provider_node.proofs.Opened.{migrated_records}

-- ---- what is kept stood there

among_selected : {R : Type 0} (flags : List Bool) (items : List R) (r : R)
    → Contains (selected flags items) r → Contains items r
among_selected [] items r there = absurd (omega (arith, there.1))
among_selected (flag ∷ flags) [] r there = absurd (omega (arith, there.1))
among_selected (true ∷ flags) (item ∷ items) r (zero, less, is) = (0, omega arith, is)
among_selected (true ∷ flags) (item ∷ items) r (suc k, less, is) =
    let there = among_selected flags items r (k, omega (arith, less), is) in
    (suc there.0, omega (arith, there.1), there.2)
among_selected (false ∷ flags) (item ∷ items) r stands =
    let there = among_selected flags items r stands in (suc there.0, omega (arith, there.1), there.2)

pub among_compacted : {R : Type 0} (rules : RecordRules R) (now : ℕ) (old new : Held R) (r : R)
    → Compacts rules now old new → Contains new.records r → Contains old.records r
among_compacted rules now old new r (inl (last, same)) there = subst (λ (h : Held _). Contains h.records r) same there
among_compacted rules now old new r (inr (less, made)) there =
    among_selected made.records.flags old.records r (subst (λ (l : List _). Contains l r) made.records.are there)

-- what stands in the one ledger that is found stands in the other
in_found : {R : Type 0} (found : Result (Option (Held R)) Fault) (held other : Held R) (r : R)
    → found ≡ Ok (Some held) → found ≡ Ok (Some other) → Contains held.records r → Contains other.records r
in_found found held other r is also there =
    subst (λ (h : Held _). Contains h.records r) (let same : held ≡ other = cc in same) there

-- ---- a record that stands there

module _ {Setup R : Type 0} (rules : RecordRules R) (Answers : AnswersBy Setup R) (old : Provider Setup R)
    (disk : Option DiskState) (request : Request) (now : ℕ) (r : R) where
  abbrev Is : Type 0
  Is = IsAddedOver rules Answers old disk request now r

  -- of a request that is served over a ledger
  module _ (found : Held R) (finds : Finds rules old disk found) (told : Option DiskState) (image : Image)
      (held : Held R) (is : ledger_in rules image ≡ Ok (Some held)) (there : Contains held.records r) where
    in_over : (one : Adding rules Answers old.setup found request now told)
        → Contains one.held.records r → Contains found.records r
    in_over one stands = ⊎_elim (λ (same, disk). subst (λ (h : Held R). Contains h.records r) same stands)
        (λ (room, calls). among_compacted rules now found one.held r room.made stands) one.over

    in_commit : (one : Adding rules Answers old.setup found request now told)
        → IsWithOrWithout rules one.r one.held image → Contains found.records r ⊎ Is
    in_commit one (inl same) = inl (in_over one (in_found (ledger_in rules image) held one.held r is same there))
    in_commit one (inr with) = of_case (Contains-append_cases one.held.records
        (one.r ∷ []) r (in_found (ledger_in rules image) held (held_with one.r one.held) r is with there))
      where
        of_case : Contains one.held.records r ⊎ Contains (one.r ∷ []) r → Contains found.records r ⊎ Is
        of_case (inl before) = inl (in_over one before)
        of_case (inr (zero, less, same)) =
            inr (
              one.answer,
              record {
                held = one.held;
                answers = subst (λ (x : R). Answers old.setup one.held request now one.answer (Some x)) same one.adds;
                over = (found, finds, ⊎_elim (λ both. inl both.0) (λ both. inr both.0) one.over);
              },
            )
        of_case (inr (suc k, less, same)) = absurd (omega (arith, less))

    pub in_serving : ServingLeaves rules Answers old.setup found request now told image
        → Contains found.records r ⊎ Is
    in_serving (AtFirst same may) = inl (in_found (ledger_in rules image) held found r is same there)
    in_serving (InCompaction room left) = ⊎_elim
        (λ same. inl (in_found (ledger_in rules image) held found r is same there)) (λ (made, compacts, same). inl
        (among_compacted rules now found made r compacts (in_found (ledger_in rules image) held made r is same there)))
        left.stands
    in_serving (InCommit one left) = in_commit one left.stands

module _ {Setup R : Type 0} (rules : RecordRules R) (Answers : AnswersBy Setup R) where
  -- in a ledger that is opened from the disk
  on_told : (old : Provider Setup R) (disk : Option DiskState) (found : Held R) (r : R)
      → IsSome disk → IfSome disk (λ d. MayLeave d (image_of d)) → old.ledger.broken ≡ true → IfSome disk
      (λ d. taken (ledger_in rules (image_of d)) ≡ Ok found) → IsNew rules old disk r → ¬ (Contains found.records r)
  on_told old None found r tells reads broken is new = cc
  on_told old (Some d) found r tells reads broken is new = new.on_disk broken (image_of d) found reads is

  in_opening : (old : Provider Setup R) (disk : Option DiskState) (image : Image) (held : Held R) (r : R)
      → IsSome disk → old.ledger.broken ≡ true → ledger_in rules image ≡ Ok (Some held)
      → LeftByOpening rules disk image → Contains held.records r → IsNew rules old disk r → ⊥
  in_opening old None image held r tells broken is left there new = cc
  in_opening old (Some d) image held r tells broken is (first, may, inl same) there new =
      new.on_disk broken first (migrated held) may (ap taken (sym same ∙ is))
      (subst (λ (l : List R). Contains l r) (sym (migrated_records held (held.version == 1))) there)
  in_opening old (Some d) image held r tells broken is (first, may, inr (found, opens, stands)) there new =
      new.on_disk broken first found may opens (in_found (ledger_in rules image) held found r is stands there)

  pub new_is_of_the_request : WhatIsNewIsOfTheRequest rules Answers
  new_is_of_the_request old disk request now image held r tells reads (InLedger whole left) is there new =
      ⊎_elim (λ stood. absurd (new.in_ledger whole stood))
      (λ is. is) (in_serving rules Answers old disk request now r old.ledger.held (inl (whole, refl)) disk image held is
      there left)
  new_is_of_the_request old disk request now image held r tells reads
      (InOpened found opened broken stands made left) is there new =
      ⊎_elim (λ stood. absurd (on_told old disk found r tells reads broken stands new stood))
      (λ is. is) (in_serving rules Answers old disk request now r found (inr (broken, stands)) opened image held is there
      left)
  new_is_of_the_request old disk request now image held r tells reads (InOpening broken left) is there new =
      absurd (in_opening old disk image held r tells broken is left.stands there new)
