-- That runs of a provider join.
use Rattle.std.specs.Prelude.{IsSome, Option, Result}
use Rattle.std.proofs.Common.{◌≡◌, ◌⊎◌, inl, inr, ℕ, List, [], refl, ⊎_elim}
use Rattle.saml_outside.specs.Files.{File}
use Rattle.crash_disk.specs.Disk.{Image, DiskState, MayLeave, image_of}
use Rattle.serve_loop.specs.Turns.{Turn, asked_in}
use Rattle.serve_loop.specs.Worlds.{World}
use Rattle.conn_table.specs.Table.{Table}
use Rattle.provider_run.specs.declared.ended.Ended.{Ended}
use Rattle.provider_run.specs.declared.ended.RunFault.{RunFault}
use Rattle.provider_run.specs.Joining.{ByACrash, ByAKill, EachDiskOfARunGoesOn, IsBegun, IsLeftStopped}
use Rattle.provider_run.specs.Providers.{BadSetUpBy, Runs, SetUpBy}
use Rattle.provider_run.specs.Runs.{Outside, world_of}
use Rattle.provider_run.proofs.Serving.{did}
use Rattle.provider_node.specs.Starts.{IsServed}
use Rattle.provider_node.specs.Step.{AnswersBy, Provider, StepLeaves}
use Rattle.provider_node.specs.Joining.{IsInside, LeavesBut}
use Rattle.provider_node.proofs.Joining.{each_disk_goes_on, settled_leaves, settled_reads}
use Rattle.record_ledger.specs.Ledger.{LeftByOpening}
use Rattle.record_ledger.specs.Laws.{ImagesHoldRecords}
use Rattle.record_ledger.specs.Rules.{RecordRules}
use Rattle.provider_run.proofs.Kept.{is_a_start}

module _ {Setup R : Type 0} (SetsUp : SetUpBy Setup) (IsBad : BadSetUpBy) (address key : Setup → List ℕ) (rules : RecordRules R)
    (Answers : AnswersBy Setup R) (hold : ImagesHoldRecords rules) (left : ℕ → Image → Type 0) where
  -- a run did nothing, or it served
  abbrev Ran : Option (List File) → List ℕ → Outside → List (Turn (Provider Setup R)) → Type 0
  Ran told file before turns = (turns ≡ []) ⊎ ((first last : World (Provider Setup R)) × (kept : Table)
      × IsBegun SetsUp address key rules told file before first × IsServed rules Answers before.disk first turns kept last)

  ran : (told : Option (List File)) (file : List ℕ) (budget : ℕ) (before : Outside)
      (turns : List (Turn (Provider Setup R))) (result : Result Ended RunFault) (after : Outside) → IsSome before.disk
      → Runs SetsUp IsBad address key rules Answers left told file budget before turns result after → Ran told file before turns
  ran told file budget before turns result after tells runs =
      ⊎_elim inl (λ (node, last, opened, served, begins, serves). inr (
        world_of node opened,
        serves.last,
        serves.kept,
        record { provider = node; opened = opened; begins = begins; is = refl },
        is_a_start SetsUp
            address key rules Answers hold told file before opened node tells begins turns serves.kept serves.last serves.run,
      )) (did runs)

  -- how a run was stopped, of a disk that reads as a crash may leave it
  record Stopped (before : Option DiskState) (turns : List (Turn (Provider Setup R))) (disk : DiskState) : Type 0 where
    reads : MayLeave disk (image_of disk)
    all : LeavesBut disk (LeftByOpening rules before) ⊎ IsInside rules Answers (asked_in turns) disk

  stopped : (before : Option DiskState) (turns : List (Turn (Provider Setup R))) (disk : DiskState)
      → IsLeftStopped rules Answers before turns disk → Stopped before turns disk
  stopped before turns _ (ByACrash image might) = record {
    reads = settled_reads image;
    all = ⊎_elim (λ opening. inl (settled_leaves image (LeftByOpening rules before) opening.stands))
        (λ inside. inr (record {
          one = inside.0;
          among = inside.1;
          left = settled_leaves image (StepLeaves rules Answers inside.0.node inside.0.disk inside.0.request inside.0.now) inside.2;
        })) might;
  }
  stopped before turns _ (ByAKill disk reads which) =
      record { reads = reads; all = ⊎_elim (λ each. inl (λ image may. (each image may).stands)) inr which }

  pub each_disk_of_a_run_goes_on : (IsMoment : ℕ → Type 0)
      → EachDiskOfARunGoesOn SetsUp IsBad address key rules Answers left IsMoment
  each_disk_of_a_run_goes_on IsMoment told file budget before turns result after start earlier disk runs were next at is =
      let how = stopped before.disk turns disk is in
      each_disk_goes_on rules Answers IsMoment
      (IsBegun SetsUp address key rules told file before) start earlier before.disk turns disk were next at
      (ran told file budget before turns result after next.tells runs) how.reads how.all
