-- What a disk in memory began with, and which calls it took, when a provider was started over it.
use Rattle.std.specs.Prelude.{◌≡◌, ◌==◌, Bool, true, false, List, [], ◌∷◌, Some, Ok, if◌then◌else◌}
use Rattle.std.proofs.Common.{refl, ap, subst, sym, ◌∙◌}
use Rattle.crash_disk.specs.declared.change.Change.{Change}
use Rattle.crash_disk.specs.Disk.{empty_image, image_of}
use Rattle.crash_disk.specs.Memory.{Call, Changing, DiskInMemory, Reading, Starved, after_calls, after_one, answered}
use Rattle.crash_disk.specs.Memory.{faulted, holding, state_of}
use Rattle.crash_disk.specs.Moments.{IsMadeByCalls}
use Rattle.crash_disk.specs.Plans.{after_all}
use Rattle.record_ledger.specs.Calls.{opening}
use Rattle.record_ledger.specs.Ledger.{ledger_in, taken}
use Rattle.record_ledger.specs.Rules.{RecordRules}
use Rattle.provider_node.specs.Step.{OwnsDisk, Provider}
use Rattle.schedule_replay.specs.Runs.{alone}
use Rattle.replay_runs.specs.Runs.{IsStarted}

answered_start : (stopped stops fails : Bool) (change : Change) (m : DiskInMemory)
    → (answered stopped stops fails change m).1.start ≡ m.start
answered_start true stops fails change m = refl
answered_start false true fails change m = refl
answered_start false false true change m = refl
answered_start false false false change m = refl

read_start : (stopped : Bool) (m : DiskInMemory) → (if stopped then faulted m else m).start ≡ m.start
read_start true m = refl
read_start false m = refl

one_start : (call : Call) (m : DiskInMemory) → (after_one call m).start ≡ m.start
one_start (Changing change) m = answered_start m.stopped (m.stopping == 1) (m.failing == 1) change m
one_start Starved m = refl
one_start Reading m = read_start m.stopped m

calls_start : (calls : List Call) (m : DiskInMemory) → (after_calls calls m).start ≡ m.start
calls_start [] m = refl
calls_start (call ∷ later) m = calls_start later (after_one call m) ∙ one_start call m

-- calls keep what a disk in memory was made of
keeps_start : (old new : DiskInMemory) → IsMadeByCalls (Some old) (Some new) → new.start ≡ old.start
keeps_start old new (calls, is) = ap (λ (m : DiskInMemory). m.start) is ∙ calls_start calls old

-- a provider was started over a disk that was empty, and then no call of it was to fail
pub is_started : {Setup R : Type 0} (records : RecordRules R) (node : Provider Setup R) (old behind new : DiskInMemory)
    → old ≡ holding empty_image → new ≡ record behind { failing = 0; stopping = 0; pick = 0; stopped = false }
    → taken (ledger_in records (image_of (state_of old))) ≡ Ok node.ledger.held → node.ledger.broken ≡ false
    → OwnsDisk records node (Some (state_of behind)) → IsMadeByCalls (Some old) (Some behind)
    → state_of behind ≡ after_all (opening records (state_of old)) (state_of old) → IsStarted records (alone node new)
is_started records node old behind new empty is opened whole own made ends = record {
  start =
      ap (λ (m : DiskInMemory). m.start) is ∙ keeps_start old behind made ∙ ap (λ (m : DiskInMemory). m.start) empty;
  calls =
      ap state_of is ∙ ends
      ∙ ap (λ (m : DiskInMemory). after_all (opening records (state_of m)) (state_of m)) empty;
  opened =
      subst (λ (m : DiskInMemory). taken (ledger_in records (image_of (state_of m))) ≡ Ok node.ledger.held) empty
      opened;
  whole = whole;
  own = subst (λ (m : DiskInMemory). OwnsDisk records node (Some (state_of m))) (sym is) own;
  no_failure = ap (λ (m : DiskInMemory). m.failing) is;
  no_stop = ap (λ (m : DiskInMemory). m.stopping) is;
  runs = ap (λ (m : DiskInMemory). m.stopped) is;
}
