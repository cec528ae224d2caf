-- That a changing call does to the files of a disk what it does to two files that took no call yet.
use Rattle.std.specs.Prelude.{map}
use Rattle.std.proofs.Common.{◌≡◌, ℕ, Option, None, Some, List, [], ◌∷◌, ◌++◌, refl, sym, ◌∙◌, ap}
use Rattle.std.proofs.lemmas.List.{map-append}
use Rattle.crash_disk.specs.declared.file_no.FileNo.TheVariants.{Zero, One}
use Rattle.crash_disk.specs.declared.change.Change.{Change}
use Rattle.crash_disk.specs.declared.change.Change.TheVariants.{Write, Cut, Sync}
use Rattle.crash_disk.specs.declared.change.Taken.{Taken}
use Rattle.crash_disk.specs.Disk.{DiskState, FileState, files}
use Rattle.crash_disk.specs.Memory.{after_taken, replay}
use Rattle.crash_disk.specs.Soundness.{replay-push}

same_files : (stop : Option ℕ) (change : Change) (disk : DiskState) →
    record (after_taken stop change (files disk.zero disk.one)) { calls = disk.calls ++ change ∷ [] } ≡ after_taken stop change disk
same_files None (Write Zero at bytes) disk = refl
same_files None (Write One at bytes) disk = refl
same_files None (Cut Zero n) disk = refl
same_files None (Cut One n) disk = refl
same_files None (Sync Zero) disk = refl
same_files None (Sync One) disk = refl
same_files (Some pick) (Write Zero at bytes) disk = refl
same_files (Some pick) (Write One at bytes) disk = refl
same_files (Some pick) (Cut Zero n) disk = refl
same_files (Some pick) (Cut One n) disk = refl
same_files (Some pick) (Sync Zero) disk = refl
same_files (Some pick) (Sync One) disk = refl

abbrev change_of : Taken → Change
change_of taken = taken.change

-- the two files of a disk that took the calls of a log, after one call more
pub one_more_taken : (first : DiskState) (log : List Taken) (taken : Taken) (old_zero old_one zero one : FileState) →
    record { zero = old_zero; one = old_one; calls = map change_of log } ≡ replay first log →
    record { zero = zero; one = one; calls = taken.change ∷ [] } ≡ after_taken taken.stop taken.change (files old_zero old_one) →
    record { zero = zero; one = one; calls = map change_of (log ++ taken ∷ []) } ≡ replay first (log ++ taken ∷ [])
one_more_taken first log taken old_zero old_one zero one was now =
    let old : DiskState = record { zero = old_zero; one = old_one; calls = map change_of log } in
    ap (λ (c : List Change). record { zero = zero; one = one; calls = c }) (map-append change_of log (taken ∷ []))
    ∙ ap (λ (d : DiskState). record d { calls = map change_of log ++ taken.change ∷ [] }) now ∙ same_files taken.stop taken.change old
    ∙ ap (after_taken taken.stop taken.change) was ∙ sym (replay-push first log taken)
