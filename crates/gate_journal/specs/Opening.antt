-- What opening a journal answers, and what it does to its disk.
use Rattle.std.specs.Prelude.{◌≡◌, ◌⊎◌, ℕ, ◌≤◌, Option, None, Some, Result, Ok, Err, IsErrOf}
use Rattle.crash_disk.specs.declared.file_no.FileNo.{FileNo}
use Rattle.crash_disk.specs.declared.file_no.FileNo.TheVariants.{Zero}
use Rattle.crash_disk.specs.Counts.{Rose}
use Rattle.crash_disk.specs.Disk.{Image, DiskState, MayLeave}
use Rattle.gate_journal.specs.declared.fault.OpenFault.{OpenFault}
use Rattle.gate_journal.specs.declared.fault.OpenFault.TheVariants.{DiskFault, Foreign, NoMemory}
use Rattle.gate_journal.specs.Format.{Committed, Kept, Fault, journal}
use Rattle.gate_journal.specs.Making.{first_journal}

-- the fault that an error stands for: none where the disk failed or there was no memory
abbrev pub open_fault_of : OpenFault → Option Fault
open_fault_of DiskFault = None
open_fault_of (Foreign file place) = Some (record { file = file; place = place })
open_fault_of NoMemory = None

-- What is opened: the journal that the image stands for. Where there is none yet, an empty one in file 0.
abbrev pub opened : Result (Option Kept) Fault → Result Kept Fault
opened (Ok None) = Ok (record { file = Zero; holds = first_journal })
opened (Ok (Some kept)) = Ok kept
opened (Err fault) = Err fault

-- The image stands for what an image of the disk at the start stood for. Where that held no journal yet, it may hold
-- the empty one.
abbrev pub Opens : DiskState → Image → Type 0
Opens disk image =
    (start : Image) × MayLeave disk start
    × ((journal image ≡ journal start) ⊎ ((journal start ≡ Ok None) × (journal image ≡ Ok (Some (record { file = Zero; holds = first_journal })))))

-- The image stands for no journal yet, or for the empty one.
abbrev pub IsEmptyOrNone : Image → Type 0
IsEmptyOrNone image = (journal image ≡ Ok None) ⊎ (journal image ≡ Ok (Some (record { file = Zero; holds = first_journal })))

-- What a call that opens does to the count of faults: it never falls, rises where the answer is DiskFault, and else is as
-- it was.
pub record CausesFaults {T : Type 0} (result : Result T OpenFault) (before now : ℕ) : Type 0 where
  pub never_falls : before ≤ now
  pub failed : IsErrOf result DiskFault → Rose before now
  pub kept : ¬ (IsErrOf result DiskFault) → now ≡ before

-- what a file holds, or its fault at this place of this file
abbrev pub at_file : FileNo → Result (Option Committed) ℕ → Result (Option Committed) OpenFault
at_file file (Ok found) = Ok found
at_file file (Err place) = Err (Foreign file place)
