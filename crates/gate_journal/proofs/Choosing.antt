-- What two files that were read stand for.
use Rattle.std.specs.Prelude.{IfSome, Option, None, Some, Result, Ok, Err}
use Rattle.std.proofs.Common.{◌≡◌, ℕ, List, take, refl, sym, ◌∙◌, ap}
use Rattle.owned_values.specs.Gives.{Refuses}
use Rattle.crash_disk.specs.declared.file_no.FileNo.{FileNo}
use Rattle.crash_disk.specs.declared.file_no.FileNo.TheVariants.{Zero, One}
use Rattle.crash_disk.specs.Disk.{DiskState, image_of, reads_of}
use Rattle.gate_journal.specs.declared.fault.OpenFault.{OpenFault}
use Rattle.gate_journal.specs.declared.fault.OpenFault.TheVariants.{Foreign}
use Rattle.gate_journal.specs.Format.{Committed, file_of, joined, journal}
use Rattle.gate_journal.specs.Opening.{at_file, open_fault_of}
use Rattle.gate_journal.proofs.Taking.{taken}

-- the bytes of a file as far as they are read, where the disk tells
abbrev pub IsRead : FileNo → List ℕ → DiskState → Type 0
IsRead file bytes d = bytes ≡ take 134217729 (reads_of d file)

read_is : (file : FileNo) (bytes : List ℕ) (d : DiskState) → IsRead file bytes d → file_of (reads_of d file) ≡ file_of bytes
read_is file bytes d is = sym (taken (reads_of d file)) ∙ ap file_of (sym is)

refused_zero : (found other : Result (Option Committed) ℕ) (e : OpenFault) → Err e ≡ at_file Zero found → Refuses (open_fault_of e) (joined found other)
refused_zero (Ok found) other e is = absurd (cc)
refused_zero (Err place) other e is = let same : e ≡ Foreign Zero place = cc in rw same refl

refused_one : (found : Option Committed) (other : Result (Option Committed) ℕ) (e : OpenFault) → Err e ≡ at_file One other → Refuses (open_fault_of e) (joined (Ok found) other)
refused_one found (Ok other) e is = absurd (cc)
refused_one found (Err place) e is = let same : e ≡ Foreign One place = cc in rw same refl

pub held : (file : FileNo) (found : Result (Option Committed) ℕ) (holds : Option Committed) → Ok holds ≡ at_file file found → found ≡ Ok holds
held file (Ok found) holds is = cc
held file (Err place) holds is = absurd (cc)

-- file 0 has a fault
pub zero_refused : (told : Option DiskState) (bytes : List ℕ) (e : OpenFault) → IfSome told (IsRead Zero bytes) → Err e ≡ at_file Zero (file_of bytes)
    → IfSome told (λ d. Refuses (open_fault_of e) (journal (image_of d)))
zero_refused None bytes e is fault = tt
zero_refused (Some d) bytes e is fault =
    rw (read_is Zero bytes d is) (refused_zero (file_of bytes) (file_of d.one.reads) e fault)

-- file 1 has a fault, and file 0 has none
pub one_refused : (told : Option DiskState) (first second : List ℕ) (found : Option Committed) (e : OpenFault) → IfSome told (IsRead Zero first) → IfSome told (IsRead One second)
    → Ok found ≡ at_file Zero (file_of first) → Err e ≡ at_file One (file_of second) → IfSome told (λ d. Refuses (open_fault_of e) (journal (image_of d)))
one_refused None first second found e zero one holds fault = tt
one_refused (Some d) first second found e zero one holds fault =
    rw (read_is Zero first d zero, held Zero (file_of first) found holds, read_is One second d one) (refused_one found (file_of second) e fault)

-- what both stand for, by their bytes
pub both_are : (told : Option DiskState) (first second : List ℕ) → IfSome told (IsRead Zero first) → IfSome told (IsRead One second)
    → IfSome told (λ d. joined (file_of first) (file_of second) ≡ journal (image_of d))
both_are None first second zero one = tt
both_are (Some d) first second zero one = λ i. joined (sym (read_is Zero first d zero) i) (sym (read_is One second d one) i)
