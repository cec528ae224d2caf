-- From disks that tell to all disks.
use Rattle.std.specs.Prelude.{IfSome, OnOk, Option, None, Some, Result, Ok, Err}
use Rattle.std.specs.Option.{option_map}
use Rattle.std.proofs.Common.{◌≡◌, ℕ, List, refl}
use Rattle.crash_disk.specs.declared.change.Change.{Change}
use Rattle.crash_disk.specs.declared.file_no.FileNo.{FileNo}
use Rattle.crash_disk.specs.Disk.{Image, DiskState, MayLeave, image_of, reads_of, Changes, after, begun}
use Rattle.crash_disk.specs.Torn.{other_file}
use Rattle.gate_journal.specs.Making.{read_of}
use Rattle.crash_disk.specs.Moments.{Leaves}
use Rattle.crash_disk.specs.Steps.{leaves_begun}

-- a disk as it reads is one of its images
abbrev pub Reads : Option DiskState → Type 0
Reads told = IfSome told (λ disk. MayLeave disk (image_of disk))

-- what a crash may leave before a call
pub here : (told : Option DiskState) (Pre : DiskState → Type 0) (P : Image → Type 0) → IfSome told Pre
    → ((d : DiskState) → Pre d → (image : Image) → MayLeave d image → P image) → (image : Image) → Leaves told image → P image
here None Pre P pre each image left = absurd left
here (Some d) Pre P pre each image left = each d pre image left

-- what a crash may leave after a call, whether it succeeded or not
pub images : {T E : Type 0} (change : Change) (told : Option DiskState) (result : Result T E) (now : Option DiskState) (Pre : DiskState → Type 0) (P : Image → Type 0)
    → Changes change told result now → Reads told → IfSome told Pre
    → ((d : DiskState) → MayLeave d (image_of d) → Pre d → (image : Image) → MayLeave (begun change d) image → P image) → (image : Image) → Leaves now image → P image
images change None result now Pre P is reads pre each image left = absurd (leaves_begun change None result now image is reads left)
images change (Some d) result now Pre P is reads pre each image left = each d reads pre image (leaves_begun change (Some d) result now image is reads left)

-- what a disk tells after a call that succeeded
pub done : (change : Change) (told now : Option DiskState) (Pre Post : DiskState → Type 0) → now ≡ option_map (after change) told → Reads told → IfSome told Pre
    → ((d : DiskState) → MayLeave d (image_of d) → Pre d → Post (after change d)) → IfSome now Post
done change None now Pre Post is reads pre each = rw is tt
done change (Some d) now Pre Post is reads pre each = rw is (each d reads pre)

-- what follows
pub weaken : (told : Option DiskState) (Pre Post : DiskState → Type 0) → IfSome told Pre → ((d : DiskState) → Pre d → Post d) → IfSome told Post
weaken None Pre Post pre each = tt
weaken (Some d) Pre Post pre each = each d pre

pub on_ok : {T E : Type 0} (result : Result T E) (Q : Type 0) → ((x : T) → result ≡ Ok x → Q) → OnOk result Q
on_ok (Ok x) Q each = each x refl
on_ok (Err e) Q each = tt

pub always : (told : Option DiskState) (Post : DiskState → Type 0) → ((d : DiskState) → Post d) → IfSome told Post
always None Post each = tt
always (Some d) Post each = each d

-- what is said of a disk beside its other file, as far as it tells
pub beside_told : (told : Option DiskState) (file : FileNo) (S : List ℕ → DiskState → Type 0) → IfSome told (λ d. S (reads_of d (other_file file)) d) → IfSome told (S (read_of told (other_file file)))
beside_told None file S is = tt
beside_told (Some d) file S is = is
