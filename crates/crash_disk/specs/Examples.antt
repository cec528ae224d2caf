-- The definitions at worked examples.
use Rattle.std.specs.Prelude.{◌≡◌, ◌-◌, ◌^◌, false, [], ◌∷◌, refl}
use Rattle.crash_disk.specs.declared.file_no.FileNo.TheVariants.{Zero, One}
use Rattle.crash_disk.specs.declared.change.Change.TheVariants.{Write, Cut, Sync}
use Rattle.crash_disk.specs.Counts.{one_more}
use Rattle.crash_disk.specs.Disk.{DiskState, after, settled, settled_image, image_of, overwritten}
use Rattle.crash_disk.specs.Memory.{DiskInMemory, after_call, left_by, state_of}

-- a count stays at its end
counts : (one_more 0 ≡ 1) × (one_more (2 ^ 64 - 2) ≡ 2 ^ 64 - 1) × (one_more (2 ^ 64 - 1) ≡ 2 ^ 64 - 1)
counts = (refl, refl, refl)

-- over what is there, at the end, and past it
writes : (overwritten (1 ∷ 2 ∷ 3 ∷ []) 1 (9 ∷ []) ≡ 1 ∷ 9 ∷ 3 ∷ []) × (overwritten (1 ∷ 2 ∷ []) 2 (9 ∷ []) ≡ 1 ∷ 2 ∷ 9 ∷ []) × (overwritten (1 ∷ 2 ∷ []) 1 (8 ∷ 9 ∷ []) ≡ 1 ∷ 8 ∷ 9 ∷ [])
writes = (refl, refl, refl)

abbrev two_files : DiskState
two_files = settled_image (record { zero = 1 ∷ 2 ∷ 3 ∷ []; one = [] })

-- file 0 is cut to one byte, and two are written behind it: it had lengths from 1 to 3, and the places 1 and 2 were written
abbrev changed : DiskState
changed = after (Write Zero 1 (8 ∷ 9 ∷ [])) (after (Cut Zero 1) two_files)

between_syncs : changed.zero ≡ record { reads = 1 ∷ 8 ∷ 9 ∷ []; kept = 1 ∷ 2 ∷ 3 ∷ []; least = 1; greatest = 3; written = record { start = 1; end = 3 } ∷ [] }
between_syncs = refl

-- a sync of file 0 settles it, and one of file 1 does not
syncs : ((after (Sync Zero) changed).zero ≡ settled (1 ∷ 8 ∷ 9 ∷ [])) × ((after (Sync One) changed).zero ≡ changed.zero)
syncs = (refl, refl)

-- what the three picks leave
picks : (left_by 0 changed ≡ record { zero = 1 ∷ 2 ∷ 3 ∷ []; one = [] }) × (left_by 1 changed ≡ record { zero = 1 ∷ 8 ∷ 9 ∷ []; one = [] }) × (left_by 2 changed ≡ record { zero = 1 ∷ 1 ∷ 1 ∷ []; one = [] })
picks = (refl, refl, refl)

-- a disk in memory of which the next changing call is to fail, and the one after it to stop it with pick 1
abbrev memory : DiskInMemory
memory = record { start = record { zero = 7 ∷ []; one = [] }; log = []; failing = 1; stopping = 2; pick = 1; stopped = false; starved = false; faults = 0 }

calls : ((after_call (Cut Zero 0) memory).0 ≡ false) × (image_of (state_of (after_call (Cut Zero 0) memory).1) ≡ record { zero = 7 ∷ []; one = [] })
    × ((after_call (Cut Zero 0) (after_call (Cut Zero 0) memory).1).0 ≡ false) × (image_of (state_of (after_call (Cut Zero 0) (after_call (Cut Zero 0) memory).1).1) ≡ record { zero = []; one = [] })
calls = (refl, refl, refl, refl)
