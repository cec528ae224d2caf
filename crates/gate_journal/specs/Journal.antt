-- What the calls of a journal do to what its disk stands for.
use Rattle.std.specs.Prelude.{◌≡◌, ◌⊎◌, ℕ, ◌+◌, ◌-◌, ◌≤◌, Bool, MatchBool, List, [], ◌∷◌, ◌++◌, length, All, Option, Some, IfSome, Ok, IsOk}
use Rattle.crash_disk.specs.declared.file_no.FileNo.{FileNo}
use Rattle.crash_disk.specs.Disk.{Image, DiskState, MayLeave, IsSettled, image_of}
use Rattle.crash_disk.specs.Torn.{other_file}
use Rattle.gate_journal.specs.Format.{Kept, LONGEST_FILE, LONGEST_PAYLOAD, journal, longest_file, longest_payload, end_of, gate_place}

-- an opened journal
pub record OpenedJournal : Type 0 where
  -- what it holds, and in which file
  pub kept : Kept
  -- how long a payload may be for which there is memory: none where none was reserved since the last record
  pub spare : Option ℕ
  -- whether a call failed since it was opened
  pub broken : Bool

-- how many bytes are left for bodies
abbrev pub room_of : Kept → ℕ
room_of kept = LONGEST_FILE - end_of kept.holds.payloads

-- The disk is the journal's own. While it is not broken, a crash leaves what a read gives, which stands for the journal.
-- While it is broken, each image that a crash may leave stands for some list of records, or for no journal yet.
abbrev pub IsOwn : Option DiskState → OpenedJournal → Type 0
IsOwn told j =
    IfSome told (λ disk. MatchBool j.broken
    ((image : Image) → MayLeave disk image → IsOk (journal image))
    (IsSettled disk × (journal (image_of disk) ≡ Ok (Some j.kept))))

-- a journal with one payload more
abbrev pub kept_with : List ℕ → Kept → Kept
kept_with payload kept = record kept { holds = record (kept.holds) { payloads = kept.holds.payloads ++ payload ∷ [] } }

-- The image stands for this journal, or for it and the one payload more.
abbrev pub IsBeforeOrAfter : List ℕ → Kept → Image → Type 0
IsBeforeOrAfter payload kept image = (journal image ≡ Ok (Some kept)) ⊎ (journal image ≡ Ok (Some (kept_with payload kept)))

-- Payloads that fit a file of a version.
pub record FitsVersion (version : ℕ) (payloads : List (List ℕ)) : Type 0 where
  pub each : All (λ payload. length payload ≤ longest_payload version) payloads
  pub file : end_of payloads ≤ longest_file version

-- Payloads that fit a file of version 2: neither one of them nor the file is too long.
abbrev pub Fits : List (List ℕ) → Type 0
Fits payloads = FitsVersion 2 payloads

-- A journal made anew: these payloads, this horizon and this next number, in the other file, with the next generation
-- and in version 2.
abbrev pub made_anew : List (List ℕ) → ℕ → ℕ → Kept → Kept
made_anew payloads horizon next kept = record {
  file = other_file kept.file;
  holds = record { version = 2; header = record { generation = kept.holds.header.generation + 1; horizon = horizon; next = next }; payloads = payloads };
}

-- The same with the horizon and the next number that the journal had.
abbrev pub remade : List (List ℕ) → Kept → Kept
remade payloads kept = made_anew payloads kept.holds.header.horizon kept.holds.header.next kept

-- The image stands for the journal from before, or for the one that was made anew.
abbrev pub IsOldOrNew : Kept → Kept → Image → Type 0
IsOldOrNew old new image = (journal image ≡ Ok (Some old)) ⊎ (journal image ≡ Ok (Some new))

-- A record of this payload may be written there: the disk stands for a journal of version 2 whose records end there.
pub record IsReadyFor (file : FileNo) (end gate : ℕ) (payload : List ℕ) (disk : DiskState) : Type 0 where
  pub kept : Kept
  pub settled : IsSettled disk
  pub stands : journal (image_of disk) ≡ Ok (Some kept)
  pub version : kept.holds.version ≡ 2
  pub file_is : file ≡ kept.file
  pub end_is : end ≡ end_of kept.holds.payloads
  pub gate_is : gate ≡ gate_place kept.holds.payloads
  pub longest : length payload ≤ LONGEST_PAYLOAD
  pub fits : end + (length payload + 5) ≤ LONGEST_FILE

-- The image stands for what the disk stood for, or for that and the one payload more.
abbrev pub WithOrWithout : List ℕ → DiskState → Image → Type 0
WithOrWithout payload disk image = (kept : Kept) × (journal (image_of disk) ≡ Ok (Some kept)) × IsBeforeOrAfter payload kept image

-- The new disk leaves what it reads, which stands for what the old one stood for and the one payload more.
abbrev pub Gained : List ℕ → DiskState → DiskState → Type 0
Gained payload old new = IsSettled new × ((kept : Kept) × (journal (image_of old) ≡ Ok (Some kept)) × (journal (image_of new) ≡ Ok (Some (kept_with payload kept))))
