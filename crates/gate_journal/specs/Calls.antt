-- Which changing calls of a disk the calls of a journal make, in their order.
use Rattle.std.specs.Prelude.{ℕ, ◌+◌, ◌==◌, nat_lt, if◌then◌else◌, List, [], ◌∷◌, ◌++◌, length, slice_index, Option, None, Some, Result, Ok, Err}
use Rattle.std.specs.Int.{w32, to_be_bytes}
use Rattle.crash_disk.specs.declared.change.Change.{Change}
use Rattle.crash_disk.specs.declared.change.Change.TheVariants.{Write, Cut, Sync}
use Rattle.crash_disk.specs.declared.file_no.FileNo.{FileNo}
use Rattle.crash_disk.specs.declared.file_no.FileNo.TheVariants.{Zero, One}
use Rattle.crash_disk.specs.Disk.{DiskState, image_of, reads_of}
use Rattle.gate_journal.specs.Format.{Committed, Kept, Fault, journal, body_of, gate_of, end_of, gate_place}
use Rattle.gate_journal.specs.Making.{fields_bytes, head_bytes, first_journal}

-- A FILE IS MADE

-- A header that is not committed is put where there is none: the file is cut to nothing, all but the last byte of the header is
-- written, and once that is synced, the last byte.
abbrev pub lengthening : FileNo → (head : List ℕ) → List Change
lengthening file head = Cut file 0 ∷ Sync file ∷ Write file 0 head ∷ Sync file ∷ []

abbrev pub putting_header : FileNo → (head : List ℕ) → List Change
putting_header file head = lengthening file head ++ Write file 71 (0 ∷ []) ∷ []

-- a file of these bytes has no commit any more
abbrev pub closing : FileNo → (bytes : List ℕ) → List Change
closing file bytes = if slice_index bytes 0 == 1 then Write file 0 (0 ∷ []) ∷ Sync file ∷ [] else []

-- A file of these bytes gets a header that is not committed: one is put where the file is shorter, and else its commit is taken
-- off.
abbrev pub clearing : FileNo → (head bytes : List ℕ) → List Change
clearing file head bytes = if nat_lt (length bytes) 72 then putting_header file head ++ Sync file ∷ [] else closing file bytes

-- the file is cut to its header, and the fields of the header are written
abbrev pub beginning : FileNo → (fields : List ℕ) → List Change
beginning file fields = Cut file 72 ∷ Sync file ∷ Write file 8 fields ∷ []

-- from a place on body after body is written, each in one write
abbrev pub writing_bodies : FileNo → (place : ℕ) → (payloads : List (List ℕ)) → List Change
writing_bodies file place [] = []
writing_bodies file place (payload ∷ payloads) =
    Write file place (to_be_bytes w32 (length payload) ++ payload ++ gate_of payloads ∷ [])
    ∷ writing_bodies file (place + (length payload + 5)) payloads

abbrev pub filling : FileNo → (fields : List ℕ) → (payloads : List (List ℕ)) → List Change
filling file fields payloads = beginning file fields ++ writing_bodies file 72 payloads

-- all that was written is synced, and then the commit is, in a write of its own
abbrev pub committing : FileNo → List Change
committing file = Sync file ∷ Write file 0 (1 ∷ []) ∷ Sync file ∷ []

-- a file of these bytes is made anew, with this header in front of the fields and these bodies behind them
abbrev pub making_beside : FileNo → (head fields : List ℕ) → (payloads : List (List ℕ)) → (bytes : List ℕ) → List Change
making_beside file head fields payloads bytes = clearing file head bytes ++ filling file fields payloads ++ committing file

-- a file of these bytes is made anew, so that it holds this journal
abbrev pub making_anew : FileNo → Committed → (bytes : List ℕ) → List Change
making_anew file holds bytes =
    let gate = gate_of holds.payloads in
    making_beside file (head_bytes holds.header gate) (fields_bytes holds.header gate) holds.payloads bytes

-- WHAT THE CALLS OF A JOURNAL MAKE

-- A journal is made anew in a file, by a compaction or in version 2.
abbrev pub remaking : Kept → DiskState → List Change
remaking kept disk = making_anew kept.file kept.holds (reads_of disk kept.file)

-- the first journal, in file 0 of these bytes, which is not committed
abbrev pub preparing_first : (bytes : List ℕ) → List Change
preparing_first bytes =
    if nat_lt (length bytes) 72 then putting_header Zero (head_bytes first_journal.header 0)
    else beginning Zero (fields_bytes first_journal.header 0)

abbrev pub making_first : (bytes : List ℕ) → List Change
making_first bytes = preparing_first bytes ++ committing Zero

-- no calls but where there is no journal yet
abbrev pub where_none : Result (Option Kept) Fault → List Change → List Change
where_none (Ok None) plan = plan
where_none (Ok (Some kept)) plan = []
where_none (Err fault) plan = []

-- both files are synced, file 0 first
abbrev pub syncing_both : List Change
syncing_both = Sync Zero ∷ Sync One ∷ []

-- An opening syncs both files. Where they hold no journal yet, it makes the first one.
abbrev pub opening : DiskState → List Change
opening disk = syncing_both ++ where_none (journal (image_of disk)) (making_first (reads_of disk Zero))

-- A record is written: its body with a closed gate behind it and, once that is synced, its gate is opened in a write of its own.
abbrev pub writing_record : FileNo → (end gate : ℕ) → (payload : List ℕ) → List Change
writing_record file end gate payload = Write file end (body_of payload) ∷ Sync file ∷ Write file gate (1 ∷ []) ∷ Sync file ∷ []

-- one record more of a journal
abbrev pub appending : Kept → (payload : List ℕ) → List Change
appending kept payload = writing_record kept.file (end_of kept.holds.payloads) (gate_place kept.holds.payloads) payload
