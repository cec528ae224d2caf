-- What a ledger is, and what the images of its disk stand for.
use Rattle.std.specs.Prelude.{◌≡◌, ◌⊎◌, ℕ, ◌+◌, ◌-◌, ◌≤◌, ◌<◌, ◌==◌, max, Bool, true, MatchBool, List, [], ◌∷◌, ◌++◌, length, map, take, All, Option, None, Some, IfSome, IsSomeAnd, IsOk, Result, Ok, Err, if◌then◌else◌}
use Rattle.crash_disk.specs.declared.file_no.FileNo.{FileNo}
use Rattle.crash_disk.specs.declared.file_no.FileNo.TheVariants.{Zero}
use Rattle.crash_disk.specs.Disk.{Image, DiskState, MayLeave, IsSettled, image_of}
use Rattle.crash_disk.specs.Torn.{other_file}
use Rattle.gate_journal.specs.declared.header.Header.{Header}
use Rattle.gate_journal.specs.Format.{Kept, Fault, LONGEST_FILE, LONGEST_PAYLOAD, journal, end_of}
use Rattle.ledger_rules.specs.Numbers.{Drawn, NUMBER_END}
use Rattle.record_ledger.specs.Rules.{RecordRules, RowRules, next_of, records_of}

-- a journal whose payloads are records of the ledger
pub record Held (R : Type 0) : Type 0 where
  pub file : FileNo
  pub version : ℕ
  pub header : Header
  pub records : List R

-- an opened ledger
pub record OpenedLedger (R S : Type 0) : Type 0 where
  pub held : Held R
  -- the key of its IDs
  pub key : List ℕ
  -- whether a call failed since it was opened
  pub broken : Bool
  -- how long a payload may be for which there is memory
  pub payload_spare : Option ℕ
  -- the rows of the records, and for how many rows more there is memory
  pub standing : S

-- a ledger with one record more
abbrev pub held_with : {R : Type 0} → R → Held R → Held R
held_with r held = record held { records = held.records ++ r ∷ [] }

-- What a ledger is opened as: what stands there, an empty ledger where there is no journal yet. A journal of version 1 is
-- made anew in version 2: in the other file, with the next generation.
abbrev pub empty_ledger : {R : Type 0} → Held R
empty_ledger = record { file = Zero; version = 2; header = record { generation = 1; horizon = 0; next = 1 }; records = [] }

abbrev pub migrated : {R : Type 0} → Held R → Held R
migrated held =
    if held.version == 1
    then record held { file = other_file held.file; version = 2; header = record (held.header) { generation = held.header.generation + 1 } }
    else held

abbrev pub taken : {R : Type 0} → Result (Option (Held R)) Fault → Result (Held R) Fault
taken (Ok None) = Ok empty_ledger
taken (Ok (Some held)) = Ok (migrated held)
taken (Err fault) = Err fault

-- What a journal holds, or the file and the place of the length of the first payload that is no record of the ledger.
abbrev pub with_records : {R : Type 0} → Kept → Result (List R) ℕ → Result (Held R) Fault
with_records kept (Ok records) = Ok (record { file = kept.file; version = kept.holds.version; header = kept.holds.header; records = records })
with_records kept (Err n) = Err (record { file = kept.file; place = end_of (take n kept.holds.payloads) })

abbrev pub some_held : {R : Type 0} → Result (Held R) Fault → Result (Option (Held R)) Fault
some_held (Ok held) = Ok (Some held)
some_held (Err fault) = Err fault

module _ {R : Type 0} (rules : RecordRules R) where
  abbrev pub held_of : Kept → Result (Held R) Fault
  held_of kept = with_records kept (records_of rules kept.holds.version kept.holds.payloads)

  -- What an image stands for: a ledger, no journal yet, or a fault.
  abbrev pub of_journal : Result (Option Kept) Fault → Result (Option (Held R)) Fault
  of_journal (Ok None) = Ok None
  of_journal (Ok (Some kept)) = some_held (held_of kept)
  of_journal (Err fault) = Err fault

  abbrev pub ledger_in : Image → Result (Option (Held R)) Fault
  ledger_in image = of_journal (journal image)

  -- The next number to be drawn: the larger of the header's and one more than the greatest number that a record drew.
  abbrev pub next_number : Held R → ℕ
  next_number held = max held.header.next (next_of rules held.records)

  -- how many bytes are left in the file for bodies
  abbrev pub room_left : Held R → ℕ
  room_left held = LONGEST_FILE - end_of (map (rules.bytes 2) held.records)

  -- A record fits: its payload is not too long, there is room for it and the 5 bytes around it, and its numbers are below the
  -- end.
  pub record IsFitting (held : Held R) (r : R) : Type 0 where
    pub payload : length (rules.bytes 2 r) ≤ LONGEST_PAYLOAD
    pub room : length (rules.bytes 2 r) + 5 ≤ room_left held
    pub numbers : All (λ (d : Drawn). d.number < NUMBER_END) (rules.drawn r)

  -- The journal that the code writes for a ledger.
  abbrev pub kept_of : Held R → Kept
  kept_of held = record { file = held.file; holds = record { version = held.version; header = held.header; payloads = map (rules.bytes 2) held.records } }

  -- The disk is the ledger's own. While it is not broken, a crash leaves what a read gives, which stands for the ledger and is
  -- the journal that the code writes for it. While it is broken, each image that a crash may leave stands for some ledger,
  -- or for no journal yet.
  abbrev pub IsOwn : {S : Type 0} → Option DiskState → OpenedLedger R S → Type 0
  IsOwn told ledger =
      IfSome told (λ disk. MatchBool ledger.broken
      ((image : Image) → MayLeave disk image → IsOk (ledger_in image))
      (IsSettled disk × (ledger_in (image_of disk) ≡ Ok (Some ledger.held)) × (journal (image_of disk) ≡ Ok (Some (kept_of ledger.held)))))

  -- The image stands for this ledger, or for it with the one record more.
  abbrev pub IsWithOrWithout : R → Held R → Image → Type 0
  IsWithOrWithout r held image = (ledger_in image ≡ Ok (Some held)) ⊎ (ledger_in image ≡ Ok (Some (held_with r held)))

  -- The image stands for what an image of the disk at the start stood for, or for the ledger that is opened from that.
  abbrev pub IsOpenedFrom : DiskState → Image → Type 0
  IsOpenedFrom disk image =
      (start : Image) × MayLeave disk start
      × ((ledger_in image ≡ ledger_in start) ⊎ ((held : Held R) × (taken (ledger_in start) ≡ Ok held) × (ledger_in image ≡ Ok (Some held))))

  -- The same as far as the disk tells: of one that does not tell nothing is said.
  abbrev pub LeftByOpening : Option DiskState → Image → Type 0
  LeftByOpening told image = IfSome told (λ disk. IsOpenedFrom disk image)

-- A record can be committed: it is one of the ledger, its numbers were not drawn before, it fits, and there is memory.
pub record CanCommit {R S : Type 0} (rules : RecordRules R) (row_rules : RowRules R S) (ledger : OpenedLedger R S) (r : R) : Type 0 where
  pub is : rules.is_record ledger.held.records r ≡ true
  pub numbers : All (λ (d : Drawn). next_number rules ledger.held ≤ d.number) (rules.drawn r)
  pub fits : IsFitting rules ledger.held r
  pub payload : IsSomeAnd ledger.payload_spare (λ n. length (rules.bytes 2 r) ≤ n)
  pub room : row_rules.has_room ledger.standing r

-- No memory that was made ready is given up.
pub record KeepsSpare {R S : Type 0} (row_rules : RowRules R S) (old new : OpenedLedger R S) : Type 0 where
  pub payload : IfSome old.payload_spare (λ n. IsSomeAnd new.payload_spare (λ m. n ≤ m))
  pub rows : row_rules.keeps_room old.standing new.standing
