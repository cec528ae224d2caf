-- What two files stand for. All numbers are big-endian.
use Rattle.std.specs.Prelude.{ℕ, zero, suc, ◌+◌, ◌-◌, ◌^◌, ◌==◌, nat_le, nat_lt, Bool, not, ◌&&◌, ◌||◌, if◌then◌else◌, List, [], ◌∷◌, ◌++◌, length, take, drop, slice_index, codes, Option, None, Some, Result, Ok, Err}
use Rattle.std.specs.Str.{bytes_eq}
use Rattle.std.specs.Int.{w32, w64, from_be_bytes, to_be_bytes}
use Rattle.crash_disk.specs.declared.file_no.FileNo.{FileNo}
use Rattle.crash_disk.specs.declared.file_no.FileNo.TheVariants.{Zero, One}
use Rattle.crash_disk.specs.Disk.{Image}
use Rattle.gate_journal.specs.declared.header.Header.{Header}

-- A file's header has 72 bytes: at 0 the commit, 0x01 where it is committed; at 1 the letters; at 8, 16 and 24 the
-- generation, the horizon and the next number; at 32 the version; at 70 the gate of the first record. The bytes 33 to
-- 69 and 71 are not looked at.
abbrev pub letters : List ℕ
letters = codes "SAMLJNL"

abbrev pub number_at : List ℕ → ℕ → ℕ
number_at file at = from_be_bytes w64 (take 8 (drop at file))

abbrev pub header_of : List ℕ → Header
header_of file = record { generation = number_at file 8; horizon = number_at file 16; next = number_at file 24 }

-- How many bytes a file may have, and a payload of it: half as many in version 1.
abbrev pub LONGEST_FILE : ℕ
LONGEST_FILE = 134217728

abbrev pub LONGEST_PAYLOAD : ℕ
LONGEST_PAYLOAD = 1048576

abbrev pub longest_file : ℕ → ℕ
longest_file version = if version == 1 then 67108864 else LONGEST_FILE

abbrev pub longest_payload : ℕ → ℕ
longest_payload version = if version == 1 then 524288 else LONGEST_PAYLOAD

-- From place 72 on stand bodies: the length of a payload in four bytes, the payload, and the gate of the next record.
abbrev pub size_of : List ℕ → ℕ
size_of body = from_be_bytes w32 (take 4 body)

abbrev pub payload_of : List ℕ → List ℕ
payload_of body = take (size_of body) (drop 4 body)

-- whether a body lies whole in the file, and its payload is not too long
abbrev pub is_whole : ℕ → List ℕ → Bool
is_whole longest body = nat_le (size_of body) longest && nat_le (size_of body + 5) (length body)

-- one payload more in front
abbrev pub prepend : List ℕ → Result (List (List ℕ)) ℕ → Result (List (List ℕ)) ℕ
prepend payload (Ok payloads) = Ok (payload ∷ payloads)
prepend payload (Err place) = Err place

-- The payloads behind a gate. A record is there where its gate is 0x01 and all records before it are; every other gate
-- ends the list. A record that is there and is not whole has its place as the fault. `bodies` is what stands behind the
-- gate, at that place; each step takes one body off, so there are not more steps than bytes.
unfoldable pub payloads_in : ℕ → ℕ → ℕ → ℕ → List ℕ → Result (List (List ℕ)) ℕ
payloads_in zero longest place gate bodies = if gate == 1 then Err place else Ok []
payloads_in (suc steps) longest place gate bodies =
    if gate == 1 then
    if is_whole longest bodies
    then prepend (payload_of bodies) (payloads_in steps longest (place + (size_of bodies + 5)) (slice_index bodies (size_of bodies + 4)) (drop (size_of bodies + 5) bodies))
    else Err place
    else Ok []

abbrev pub payloads_from : ℕ → ℕ → ℕ → List ℕ → Result (List (List ℕ)) ℕ
payloads_from longest place gate bodies = payloads_in (length bodies) longest place gate bodies

-- the payloads of a file
abbrev pub payloads_of : ℕ → List ℕ → Result (List (List ℕ)) ℕ
payloads_of longest file = payloads_from longest 72 (slice_index file 70) (drop 72 file)

-- what a committed file holds
pub record Committed : Type 0 where
  pub version : ℕ
  pub header : Header
  pub payloads : List (List ℕ)

abbrev pub with_payloads : List ℕ → Result (List (List ℕ)) ℕ → Result (Option Committed) ℕ
with_payloads file (Ok payloads) = Ok (Some (record { version = slice_index file 32; header = header_of file; payloads = payloads }))
with_payloads file (Err place) = Err place

-- A committed file: its version is 1 or 2, it is not too long for it, its generation is not the last one where it has
-- to be migrated, and its records are whole. Else the place of the first fault.
unfoldable pub committed_of : List ℕ → Result (Option Committed) ℕ
committed_of file =
    let version = slice_index file 32 in
    if not (version == 1 || version == 2) then Err 32
    else if version == 1 && nat_lt (longest_file 1) (length file) then Err (longest_file 1)
    else if version == 1 && number_at file 8 == 2 ^ 64 - 1 then Err 8
    else with_payloads file (payloads_of (longest_payload version) file)

-- One file of an image: what it holds where it is committed, nothing where it is shorter than its header or not
-- committed, and else the place of its fault.
unfoldable pub file_of : List ℕ → Result (Option Committed) ℕ
file_of file =
    if nat_lt (length file) 72 then Ok None
    else if not (bytes_eq (take 7 (drop 1 file)) letters) then Err 1
    else if nat_lt (longest_file 2) (length file) then Err (longest_file 2)
    else if not (slice_index file 0 == 1) then Ok None
    else committed_of file

-- how many bytes the bodies of these payloads have, and where the next one begins
abbrev pub sizes : List (List ℕ) → ℕ
sizes [] = 0
sizes (payload ∷ payloads) = length payload + 5 + sizes payloads

abbrev pub end_of : List (List ℕ) → ℕ
end_of payloads = 72 + sizes payloads

-- where the gate of the next record stands
abbrev pub gate_place : List (List ℕ) → ℕ
gate_place [] = 70
gate_place (payload ∷ payloads) = end_of (payload ∷ payloads) - 1

-- a body with a closed gate behind it
abbrev pub body_of : List ℕ → List ℕ
body_of payload = to_be_bytes w32 (length payload) ++ payload ++ 0 ∷ []

-- The gate in front of these payloads, and what stands behind it: body after body, each gate set but the last.
abbrev pub gate_of : List (List ℕ) → ℕ
gate_of [] = 0
gate_of (payload ∷ payloads) = 1

abbrev pub bodies_of : List (List ℕ) → List ℕ
bodies_of [] = []
bodies_of (payload ∷ payloads) = to_be_bytes w32 (length payload) ++ payload ++ gate_of payloads ∷ bodies_of payloads

-- a journal, and the file that it stands in
pub record Kept : Type 0 where
  pub file : FileNo
  pub holds : Committed

-- where an image is foreign
pub record Fault : Type 0 where
  pub file : FileNo
  pub place : ℕ

-- What two files stand for: the committed file with the greater generation. File 0 is looked at first, and two of one
-- generation are a fault of file 1.
abbrev pub joined : Result (Option Committed) ℕ → Result (Option Committed) ℕ → Result (Option Kept) Fault
joined (Err place) b = Err (record { file = Zero; place = place })
joined (Ok a) (Err place) = Err (record { file = One; place = place })
joined (Ok None) (Ok None) = Ok None
joined (Ok (Some a)) (Ok None) = Ok (Some (record { file = Zero; holds = a }))
joined (Ok None) (Ok (Some b)) = Ok (Some (record { file = One; holds = b }))
joined (Ok (Some a)) (Ok (Some b)) =
    if a.header.generation == b.header.generation then Err (record { file = One; place = 8 })
    else if nat_lt b.header.generation a.header.generation then Ok (Some (record { file = Zero; holds = a }))
    else Ok (Some (record { file = One; holds = b }))

-- What an image stands for: a journal, none yet, or a fault.
abbrev pub journal : Image → Result (Option Kept) Fault
journal image = joined (file_of image.zero) (file_of image.one)
