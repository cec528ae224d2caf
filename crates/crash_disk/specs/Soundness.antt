-- What the rule keeps: what a file reads, and what it held at its last sync, are among what a crash may leave of it.
use Rattle.std.specs.Prelude.{◌==◌}
use Rattle.std.proofs.Common.{◌≡◌, ◌⊎◌, inl, inr, Option, None, Some, if◌then◌else◌, Bool, true, false, zero, suc, ℕ, ◌+◌, ◌<◌, ◌≤◌, min, max, List, [], ◌∷◌, ◌++◌, length, take, get_or, refl, sym, ◌∙◌, ap, arith, rules, length-append, length-take, length-drop, get_or-take}
use Rattle.std.proofs.lemmas.List.{places, ext_get_or, take_all}
use Rattle.crash_disk.specs.declared.range.Range.{Range}
use Rattle.crash_disk.specs.Ranges.{IsOutside, is_in}
use Rattle.std.proofs.lemmas.Bool.Decides.{nat_tests}
use Rattle.crash_disk.specs.declared.file_no.FileNo.TheVariants.{Zero, One}
use Rattle.crash_disk.specs.declared.change.Change.{Change}
use Rattle.crash_disk.specs.declared.change.Change.TheVariants.{Write, Cut, Sync}
use Rattle.crash_disk.specs.declared.change.Taken.{Taken}
use Rattle.crash_disk.specs.Disk.{Image, FileState, FileMayLeave, DiskState, MayLeave, image_of, settled, settled_image, overwritten, after_write, after_cut, changed, after, begun}
use Rattle.crash_disk.specs.Memory.{IsSound, is_pending, marked, marked_from, picked, left_by, after_taken, replay, DiskInMemory, state_of, LeftSince}

pub outside-push : (i : ℕ) (ranges : List Range) (range : Range) → IsOutside i (ranges ++ range ∷ []) → IsOutside i ranges × ((i < range.start) ⊎ (range.end ≤ i))
outside-push i [] range out = (tt, out.0)
outside-push i (r ∷ ranges) range out = let rest = outside-push i ranges range out.1 in ((out.0, rest.0), rest.1)

pub sound-settled : (bytes : List ℕ) → IsSound (settled bytes)
sound-settled bytes = record {
  reads = record { no_shorter = omega arith; no_longer = omega arith; elsewhere = λ i low out. refl };
  kept = record { no_shorter = omega arith; no_longer = omega arith; elsewhere = λ i low out. refl };
}

pub length-overwritten : (old : List ℕ) (at : ℕ) (bytes : List ℕ) → at ≤ length old → length (overwritten old at bytes) ≡ max (length old) (at + length bytes)
length-overwritten old at bytes le = simp (length-append, length-take, length-drop) (omega arith)

not_shorter : (old : List ℕ) (at : ℕ) (bytes : List ℕ) → length old ≤ length (overwritten old at bytes)
not_shorter old at bytes = simp (length-append, length-take, length-drop) (omega arith)

pub overwritten-below : (old : List ℕ) (at : ℕ) (bytes : List ℕ) (i : ℕ) → i < at → i < length old → get_or (overwritten old at bytes) i 0 ≡ get_or old i 0
overwritten-below old at bytes i low le = search (rules, places)

pub overwritten-above : (old : List ℕ) (at : ℕ) (bytes : List ℕ) (i : ℕ) → at + length bytes ≤ i → i < length old → get_or (overwritten old at bytes) i 0 ≡ get_or old i 0
overwritten-above old at bytes i high le = search (rules, places)

pub sound-write : (file : FileState) (at : ℕ) (bytes : List ℕ) → IsSound file → IsSound (after_write at bytes file)
sound-write file at bytes sound =
    let longer : length file.reads ≤ length (overwritten file.reads at bytes) = not_shorter file.reads at bytes in
    let reads = sound.reads in
    let kept = sound.kept in
    record {
      reads = record {
        no_shorter = omega arith;
        no_longer = omega arith;
        elsewhere = λ i low out.
            let parts = outside-push i file.written (record { start = at; end = at + length bytes }) out in
            let inside : i < length file.reads = omega arith in
            let was : get_or file.reads i 0 ≡ get_or file.kept i 0 = reads.elsewhere i (omega arith) parts.0 in
            elim parts.1 [ inl below ↦ overwritten-below file.reads at bytes i below inside ∙ was | inr above ↦ overwritten-above file.reads at bytes i above inside ∙ was ];
      };
      kept = record { no_shorter = omega arith; no_longer = omega arith; elsewhere = λ i low out. refl };
    }

pub sound-cut : (file : FileState) (n : ℕ) → IsSound file → IsSound (after_cut n file)
sound-cut file n sound =
    let shorter : length (take n file.reads) ≡ min n (length file.reads) = length-take n file.reads in
    let reads = sound.reads in
    let kept = sound.kept in
    record {
      reads = record {
        no_shorter = omega arith;
        no_longer = omega arith;
        elsewhere = λ i low out.
            let was : get_or file.reads i 0 ≡ get_or file.kept i 0 = reads.elsewhere i (omega arith) out in
            let inside : i < n = omega arith in
            get_or-take n file.reads i 0 inside ∙ was;
      };
      kept = record { no_shorter = omega arith; no_longer = omega arith; elsewhere = λ i low out. refl };
    }

pub length-marked_from : (test : ℕ → Bool) (n : ℕ) (bytes : List ℕ) → length (marked_from test n bytes) ≡ length bytes
length-marked_from test n [] = refl
length-marked_from test n (b ∷ bytes) = ap suc (length-marked_from test (n + 1) bytes)

pub marked_from-at : (test : ℕ → Bool) (n : ℕ) (bytes : List ℕ) (i : ℕ) → i < length bytes → get_or (marked_from test n bytes) i 0 ≡ (if test (n + i) then 1 else get_or bytes i 0)
marked_from-at test n [] i low = absurd (omega arith)
marked_from-at test n (b ∷ bytes) zero low = let same : n + 0 ≡ n = omega arith in rw same refl
marked_from-at test n (b ∷ bytes) (suc i) low =
    let same : n + 1 + i ≡ n + suc i = omega arith in
    marked_from-at test (n + 1) bytes i (omega arith) ∙ ap (λ (k : ℕ). if test k then 1 else get_or bytes i 0) same

pub outside_is_not_in : (i : ℕ) (ranges : List Range) → IsOutside i ranges → is_in i ranges ≡ false
outside_is_not_in i [] out = refl
outside_is_not_in i (r ∷ ranges) out =
    let rest = outside_is_not_in i ranges out.1 in
    elim out.0 [ inl low ↦ grind (arith, nat_tests) | inr high ↦ grind (arith, nat_tests) ]

pub sound-marked : (file : FileState) → IsSound file → FileMayLeave file (marked file)
sound-marked file sound =
    let long = length-marked_from (is_pending file) 0 file.reads in
    let reads = sound.reads in
    record {
      no_shorter = omega arith;
      no_longer = omega arith;
      elsewhere = λ i low out.
          let out_of : is_in i file.written ≡ false = outside_is_not_in i file.written out in
          let at : get_or (marked_from (is_pending file) 0 file.reads) i 0 ≡ (if is_pending file (0 + i) then 1 else get_or file.reads i 0) = marked_from-at (is_pending file) 0 file.reads i (omega arith) in
          let here : 0 + i ≡ i = omega arith in
          let not_pending : is_pending file i ≡ false = grind (arith, nat_tests) in
          at ∙ ap (λ (k : ℕ). if is_pending file k then 1 else get_or file.reads i 0) here ∙ ap (λ (b : Bool). if b then 1 else get_or file.reads i 0) not_pending ∙ reads.elsewhere i low out;
    }

-- a file of the same length, whose bytes are marked where they are pending
pub is_marked : (file : FileState) (bytes : List ℕ) → length bytes ≡ length file.reads → ((i : ℕ) → i < length file.reads → get_or bytes i 0 ≡ (if is_pending file i then 1 else get_or file.reads i 0)) → bytes ≡ marked file
is_marked file bytes long each =
    let same = length-marked_from (is_pending file) 0 file.reads in
    ext_get_or 0 bytes (marked file) (long ∙ sym same) (λ i low.
    let here : 0 + i ≡ i = omega arith in
    each i (omega arith) ∙ sym (marked_from-at (is_pending file) 0 file.reads i (omega arith) ∙ ap (λ (k : ℕ). if is_pending file k then 1 else get_or file.reads i 0) here))

pub sound-marking : (file : FileState) → IsSound file → IsSound (record file { reads = marked file })
sound-marking file sound =
    let by = sound-marked file sound in
    record {
      reads = record { no_shorter = by.no_shorter; no_longer = by.no_longer; elsewhere = by.elsewhere };
      kept = record { no_shorter = sound.kept.no_shorter; no_longer = sound.kept.no_longer; elsewhere = sound.kept.elsewhere };
    }

pub replay-push : (disk : DiskState) (log : List Taken) (taken : Taken) → replay disk (log ++ taken ∷ []) ≡ after_taken taken.stop taken.change (replay disk log)
replay-push disk [] taken = refl
replay-push disk (t ∷ log) taken = replay-push (after_taken t.stop t.change disk) log taken

-- each file of a disk is sound
pub record IsSoundDisk (disk : DiskState) : Type 0 where
  pub zero : IsSound disk.zero
  pub one : IsSound disk.one

pub sound-changed : (change : Change) (disk : DiskState) → IsSoundDisk disk → IsSoundDisk (changed change disk)
sound-changed (Write Zero at bytes) disk sound = record { zero = sound-write disk.zero at bytes sound.zero; one = sound.one }
sound-changed (Write One at bytes) disk sound = record { zero = sound.zero; one = sound-write disk.one at bytes sound.one }
sound-changed (Cut Zero n) disk sound = record { zero = sound-cut disk.zero n sound.zero; one = sound.one }
sound-changed (Cut One n) disk sound = record { zero = sound.zero; one = sound-cut disk.one n sound.one }
sound-changed (Sync Zero) disk sound = record { zero = sound-settled disk.zero.reads; one = sound.one }
sound-changed (Sync One) disk sound = record { zero = sound.zero; one = sound-settled disk.one.reads }

pub sound-after : (change : Change) (disk : DiskState) → IsSoundDisk disk → IsSoundDisk (after change disk)
sound-after change disk sound = let is = sound-changed change disk sound in record { zero = is.zero; one = is.one }

pub sound-begun : (change : Change) (disk : DiskState) → IsSoundDisk disk → IsSoundDisk (begun change disk)
sound-begun (Write file at bytes) disk sound = sound-after (Write file at bytes) disk sound
sound-begun (Cut file n) disk sound = sound-after (Cut file n) disk sound
sound-begun (Sync file) disk sound = sound

pub sound-settled_image : (image : Image) → IsSoundDisk (settled_image image)
sound-settled_image image = record { zero = sound-settled image.zero; one = sound-settled image.one }

sound-after_taken : (stop : Option ℕ) (change : Change) (disk : DiskState) → IsSoundDisk disk → IsSoundDisk (after_taken stop change disk)
sound-after_taken None change disk sound = sound-after change disk sound
sound-after_taken (Some pick) change disk sound =
    let is = sound-settled_image (left_by pick (begun change disk)) in record { zero = is.zero; one = is.one }

pub sound-replay : (disk : DiskState) (log : List Taken) → IsSoundDisk disk → IsSoundDisk (replay disk log)
sound-replay disk [] sound = sound
sound-replay disk (t ∷ log) sound = sound-replay (after_taken t.stop t.change disk) log (sound-after_taken t.stop t.change disk sound)

sound-picked : (pick : ℕ) (file : FileState) → IsSound file → FileMayLeave file (picked pick file)
sound-picked pick file sound =
    elim (pick == 0) as (λ b. FileMayLeave file (if b then file.kept else if pick == 1 then file.reads else marked file)) [
      | true ↦ sound.kept
      | false ↦ elim (pick == 1) as (λ b. FileMayLeave file (if b then file.reads else marked file)) [ true ↦ sound.reads | false ↦ sound-marked file sound ]
    ]

-- what a stop leaves is among what a crash may leave
pub left_by_a_crash : (pick : ℕ) (disk : DiskState) → IsSoundDisk disk → MayLeave disk (left_by pick disk)
left_by_a_crash pick disk sound = record { zero = sound-picked pick disk.zero sound.zero; one = sound-picked pick disk.one sound.one }

-- where a file was synced, a crash leaves what it reads
pub only-settled : (bytes left : List ℕ) → FileMayLeave (settled bytes) left → left ≡ bytes
only-settled bytes left may =
    let low = may.no_shorter in
    let high = may.no_longer in
    let same : length left ≡ length bytes = omega arith in
    ext_get_or 0 left bytes same (λ i below. may.elsewhere i (omega arith) tt)

pub only-settled_image : (image left : Image) → MayLeave (settled_image image) left → left ≡ image
only-settled_image image left may =
    let zero : left.zero ≡ image.zero = only-settled image.zero left.zero may.zero in
    let one : left.one ≡ image.one = only-settled image.one left.one may.one in
    ap (λ (z : List ℕ). record { zero = z; one = left.one }) zero ∙ ap (λ (o : List ℕ). record { zero = image.zero; one = o }) one

pub reads_an_image : (m : DiskInMemory) → MayLeave (state_of m) (image_of (state_of m))
reads_an_image m =
    let sound = sound-replay (settled_image m.start) m.log (sound-settled_image m.start) in
    record { zero = sound.zero.reads; one = sound.one.reads }

pub left_since_now : (m : DiskInMemory) (t : ℕ) (image : Image) → t ≤ length m.log → MayLeave (state_of m) image → LeftSince m t image
left_since_now m t image le may =
    let all : take (length m.log) m.log ≡ m.log = take_all (length m.log) m.log (omega arith) in
    (length m.log, le, omega arith, rw all may)

pub left_now : (m : DiskInMemory) (image : Image) → LeftSince m (length m.log) image → MayLeave (state_of m) image
left_now m image (k, low, high, may) =
    let all : take k m.log ≡ m.log = take_all k m.log low in
    rw all at may
