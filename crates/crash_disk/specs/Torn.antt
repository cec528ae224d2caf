-- What a crash may leave of a settled file after one write or one cut.
use Rattle.std.proofs.Common.{◌≡◌, ◌⊎◌, inl, inr, true, false, suc, ℕ, ◌+◌, ◌-◌, ◌<◌, ◌≤◌, min, max, List, [], ◌∷◌, ◌++◌, length, take, set, replicate, get_or, slice_index, refl, sym, ◌∙◌, ap, arith, length-append, length-take, length-set, get_or-take, get_or-set_same, get_or-set_other}
use Rattle.std.proofs.lemmas.List.{ext_get_or, length-replicate, get_or_append_left}
use Rattle.std.proofs.lemmas.Bool.{cases_Bool, cases_lt, cases_eq}
use Rattle.std.proofs.lemmas.Bool.Decides.{nat_tests}
use Rattle.crash_disk.specs.declared.range.Range.{Range}
use Rattle.crash_disk.specs.declared.file_no.FileNo.{FileNo}
use Rattle.crash_disk.specs.declared.file_no.FileNo.TheVariants.{Zero, One}
use Rattle.crash_disk.specs.declared.change.Change.TheVariants.{Write, Cut, Sync}
use Rattle.crash_disk.specs.Ranges.{IsOutside, is_in}
use Rattle.crash_disk.specs.Disk.{Image, FileState, FileMayLeave, DiskState, MayLeave, IsSettled, image_of, content, file_of, reads_of, overwritten, settled, after_write, after_cut, after}
use Rattle.crash_disk.specs.Soundness.{outside_is_not_in, length-overwritten}

-- after a write of n bytes that a crash cuts short: any bytes in the range and past the old end, the same elsewhere
pub record Torn (at n : ℕ) (old new : List ℕ) : Type 0 where
  pub no_shorter : length old ≤ length new
  pub no_longer : length new ≤ max (length old) (at + n)
  pub same : (i : ℕ) → i < length old → (i < at) ⊎ (at + n ≤ i) → slice_index new i ≡ slice_index old i

-- after a cut to n bytes that a crash cuts short
pub record Clipped (n : ℕ) (old new : List ℕ) : Type 0 where
  pub no_shorter : min n (length old) ≤ length new
  pub no_longer : length new ≤ length old
  pub same : (i : ℕ) → i < n → i < length old → slice_index new i ≡ slice_index old i

-- Nothing of a file is pending.
pub record IsQuiet (file : FileState) : Type 0 where
  pub least : file.least ≡ length file.reads
  pub greatest : file.greatest ≡ length file.reads
  pub outside : (i : ℕ) → i < length file.reads → IsOutside i file.written
  pub same : (i : ℕ) → i < length file.reads → slice_index file.kept i ≡ slice_index file.reads i

pub quiet-settled : (bytes : List ℕ) → IsQuiet (settled bytes)
quiet-settled bytes = record { least = refl; greatest = refl; outside = λ i low. tt; same = λ i low. refl }

not_in_is_outside : (i : ℕ) (ranges : List Range) → is_in i ranges ≡ false → IsOutside i ranges
not_in_is_outside i [] none = tt
not_in_is_outside i (range ∷ ranges) none =
    let rest : is_in i ranges ≡ false = grind (arith, nat_tests) in
    let out : (i < range.start) ⊎ (range.end ≤ i) = elim (cases_lt i range.start) [
      | inl low ↦ inl low
      | inr high ↦ elim (cases_lt i range.end) [ inl inside ↦ absurd (grind (arith, nat_tests)) | inr past ↦ inr past ]
    ] in
    (out, not_in_is_outside i ranges rest)

pub IsOutside-push : (i : ℕ) (ranges : List Range) (range : Range) → IsOutside i ranges → (i < range.start) ⊎ (range.end ≤ i) → IsOutside i (ranges ++ range ∷ [])
IsOutside-push i [] range out beyond = (beyond, tt)
IsOutside-push i (r ∷ ranges) range out beyond = (out.0, IsOutside-push i ranges range out.1 beyond)

-- a file of which a crash leaves what it reads, and nothing else
module _ (file : FileState) (reads : FileMayLeave file file.reads) (only : (left : List ℕ) → FileMayLeave file left → left ≡ file.reads) where
  least_is : file.least ≡ length file.reads
  least_is =
      let low = reads.no_shorter in
      let high = reads.no_longer in
      let long : length (take file.least file.reads) ≡ min file.least (length file.reads) = length-take file.least file.reads in
      let front : FileMayLeave file (take file.least file.reads) = record {
        no_shorter = omega arith;
        no_longer = omega arith;
        elsewhere = λ i below out. get_or-take file.least file.reads i 0 below ∙ reads.elsewhere i below out;
      } in
      omega (arith, ap length (only _ front))

  greatest_is : file.greatest ≡ length file.reads
  greatest_is =
      let low = reads.no_shorter in
      let high = reads.no_longer in
      let more = file.greatest - length file.reads in
      let long : length (file.reads ++ replicate more 0) ≡ length file.reads + more = length-append file.reads (replicate more 0) ∙ ap (λ (k : ℕ). length file.reads + k) (length-replicate more 0) in
      let longer : FileMayLeave file (file.reads ++ replicate more 0) = record {
        no_shorter = omega arith;
        no_longer = omega arith;
        elsewhere = λ i below out. get_or_append_left file.reads (replicate more 0) 0 i (omega arith) ∙ reads.elsewhere i below out;
      } in
      omega (arith, ap length (only _ longer))

  none_written : (i : ℕ) → i < length file.reads → IsOutside i file.written
  none_written i low = elim (cases_Bool (is_in i file.written)) [
    | inr out ↦ not_in_is_outside i file.written out
    | inl inside ↦
        let other = suc (get_or file.reads i 0) in
        let long : length (set file.reads i other) ≡ length file.reads = length-set file.reads i other in
        let least = reads.no_shorter in
        let greatest = reads.no_longer in
        let changed : FileMayLeave file (set file.reads i other) = record {
          no_shorter = omega arith;
          no_longer = omega arith;
          elsewhere = λ j below out. elim (cases_eq j i) [
            | inl same ↦ absurd (let no : is_in j file.written ≡ false = outside_is_not_in j file.written out in let yes : is_in j file.written ≡ true = rw same inside in cc)
            | inr differs ↦ get_or-set_other file.reads i j other 0 differs ∙ reads.elsewhere j below out
          ];
        } in
        let now : get_or (set file.reads i other) i 0 ≡ other = get_or-set_same file.reads i other 0 low in
        let was : get_or (set file.reads i other) i 0 ≡ get_or file.reads i 0 = ap (λ (l : List ℕ). get_or l i 0) (only _ changed) in
        absurd (omega arith)
  ]

  pub quiet-only : IsQuiet file
  quiet-only = record {
    least = least_is;
    greatest = greatest_is;
    outside = none_written;
    same = λ i low. sym (reads.elsewhere i (omega (arith, least_is)) (none_written i low));
  }

pub quiet-zero : (disk : DiskState) → MayLeave disk (image_of disk) → IsSettled disk → IsQuiet disk.zero
quiet-zero disk reads only = quiet-only disk.zero reads.zero (λ left may. ap (λ (i : Image). i.zero) (only (record { zero = left; one = disk.one.reads }) (record { zero = may; one = reads.one })))

pub quiet-one : (disk : DiskState) → MayLeave disk (image_of disk) → IsSettled disk → IsQuiet disk.one
quiet-one disk reads only = quiet-only disk.one reads.one (λ left may. ap (λ (i : Image). i.one) (only (record { zero = disk.zero.reads; one = left }) (record { zero = reads.zero; one = may })))

pub torn-write : (file : FileState) (at : ℕ) (bytes left : List ℕ) → IsQuiet file → at ≤ length file.reads → FileMayLeave (after_write at bytes file) left → Torn at (length bytes) file.reads left
torn-write file at bytes left quiet le may =
    let longer : length (overwritten file.reads at bytes) ≡ max (length file.reads) (at + length bytes) = length-overwritten file.reads at bytes le in
    let least = quiet.least in
    let greatest = quiet.greatest in
    let low = may.no_shorter in
    let high = may.no_longer in
    record {
      no_shorter = omega arith;
      no_longer = omega arith;
      same = λ i inside beyond. may.elsewhere i (omega arith) (pushed i (quiet.outside i inside) beyond) ∙ quiet.same i inside;
    }
  where
    pushed : (i : ℕ) → IsOutside i file.written → (i < at) ⊎ (at + length bytes ≤ i) → IsOutside i (file.written ++ record { start = at; end = at + length bytes } ∷ [])
    pushed i out beyond = IsOutside-push i file.written (record { start = at; end = at + length bytes }) out beyond

pub clipped-cut : (file : FileState) (n : ℕ) (left : List ℕ) → IsQuiet file → FileMayLeave (after_cut n file) left → Clipped n file.reads left
clipped-cut file n left quiet may =
    let shorter : length (take n file.reads) ≡ min n (length file.reads) = length-take n file.reads in
    let least = quiet.least in
    let greatest = quiet.greatest in
    let low = may.no_shorter in
    let high = may.no_longer in
    record {
      no_shorter = omega arith;
      no_longer = omega arith;
      same = λ i below inside. may.elsewhere i (omega arith) (quiet.outside i inside) ∙ quiet.same i inside;
    }

pub only-quiet : (file : FileState) (left : List ℕ) → IsQuiet file → FileMayLeave file left → left ≡ file.reads
only-quiet file left quiet may =
    let least = quiet.least in
    let greatest = quiet.greatest in
    let low = may.no_shorter in
    let high = may.no_longer in
    let same : length left ≡ length file.reads = omega arith in
    ext_get_or 0 left file.reads same (λ i below. may.elsewhere i (omega arith) (quiet.outside i (omega arith)) ∙ quiet.same i (omega arith))

-- Nothing of a disk is pending.
pub record IsQuietDisk (disk : DiskState) : Type 0 where
  pub zero : IsQuiet disk.zero
  pub one : IsQuiet disk.one

pub quiet-disk : (disk : DiskState) → MayLeave disk (image_of disk) → IsSettled disk → IsQuietDisk disk
quiet-disk disk reads only = record { zero = quiet-zero disk reads only; one = quiet-one disk reads only }

pub settled-disk : (disk : DiskState) → IsQuietDisk disk → IsSettled disk
settled-disk disk quiet image may =
    let zero : image.zero ≡ disk.zero.reads = only-quiet disk.zero image.zero quiet.zero may.zero in
    let one : image.one ≡ disk.one.reads = only-quiet disk.one image.one quiet.one may.one in
    ap (λ (z : List ℕ). record { zero = z; one = image.one }) zero ∙ ap (λ (o : List ℕ). record { zero = disk.zero.reads; one = o }) one

pub quiet_of : (disk : DiskState) (file : FileNo) → IsQuietDisk disk → IsQuiet (file_of disk file)
quiet_of disk Zero quiet = quiet.zero
quiet_of disk One quiet = quiet.one

-- the other file
abbrev pub other_file : FileNo → FileNo
other_file Zero = One
other_file One = Zero

-- after a sync of a file whose other file is quiet
pub quiet-sync : (disk : DiskState) (file : FileNo) → IsQuiet (file_of disk (other_file file)) → IsQuietDisk (after (Sync file) disk)
quiet-sync disk Zero quiet = record { zero = quiet-settled disk.zero.reads; one = quiet }
quiet-sync disk One quiet = record { zero = quiet; one = quiet-settled disk.one.reads }

-- What a crash may leave after a write to a quiet disk: the file torn, and the other as it was.
pub torn-disk : (disk : DiskState) (file : FileNo) (at : ℕ) (bytes : List ℕ) (image : Image) → IsQuietDisk disk → at ≤ length (reads_of disk file) → MayLeave (after (Write file at bytes) disk) image
    → Torn at (length bytes) (reads_of disk file) (content image file) × (content image (other_file file) ≡ reads_of disk (other_file file))
torn-disk disk Zero at bytes image quiet le may = (torn-write disk.zero at bytes image.zero quiet.zero le may.zero, only-quiet disk.one image.one quiet.one may.one)
torn-disk disk One at bytes image quiet le may = (torn-write disk.one at bytes image.one quiet.one le may.one, only-quiet disk.zero image.zero quiet.zero may.zero)

pub clipped-disk : (disk : DiskState) (file : FileNo) (n : ℕ) (image : Image) → IsQuietDisk disk → MayLeave (after (Cut file n) disk) image
    → Clipped n (reads_of disk file) (content image file) × (content image (other_file file) ≡ reads_of disk (other_file file))
clipped-disk disk Zero n image quiet may = (clipped-cut disk.zero n image.zero quiet.zero may.zero, only-quiet disk.one image.one quiet.one may.one)
clipped-disk disk One n image quiet may = (clipped-cut disk.one n image.one quiet.one may.one, only-quiet disk.zero image.zero quiet.zero may.zero)

-- what is read after a call on a file, of it and of the other
pub reads-write : (disk : DiskState) (file : FileNo) (at : ℕ) (bytes : List ℕ) → (reads_of (after (Write file at bytes) disk) file ≡ overwritten (reads_of disk file) at bytes)
    × (file_of (after (Write file at bytes) disk) (other_file file) ≡ file_of disk (other_file file))
reads-write disk Zero at bytes = (refl, refl)
reads-write disk One at bytes = (refl, refl)

pub reads-cut : (disk : DiskState) (file : FileNo) (n : ℕ) → (reads_of (after (Cut file n) disk) file ≡ take n (reads_of disk file)) × (file_of (after (Cut file n) disk) (other_file file) ≡ file_of disk (other_file file))
reads-cut disk Zero n = (refl, refl)
reads-cut disk One n = (refl, refl)

pub reads-sync : (disk : DiskState) (file : FileNo) → (reads_of (after (Sync file) disk) file ≡ reads_of disk file) × (file_of (after (Sync file) disk) (other_file file) ≡ file_of disk (other_file file))
reads-sync disk Zero = (refl, refl)
reads-sync disk One = (refl, refl)
