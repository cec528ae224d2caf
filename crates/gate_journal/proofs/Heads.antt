-- What a crash may leave while a header is written to a file that is shorter than one.
use Rattle.std.proofs.Common.{◌≡◌, inl, inr, ℕ, ◌+◌, ◌<◌, List, [], ◌∷◌, ◌++◌, length, get_or, refl, sym, ◌∙◌, ap, subst, arith}
use Rattle.std.proofs.lemmas.List.{append-nil, drop_all}
use Rattle.std.proofs.lemmas.Bool.{cases_lt}
use Rattle.crash_disk.specs.declared.file_no.FileNo.{FileNo}
use Rattle.crash_disk.specs.declared.change.Change.TheVariants.{Write, Cut, Sync}
use Rattle.crash_disk.specs.Disk.{Image, DiskState, MayLeave, content, reads_of, overwritten, after}
use Rattle.crash_disk.specs.Soundness.{length-overwritten, overwritten-below}
use Rattle.crash_disk.specs.Torn.{other_file, settled-disk}
use Rattle.gate_journal.specs.Making.{IsHead, IsAt, IsShort, IsClosed, IsUnfinished, IsBlankBeside, Changing}
use Rattle.gate_journal.proofs.Files.{closed_blank, length_blank}
use Rattle.gate_journal.proofs.Appending.{part_same}
use Rattle.gate_journal.proofs.Stages.{content-image}
use Rattle.gate_journal.proofs.Commits.{changing-sync, changing-write, changing-cut, torn-at, clipped-at}

overwritten_nothing : (bytes : List ℕ) → overwritten [] 0 bytes ≡ bytes
overwritten_nothing bytes = ap (λ (l : List ℕ). bytes ++ l) (drop_all (0 + length bytes) [] (omega arith)) ∙ append-nil bytes

module _ (file : FileNo) (other : List ℕ) where
  short_at : (disk : DiskState) → IsShort file other disk → IsAt file (reads_of disk file) other disk
  short_at disk is = record { quiet = is.quiet; reads = refl; beside = is.beside }

  pub short_now : (disk : DiskState) → IsShort file other disk → (image : Image) → MayLeave disk image → IsBlankBeside file other image
  short_now disk is image may =
      let left = settled-disk disk is.quiet image may in
      let own : content image file ≡ reads_of disk file = ap (λ (i : Image). content i file) left ∙ content-image disk file in
      let short = is.short in
      (length_blank (content image file) (omega (arith, ap length own)), ap (λ (i : Image). content i (other_file file)) left ∙ content-image disk (other_file file) ∙ is.beside)

  -- it is cut to nothing
  pub short_cut : (disk : DiskState) → IsShort file other disk → (image : Image) → MayLeave (after (Cut file 0) disk) image → IsBlankBeside file other image
  short_cut disk is image may =
      let parts = clipped-at file (reads_of disk file) other 0 disk image (short_at disk is) may in
      let high = parts.0.no_longer in
      let short = is.short in
      (length_blank (content image file) (omega arith), parts.1)

  pub short_is_cut : (disk : DiskState) → IsShort file other disk → Changing (IsBlankBeside file other) file [] other (after (Cut file 0) disk)
  short_is_cut disk is = changing-cut (IsBlankBeside file other) file (reads_of disk file) other 0 disk (short_at disk is) (short_cut disk is)

  -- all but the last byte of a header is written
  module _ (head : List ℕ) (short : length head < 72) (disk : DiskState) (is : IsAt file [] other disk) where
    pub short_write : (image : Image) → MayLeave (after (Write file 0 head) disk) image → IsBlankBeside file other image
    short_write image may =
        let parts = torn-at file [] other 0 head disk image is (omega arith) may in
        let high = parts.0.no_longer in
        (length_blank (content image file) (omega arith), parts.1)

    pub short_is_written : Changing (IsBlankBeside file other) file head other (after (Write file 0 head) disk)
    short_is_written =
        subst (λ (b : List ℕ). Changing (IsBlankBeside file other) file b other (after (Write file 0 head) disk)) (overwritten_nothing head) (changing-write (IsBlankBeside file other) file [] other 0 head disk is short_write)

  module _ (head : List ℕ) (unfinished : IsUnfinished head) where
    pub head_now : (disk : DiskState) → IsAt file head other disk → (image : Image) → MayLeave disk image → IsBlankBeside file other image
    head_now disk is image may =
        let left = settled-disk disk is.quiet image may in
        let own : content image file ≡ head = ap (λ (i : Image). content i file) left ∙ content-image disk file ∙ is.reads in
        let long = unfinished.long in
        (length_blank (content image file) (omega (arith, ap length own)), ap (λ (i : Image). content i (other_file file)) left ∙ content-image disk (other_file file) ∙ is.beside)

    -- the last byte of the header
    pub head_write : (disk : DiskState) → IsAt file head other disk → (image : Image) → MayLeave (after (Write file 71 (0 ∷ [])) disk) image → IsBlankBeside file other image
    head_write disk is image may =
        let long = unfinished.long in
        let parts = torn-at file head other 71 (0 ∷ []) disk image is (omega arith) may in
        let low = parts.0.no_shorter in
        let high = parts.0.no_longer in
        elim (cases_lt (length (content image file)) 72) [
          | inl short ↦ (length_blank (content image file) short, parts.1)
          | inr whole ↦
              let first : get_or (content image file) 0 0 ≡ get_or head 0 0 = parts.0.same 0 (omega arith) (inl (omega arith)) in (
                closed_blank (content image file) (record {
                  long = whole;
                  letters_are = part_same head (content image file) 1 7 (omega arith) (omega arith) (λ i from to. parts.0.same i (omega arith) (inl (omega arith))) ∙ unfinished.letters_are;
                  short = omega arith;
                }) (λ one. unfinished.closed (sym first ∙ one)),
                parts.1,
              )
        ]

    pub head_is_written : (disk : DiskState) → IsAt file head other disk → Changing (IsBlankBeside file other) file (overwritten head 71 (0 ∷ [])) other (after (Write file 71 (0 ∷ [])) disk)
    head_is_written disk is = changing-write (IsBlankBeside file other) file head other 71 (0 ∷ []) disk is (head_write disk is)

    -- and its sync
    pub head_synced : (disk : DiskState) → Changing (IsBlankBeside file other) file (overwritten head 71 (0 ∷ [])) other disk → IsClosed file other (after (Sync file) disk)
    head_synced disk is =
        let at = changing-sync (IsBlankBeside file other) file (overwritten head 71 (0 ∷ [])) other disk is in
        let long = unfinished.long in
        let whole : length (overwritten head 71 (0 ∷ [])) ≡ 72 = length-overwritten head 71 (0 ∷ []) (omega arith) ∙ omega arith in
        let same : (i : ℕ) → i < 71 → get_or (overwritten head 71 (0 ∷ [])) i 0 ≡ get_or head i 0 = λ i le. overwritten-below head 71 (0 ∷ []) i le (omega arith) in
        record {
          quiet = at.quiet;
          head = subst IsHead (sym at.reads) (record {
            long = omega arith;
            letters_are = part_same head (overwritten head 71 (0 ∷ [])) 1 7 (omega arith) (omega arith) (λ i from to. same i (omega arith)) ∙ unfinished.letters_are;
            short = omega arith;
          });
          closed = λ one. unfinished.closed (sym (same 0 (omega arith)) ∙ sym (ap (λ (b : List ℕ). get_or b 0 0) at.reads) ∙ one);
          beside = at.beside;
        }
