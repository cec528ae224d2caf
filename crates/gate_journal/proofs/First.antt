-- How the first journal is made.
use Rattle.std.specs.Prelude.{Some, Ok}
use Rattle.std.proofs.Common.{◌≡◌, ℕ, ◌≤◌, List, [], ◌∷◌, length, get_or, refl, sym, ◌∙◌, ap, arith}
use Rattle.crash_disk.specs.declared.file_no.FileNo.TheVariants.{Zero}
use Rattle.crash_disk.specs.Disk.{DiskState, reads_of, overwritten}
use Rattle.gate_journal.specs.declared.header.Header.{Header}
use Rattle.gate_journal.specs.Format.{file_of, committed_of, payloads_in}
use Rattle.gate_journal.specs.Making.{IsBlankBeside, IsFilling, IsWritten, Changing, with_commit, fields_bytes, head_bytes, first_journal}
use Rattle.std.proofs.lemmas.List.Elements.{All-nil}
use Rattle.gate_journal.proofs.Filling.{filled_written}

abbrev first_header : Header
first_header = record { generation = 1; horizon = 0; next = 1 }

first_short : file_of (with_commit (overwritten (head_bytes first_header 0) 71 (0 ∷ []))) ≡ Ok (Some first_journal)
unfolding file_of committed_of payloads_in
first_short = refl

-- the first journal, written to a file that was shorter than a header
pub first_made : (head other : List ℕ) (disk : DiskState) → head ≡ head_bytes first_header 0 → Changing (IsBlankBeside Zero other) Zero (overwritten head 71 (0 ∷ [])) other disk → IsWritten Zero first_journal other disk
first_made head other disk head_is is =
    let reads : reads_of disk Zero ≡ overwritten (head_bytes first_header 0) 71 (0 ∷ []) = is.reads ∙ ap (λ (b : List ℕ). overwritten b 71 (0 ∷ [])) head_is in
    record {
      blank = is.each;
      other_quiet = is.other_quiet;
      closed = λ one. let no : 0 ≡ 1 = sym (ap (λ (b : List ℕ). get_or b 0 0) reads) ∙ one in absurd (omega arith);
      holds_with = ap (λ (b : List ℕ). file_of (with_commit b)) reads ∙ first_short;
    }

-- the first journal, written over a file that was not committed
pub first_over : (fields other : List ℕ) (disk : DiskState) → fields ≡ fields_bytes first_header 0 → IsFilling Zero fields [] other disk → IsWritten Zero first_journal other disk
first_over fields other disk fields_are is =
    filled_written Zero fields other disk first_header [] fields_are (record { each = All-nil (λ p. length p ≤ 1048576); file = omega arith }) (record { generation = omega arith; horizon = omega arith; next = omega arith }) is
