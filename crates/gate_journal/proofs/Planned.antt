-- Which of its plans a call follows, by what it read of the disk.
use Rattle.std.specs.Prelude.{IfSome, Ok}
use Rattle.std.proofs.Common.{◌≡◌, ℕ, ◌<◌, ◌≤◌, cond, ltb, List, [], ◌∷◌, ◌++◌, length, Option, None, Some, refl, sym, ◌∙◌, ap, subst, arith, ◌+◌, length-append}
use Rattle.std.proofs.lemmas.Bool.{cond-true, cond-false, lt-ltb, le-ltb}
use Rattle.crash_disk.specs.declared.change.Change.{Change}
use Rattle.crash_disk.specs.declared.change.Change.TheVariants.{Sync}
use Rattle.crash_disk.specs.declared.file_no.FileNo.{FileNo}
use Rattle.crash_disk.specs.declared.file_no.FileNo.TheVariants.{Zero}
use Rattle.crash_disk.specs.Disk.{DiskState, reads_of, image_of}
use Rattle.crash_disk.specs.Plans.{after_all}
use Rattle.gate_journal.specs.Calls.{putting_header, closing, clearing, beginning, preparing_first, syncing_both, making_first, where_none, opening}
use Rattle.gate_journal.specs.Making.{fields_bytes, head_bytes, first_journal}
use Rattle.std.specs.Int.{w32, to_be_bytes}
use Rattle.gate_journal.specs.Format.{Kept, journal}

-- a file is shorter than a header, or it is not
if_short : (bytes : List ℕ) (n : ℕ) (short long : List Change) → n ≡ length bytes → n < 72 → cond (ltb (length bytes) 72) short long ≡ short
if_short bytes n short long is less = cond-true (ltb (length bytes) 72) short long (lt-ltb _ _ (subst (λ m. m < 72) is less))

if_long : (bytes : List ℕ) (n : ℕ) (short long : List Change) → n ≡ length bytes → 72 ≤ n → cond (ltb (length bytes) 72) short long ≡ long
if_long bytes n short long is most = cond-false (ltb (length bytes) 72) short long (le-ltb _ _ (subst (λ m. 72 ≤ m) is most))

-- the disk reads so many bytes of a file
abbrev pub IsLong : FileNo → ℕ → DiskState → Type 0
IsLong file n d = n ≡ length (reads_of d file)

pub cleared_short : (file : FileNo) (head : List ℕ) (n : ℕ) (told : Option DiskState) → IfSome told (IsLong file n) → n < 72 →
    IfSome told (λ d. putting_header file head ++ Sync file ∷ [] ≡ clearing file head (reads_of d file))
cleared_short file head n None is less = tt
cleared_short file head n (Some d) is less =
    sym (if_short (reads_of d file) n (putting_header file head ++ Sync file ∷ []) (closing file (reads_of d file)) is less)

pub cleared_long : (file : FileNo) (head : List ℕ) (n : ℕ) (told : Option DiskState) → IfSome told (IsLong file n) → 72 ≤ n →
    IfSome told (λ d. closing file (reads_of d file) ≡ clearing file head (reads_of d file))
cleared_long file head n None is most = tt
cleared_long file head n (Some d) is most =
    sym (if_long (reads_of d file) n (putting_header file head ++ Sync file ∷ []) (closing file (reads_of d file)) is most)

pub first_short : (head : List ℕ) (n : ℕ) (told : Option DiskState) → IfSome told (IsLong Zero n) → n < 72 → head ≡ head_bytes first_journal.header 0 →
    IfSome told (λ d. putting_header Zero head ≡ preparing_first (reads_of d Zero))
first_short head n None is less same = tt
first_short head n (Some d) is less same =
    ap (putting_header Zero) same
    ∙ sym (if_short (reads_of d Zero) n (putting_header Zero (head_bytes first_journal.header 0)) (beginning Zero (fields_bytes first_journal.header 0)) is less)

pub first_long : (fields : List ℕ) (n : ℕ) (told : Option DiskState) → IfSome told (IsLong Zero n) → 72 ≤ n → fields ≡ fields_bytes first_journal.header 0 →
    IfSome told (λ d. beginning Zero fields ≡ preparing_first (reads_of d Zero))
first_long fields n None is most same = tt
first_long fields n (Some d) is most same =
    ap (beginning Zero) same
    ∙ sym (if_long (reads_of d Zero) n (putting_header Zero (head_bytes first_journal.header 0)) (beginning Zero (fields_bytes first_journal.header 0)) is most)

-- how long a body is
pub body_long : (payload : List ℕ) (gate : ℕ) → length (to_be_bytes w32 (length payload) ++ payload ++ gate ∷ []) ≡ length payload + 5
body_long payload gate = omega (arith, length-append payload (gate ∷ []))

pub no_payloads : (payloads : List (List ℕ)) → length payloads ≡ 0 → payloads ≡ []
no_payloads [] none = refl
no_payloads (payload ∷ payloads) none = absurd (omega arith)

-- there is no journal yet, so the first one is made
pub nothing_there : (told now : Option DiskState) → IfSome told (λ d. now ≡ Some (after_all syncing_both d)) → IfSome now (λ d. journal (image_of d) ≡ Ok None) →
    IfSome told (λ d. syncing_both ++ making_first (reads_of d Zero) ≡ opening d)
nothing_there None now is none = tt
nothing_there (Some d) now is none =
    let nothing : journal (image_of d) ≡ Ok None = subst (λ (o : Option DiskState). IfSome o (λ d. journal (image_of d) ≡ Ok None)) is none in
    ap (λ found. syncing_both ++ where_none found (making_first (reads_of d Zero))) (sym nothing)

-- there is a journal, so no more is done
pub something_there : (told now : Option DiskState) (kept : Kept) → IfSome told (λ d. now ≡ Some (after_all syncing_both d)) → IfSome now (λ d. journal (image_of d) ≡ Ok (Some kept)) →
    IfSome told (λ d. syncing_both ≡ opening d)
something_there None now kept is some = tt
something_there (Some d) now kept is some =
    let there : journal (image_of d) ≡ Ok (Some kept) = subst (λ (o : Option DiskState). IfSome o (λ d. journal (image_of d) ≡ Ok (Some kept))) is some in
    ap (λ found. syncing_both ++ where_none found (making_first (reads_of d Zero))) (sym there)
