-- A file that is too long is known by its first bytes.
use Rattle.std.specs.Prelude.{nat_lt, not, if◌then◌else◌, Err}
use Rattle.std.specs.Str.{bytes_eq}
use Rattle.std.proofs.Common.{◌≡◌, ⊎_elim, true, false, ℕ, ◌<◌, ◌≤◌, List, length, take, drop, refl, sym, ◌∙◌, ap, arith, length-take, get_or-take}
use Rattle.std.proofs.lemmas.List.{take_all}
use Rattle.std.proofs.lemmas.Bool.{cases_lt}
use Rattle.std.proofs.lemmas.Bool.Decides.{nat_tests}
use Rattle.gate_journal.specs.Format.{letters, longest_file, file_of}
use Rattle.gate_journal.proofs.Files.{unfolded}
use Rattle.gate_journal.proofs.Appending.{part_same}

too_long : (file : List ℕ) → 134217728 < length file → file_of file ≡ (if not (bytes_eq (take 7 (drop 1 file)) letters) then Err 1 else Err 134217728)
too_long file long =
    let a : nat_lt (length file) 72 ≡ false = grind (arith, nat_tests) in
    let b : nat_lt (longest_file 2) (length file) ≡ true = grind (arith, nat_tests) in
    unfolded file ∙ rw (a, b) refl

pub taken : (file : List ℕ) → file_of (take 134217729 file) ≡ file_of file
taken file = ⊎_elim short long (cases_lt (length file) 134217730)
  where
    short : length file < 134217730 → file_of (take 134217729 file) ≡ file_of file
    short le = ap file_of (take_all 134217729 file (omega arith))

    long : 134217730 ≤ length file → file_of (take 134217729 file) ≡ file_of file
    long le =
        let taken_long = length-take 134217729 file in
        let same : take 7 (drop 1 (take 134217729 file)) ≡ take 7 (drop 1 file) = part_same file (take 134217729 file) 1 7 (omega arith) (omega arith) (λ i from to. get_or-take 134217729 file i 0 (omega arith)) in
        too_long (take 134217729 file) (omega arith) ∙ ap (λ (b : List ℕ). if not (bytes_eq b letters) then Err 1 else Err 134217728) same ∙ sym (too_long file (omega arith))
