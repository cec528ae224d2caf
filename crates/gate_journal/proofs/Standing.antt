-- Images that stand for a journal.
use Rattle.std.specs.Prelude.{◌==◌, nat_lt, if◌then◌else◌, Option, None, Some, Result, Ok, Err}
use Rattle.std.proofs.Common.{◌≡◌, ◌⊎◌, inl, inr, Bool, true, false, ℕ, ◌<◌, refl, sym, ◌∙◌, ap, subst, arith}
use Rattle.std.proofs.lemmas.Bool.Decides.{nat_tests}
use Rattle.crash_disk.specs.declared.file_no.FileNo.{FileNo}
use Rattle.crash_disk.specs.declared.file_no.FileNo.TheVariants.{Zero, One}
use Rattle.crash_disk.specs.Disk.{Image, content}
use Rattle.crash_disk.specs.Torn.{other_file}
use Rattle.gate_journal.specs.declared.header.Header.{Header}
use Rattle.gate_journal.specs.Format.{Committed, Kept, Fault, joined, journal, file_of}

-- what a file holds that does not count beside a journal
abbrev pub IsOlder : Committed → Result (Option Committed) ℕ → Type 0
IsOlder holds (Err place) = ⊥
IsOlder holds (Ok None) = Unit {0}
IsOlder holds (Ok (Some old)) = old.header.generation < holds.header.generation

-- the file holds the journal, and the other file nothing that counts
pub record Stands (image : Image) (file : FileNo) (holds : Committed) : Type 0 where
  pub own : file_of (content image file) ≡ Ok (Some holds)
  pub older : IsOlder holds (file_of (content image (other_file file)))

Parts : (a b : Result (Option Committed) ℕ) (kept : Kept) → Type 0
Parts a b kept = ((kept.file ≡ Zero) × (a ≡ Ok (Some kept.holds)) × IsOlder kept.holds b) ⊎ ((kept.file ≡ One) × (b ≡ Ok (Some kept.holds)) × IsOlder kept.holds a)

abbrev chosen : Committed → Committed → Bool → Bool → Result (Option Kept) Fault
chosen a b same less = if same then Err (record { file = One; place = 8 }) else if less then Ok (Some (record { file = Zero; holds = a })) else Ok (Some (record { file = One; holds = b }))

both : (a b : Committed) (kept : Kept) (same less : Bool) → (a.header.generation == b.header.generation) ≡ same → nat_lt b.header.generation a.header.generation ≡ less
    → chosen a b same less ≡ Ok (Some kept)
    → Parts (Ok (Some a)) (Ok (Some b)) kept
unfolding Parts
both a b kept true less same_is less_is is = absurd (cc)
both a b kept false true same_is less_is is =
    let kept_is : record { file = Zero; holds = a } ≡ kept = cc in
    let file : Zero ≡ kept.file = ap (λ (k : Kept). k.file) kept_is in
    let holds : a ≡ kept.holds = ap (λ (k : Kept). k.holds) kept_is in
    inl (sym file, ap (λ (c : Committed). Ok (Some c)) holds, subst (λ (c : Committed). b.header.generation < c.header.generation) holds (grind (arith, nat_tests)))
both a b kept false false same_is less_is is =
    let kept_is : record { file = One; holds = b } ≡ kept = cc in
    let file : One ≡ kept.file = ap (λ (k : Kept). k.file) kept_is in
    let holds : b ≡ kept.holds = ap (λ (k : Kept). k.holds) kept_is in
    inr (sym file, ap (λ (c : Committed). Ok (Some c)) holds, subst (λ (c : Committed). a.header.generation < c.header.generation) holds (grind (arith, nat_tests)))

parts : (a b : Result (Option Committed) ℕ) (kept : Kept) → joined a b ≡ Ok (Some kept) → Parts a b kept
unfolding Parts
parts (Err place) b kept is = absurd (cc)
parts (Ok None) (Err place) kept is = absurd (cc)
parts (Ok (Some a)) (Err place) kept is = absurd (cc)
parts (Ok None) (Ok None) kept is = absurd (cc)
parts (Ok (Some a)) (Ok None) kept is =
    let kept_is : record { file = Zero; holds = a } ≡ kept = cc in
    inl (sym (ap (λ (k : Kept). k.file) kept_is), ap (λ (k : Kept). Ok (Some k.holds)) kept_is, tt)
parts (Ok None) (Ok (Some b)) kept is =
    let kept_is : record { file = One; holds = b } ≡ kept = cc in
    inr (sym (ap (λ (k : Kept). k.file) kept_is), ap (λ (k : Kept). Ok (Some k.holds)) kept_is, tt)
parts (Ok (Some a)) (Ok (Some b)) kept is = both a b kept (a.header.generation == b.header.generation) (nat_lt b.header.generation a.header.generation) refl refl is

pub stands-from : (image : Image) (kept : Kept) → journal image ≡ Ok (Some kept) → Stands image kept.file kept.holds
unfolding Parts
stands-from image kept is = elim (parts (file_of image.zero) (file_of image.one) kept is) [
  | inl (file, own, older) ↦ subst (λ (f : FileNo). Stands image f kept.holds) (sym file) (record { own = own; older = older })
  | inr (file, own, older) ↦ subst (λ (f : FileNo). Stands image f kept.holds) (sym file) (record { own = own; older = older })
]

first_wins : (a : Committed) (b : Result (Option Committed) ℕ) → IsOlder a b → joined (Ok (Some a)) b ≡ Ok (Some (record { file = Zero; holds = a }))
first_wins a (Err place) older = absurd older
first_wins a (Ok None) older = refl
first_wins a (Ok (Some b)) older =
    let same : (a.header.generation == b.header.generation) ≡ false = grind (arith, nat_tests) in
    let less : nat_lt b.header.generation a.header.generation ≡ true = grind (arith, nat_tests) in
    rw (same, less) refl

second_wins : (a : Result (Option Committed) ℕ) (b : Committed) → IsOlder b a → joined a (Ok (Some b)) ≡ Ok (Some (record { file = One; holds = b }))
second_wins (Err place) b older = absurd older
second_wins (Ok None) b older = refl
second_wins (Ok (Some a)) b older =
    let same : (a.header.generation == b.header.generation) ≡ false = grind (arith, nat_tests) in
    let less : nat_lt b.header.generation a.header.generation ≡ false = grind (arith, nat_tests) in
    rw (same, less) refl

pub stands-to : (image : Image) (file : FileNo) (holds : Committed) → Stands image file holds → journal image ≡ Ok (Some (record { file = file; holds = holds }))
stands-to image Zero holds is = ap (λ (a : Result (Option Committed) ℕ). joined a (file_of image.one)) is.own ∙ first_wins holds (file_of image.one) is.older
stands-to image One holds is = ap (λ (b : Result (Option Committed) ℕ). joined (file_of image.zero) b) is.own ∙ second_wins (file_of image.zero) holds is.older

-- what does not count beside one journal does not beside another of its header
pub older_same : (a b : Committed) (other : Result (Option Committed) ℕ) → a.header ≡ b.header → IsOlder b other → IsOlder a other
older_same a b (Err place) same older = older
older_same a b (Ok None) same older = older
older_same a b (Ok (Some old)) same older = subst (λ (h : Header). old.header.generation < h.generation) (sym same) older
