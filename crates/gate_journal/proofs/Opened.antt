-- What a disk stands for while a journal is opened.
use Rattle.std.specs.Prelude.{◌==◌, nat_lt, if◌then◌else◌, IfSome, IfNone, Option, None, Some, Result, Ok, Err}
use Rattle.std.specs.Option.{option_map}
use Rattle.std.proofs.Common.{◌≡◌, inl, inr, Bool, true, false, ℕ, [], refl, sym, ◌∙◌, ap, subst, arith}
use Rattle.crash_disk.specs.declared.file_no.FileNo.{FileNo}
use Rattle.crash_disk.specs.declared.file_no.FileNo.TheVariants.{Zero, One}
use Rattle.crash_disk.specs.Disk.{Image, DiskState, MayLeave, IsSettled, image_of}
use Rattle.crash_disk.specs.Plans.{after_all}
use Rattle.crash_disk.specs.Soundness.{only-settled_image}
use Rattle.crash_disk.specs.Moments.{Leaves}
use Rattle.gate_journal.specs.Calls.{syncing_both}
use Rattle.gate_journal.specs.Format.{Committed, Kept, Fault, joined, journal, file_of}
use Rattle.gate_journal.specs.Making.{IsMadeOrBlank, first_journal, read_of}
use Rattle.gate_journal.specs.Opening.{Opens, IsEmptyOrNone}
use Rattle.gate_journal.specs.Journal.{OpenedJournal, IsOwn}
use Rattle.gate_journal.proofs.Files.{length_blank}
use Rattle.gate_journal.proofs.Owning.{own_settled}

pub if_some : (told : Option DiskState) (F : DiskState → Type 0) → ((d : DiskState) → told ≡ Some d → F d) → IfSome told F
if_some None F each = tt
if_some (Some d) F each = each d refl

pub at_some : (told : Option DiskState) (F : DiskState → Type 0) (d : DiskState) → told ≡ Some d → IfSome told F → F d
at_some told F d is has = subst (λ (o : Option DiskState). IfSome o F) is has

abbrev one_of : Bool → Bool → Fault → Kept → Kept → Result (Option Kept) Fault
one_of s t e x y = if s then Err e else if t then Ok (Some x) else Ok (Some y)

not_none : (s t : Bool) (e : Fault) (x y : Kept) → one_of s t e x y ≡ Ok None → ⊥
not_none true t e x y is = cc
not_none false true e x y is = cc
not_none false false e x y is = cc

-- two files that hold no journal hold nothing
joined_none : (a b : Result (Option Committed) ℕ) → joined a b ≡ Ok None → (a ≡ Ok None) × (b ≡ Ok None)
joined_none (Err place) b is = absurd (cc)
joined_none (Ok a) (Err place) is = absurd (cc)
joined_none (Ok None) (Ok None) is = (refl, refl)
joined_none (Ok (Some a)) (Ok None) is = absurd (cc)
joined_none (Ok None) (Ok (Some b)) is = absurd (cc)
joined_none (Ok (Some a)) (Ok (Some b)) is = absurd (not_none (a.header.generation == b.header.generation) (nat_lt b.header.generation a.header.generation) _ _ _ is)

pub no_journal_told : (told : Option DiskState) (file : FileNo) → IfSome told (λ d. journal (image_of d) ≡ Ok None) → file_of (read_of told file) ≡ Ok None
no_journal_told None file none = length_blank [] (omega arith)
no_journal_told (Some d) Zero none = (joined_none (file_of d.zero.reads) (file_of d.one.reads) none).0
no_journal_told (Some d) One none = (joined_none (file_of d.zero.reads) (file_of d.one.reads) none).1

-- what a crash leaves of a disk whose files were both synced
only-synced : (d : DiskState) → IsSettled (after_all syncing_both d)
only-synced d image may = only-settled_image (image_of d) image (record { zero = may.zero; one = may.one })

module _ (told : Option DiskState) (d : DiskState) (is : told ≡ Some d) (reads : IfSome told (λ d. MayLeave d (image_of d))) where
  -- before the syncs each image stands for itself
  pub opens_now : (image : Image) → Leaves told image → Opens d image
  opens_now image left = (image, subst (λ (o : Option DiskState). Leaves o image) is left, inl refl)

  law : MayLeave d (image_of d)
  law = at_some told (λ d. MayLeave d (image_of d)) d is reads

  -- behind them what is read is left
  pub opens_synced : (now : Option DiskState) → now ≡ Some (after_all syncing_both d) → (image : Image) → Leaves now image → Opens d image
  opens_synced now synced image left =
      let may : MayLeave (after_all syncing_both d) image = subst (λ (o : Option DiskState). Leaves o image) synced left in
      (image_of d, law, inl (ap journal (only-synced d image may)))

  -- and while the first journal is made, there is none, or it
  pub opens_making : (now : Option DiskState) → now ≡ Some (after_all syncing_both d) → IfSome now (λ d. journal (image_of d) ≡ Ok None)
      → (image : Image) → IsMadeOrBlank Zero first_journal (read_of now One) image → Opens d image
  opens_making now synced none image (cases, beside) =
      let start : journal (image_of d) ≡ Ok None = at_some now (λ d. journal (image_of d) ≡ Ok None) (after_all syncing_both d) synced none in
      let other : file_of image.one ≡ Ok None = ap file_of beside ∙ no_journal_told now One none in
      elim cases [
        | inl blank ↦ (image_of d, law, inl (ap (λ (r : Result (Option Committed) ℕ). joined r (file_of image.one)) blank ∙ ap (λ (r : Result (Option Committed) ℕ). joined (Ok None) r) other ∙ sym start))
        | inr made ↦ (image_of d, law, inr (start, ap (λ (r : Result (Option Committed) ℕ). joined r (file_of image.one)) made ∙ ap (λ (r : Result (Option Committed) ℕ). joined (Ok (Some first_journal)) r) other))
      ]

-- the disk of a journal that was found
pub own_found : (told : Option DiskState) (j : OpenedJournal) → j.broken ≡ false → IfSome told (λ d. (d' : DiskState) × (d ≡ after_all syncing_both d'))
    → IfSome told (λ d. journal (image_of d) ≡ Ok (Some j.kept)) → IsOwn told j
own_found None j whole settled found = tt
own_found (Some d) j whole (d', is) found = own_settled (Some d) j whole (subst IsSettled (sym is) (λ image may. only-synced d' image may), found)

pub synced_told : (told now : Option DiskState) → now ≡ option_map (after_all syncing_both) told → IfSome now (λ d. (d' : DiskState) × (d ≡ after_all syncing_both d'))
synced_told None now is = rw is tt
synced_told (Some d) now is = rw is (d, refl)

-- a disk that does not tell
pub if_none : (told : Option DiskState) (P : Type 0) → (told ≡ None → P) → IfNone told P
if_none None P each = each refl
if_none (Some d) P each = tt

pub leaves_nothing : (told : Option DiskState) → told ≡ None → (P : Image → Type 0) (image : Image) → Leaves told image → P image
leaves_nothing told is P image left = absurd (subst (λ (o : Option DiskState). Leaves o image) is left)

pub untold_making : (told : Option DiskState) → told ≡ None → (image : Image) → IsMadeOrBlank Zero first_journal (read_of told One) image → IsEmptyOrNone image
untold_making told is image (cases, beside) =
    let other : file_of image.one ≡ Ok None = ap file_of (beside ∙ ap (λ (t : Option DiskState). read_of t One) is) ∙ length_blank [] (omega arith) in
    elim cases [
      | inl blank ↦ inl (ap (λ (r : Result (Option Committed) ℕ). joined r (file_of image.one)) blank ∙ ap (λ (r : Result (Option Committed) ℕ). joined (Ok None) r) other)
      | inr made ↦ inr (ap (λ (r : Result (Option Committed) ℕ). joined r (file_of image.one)) made ∙ ap (λ (r : Result (Option Committed) ℕ). joined (Ok (Some first_journal)) r) other)
    ]
