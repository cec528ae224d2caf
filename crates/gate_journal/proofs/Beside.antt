-- What a crash may leave while a journal is made beside the one that stands.
use Rattle.std.specs.Prelude.{IfSome, Option, None, Some, Result, Ok, Err}
use Rattle.std.proofs.Common.{◌≡◌, inl, inr, ⊎_elim, false, ℕ, ◌<◌, List, [], ◌∷◌, length, refl, sym, ◌∙◌, ap, subst, arith}
use Rattle.crash_disk.specs.declared.file_no.FileNo.{FileNo}
use Rattle.crash_disk.specs.declared.file_no.FileNo.TheVariants.{Zero, One}
use Rattle.crash_disk.specs.Disk.{Image, DiskState, MayLeave, IsSettled, image_of, content, reads_of}
use Rattle.crash_disk.specs.Moments.{DiskShown, LeavesOnly}
use Rattle.crash_disk.specs.Steps.{weaker}
use Rattle.crash_disk.specs.Torn.{other_file, quiet-disk}
use Rattle.gate_journal.specs.Format.{Committed, Kept, journal, file_of}
use Rattle.gate_journal.specs.Journal.{OpenedJournal, IsOwn, IsOldOrNew}
use Rattle.gate_journal.specs.Making.{IsBeforeOrBlank, IsBeforeOrMade, IsBlankBeside, IsHolding, IsMade, IsMadeOrBlank, read_of}
use Rattle.gate_journal.proofs.Owning.{own_settled}
use Rattle.gate_journal.proofs.Stages.{content-image}
use Rattle.gate_journal.proofs.Standing.{IsOlder, Stands, stands-from, stands-to}

module _ (file : FileNo) (before : Option Committed) (holds : Committed) (other : List ℕ) (image : Image) where
  pub before_or_made : IsBeforeOrBlank file before other image → IsBeforeOrMade file before holds other image
  before_or_made (cases, beside) = (⊎_elim inl (λ none. inr (inl none)) cases, beside)

  pub blank_or_made : IsBlankBeside file other image → IsBeforeOrMade file before holds other image
  blank_or_made (none, beside) = (inr (inl none), beside)

  pub made_or_blank : IsMadeOrBlank file holds other image → IsBeforeOrMade file before holds other image
  made_or_blank (cases, beside) = (⊎_elim (λ none. inr (inl none)) (λ made. inr (inr made)) cases, beside)

-- what a file holds, as far as its disk tells
pub holding_told : (told : Option DiskState) (file : FileNo) → IfSome told (λ d. (before : Option Committed) × IsHolding file before (reads_of d (other_file file)) d) → (before : Option Committed) × IfSome told (IsHolding file before (read_of told (other_file file)))
holding_told None file holding = (None, tt)
holding_told (Some d) file holding = holding

pub other_twice : (file : FileNo) → other_file (other_file file) ≡ file
other_twice Zero = refl
other_twice One = refl

-- what stands in the other file beside a journal
older_is : (holds : Committed) (found : Result (Option Committed) ℕ) → IsOlder holds found → (before : Option Committed) × (found ≡ Ok before)
older_is holds (Err place) older = absurd older
older_is holds (Ok before) older = (before, refl)

-- a disk that stands for a journal
module _ (disk : DiskState) (kept : Kept) (reads : MayLeave disk (image_of disk)) (is : IsSettled disk × (journal (image_of disk) ≡ Ok (Some kept))) where
  abbrev beside : FileNo
  beside = other_file kept.file

  abbrev own_bytes : List ℕ
  own_bytes = reads_of disk (other_file beside)

  stands : Stands (image_of disk) kept.file kept.holds
  stands = stands-from (image_of disk) kept is.1

  older : IsOlder kept.holds (file_of (reads_of disk beside))
  older = subst (λ (b : List ℕ). IsOlder kept.holds (file_of b)) (content-image disk beside) stands.older

  pub own_holds : file_of own_bytes ≡ Ok (Some kept.holds)
  own_holds = ap (λ (f : FileNo). file_of (reads_of disk f)) (other_twice kept.file) ∙ ap file_of (sym (content-image disk kept.file)) ∙ stands.own

  pub held : Option Committed
  held = (older_is kept.holds (file_of (reads_of disk beside)) older).0

  pub held_is : IsHolding beside held own_bytes disk
  unfolding held
  held_is = record { quiet = quiet-disk disk reads is.0; holds = (older_is kept.holds (file_of (reads_of disk beside)) older).1; beside = refl }

  pub held_older : IsOlder kept.holds (Ok held)
  held_older = subst (IsOlder kept.holds) held_is.holds older

  -- each image on the way stands for that journal or for the new one
  pub old_or_new : (holds : Committed) → kept.holds.header.generation < holds.header.generation → (image : Image) → IsBeforeOrMade beside held holds own_bytes image → IsOldOrNew kept (record { file = beside; holds = holds }) image
  old_or_new holds newer image (cases, same) =
      let own : file_of (content image kept.file) ≡ Ok (Some kept.holds) = ap (λ (f : FileNo). file_of (content image f)) (sym (other_twice kept.file)) ∙ ap file_of same ∙ own_holds in
      let old : IsOlder kept.holds (file_of (content image beside)) → journal image ≡ Ok (Some kept) = λ is_older. stands-to image kept.file kept.holds (record { own = own; older = is_older }) in
      elim cases [
        | inl was ↦ inl (old (subst (IsOlder kept.holds) (sym was) held_older))
        | inr others ↦ elim others [
          | inl none ↦ inl (old (subst (IsOlder kept.holds) (sym none) tt))
          | inr made ↦ inr (stands-to image beside holds (record { own = made; older = subst (IsOlder holds) (sym (ap file_of same ∙ own_holds)) newer }))
        ]
      ]

  -- and the new one stands on a disk where it was made
  pub new_stands : (holds : Committed) → kept.holds.header.generation < holds.header.generation → (new : DiskState) → IsMade beside holds own_bytes new → journal (image_of new) ≡ Ok (Some (record { file = beside; holds = holds }))
  new_stands holds newer new made =
      stands-to (image_of new) beside holds (record {
        own = ap file_of (content-image new beside) ∙ made.holds_it;
        older = subst (IsOlder holds) (sym (ap file_of (content-image new (other_file beside) ∙ made.beside) ∙ own_holds)) newer;
      })

not_both : (a : List ℕ) → a ≡ [] → a ≡ 0 ∷ [] → ⊥
not_both a none one = let no : 0 ≡ 1 = ap (length {A = ℕ}) (sym none ∙ one) in absurd (omega (arith, no))

-- two things that each image has
both : {D : Type 0} (shows : D → DiskShown) (old new : D) (P Q R : Image → Type 0) → LeavesOnly shows old new P → LeavesOnly shows old new Q
    → ((image : Image) → P image → Q image → R image) → LeavesOnly shows old new R
both shows old new P Q R p q leads = record {
  later = p.later;
  each = λ image left. leads image (p.each image left) (q.each image left);
  before = λ t image le left. ⊎_elim inl (λ has_p. ⊎_elim inl (λ has_q. inr (leads image has_p has_q)) (q.before t image le left)) (p.before t image le left);
  keeps = p.keeps;
  calls = p.calls;
}

-- the same of all disks
module _ (told : Option DiskState) (kept : Kept) (holds : Committed) (reads : IfSome told (λ d. MayLeave d (image_of d))) (is : IfSome told (λ d. IsSettled d × (journal (image_of d) ≡ Ok (Some kept))))
    (newer : kept.holds.header.generation < holds.header.generation) where
  pub holding_own : IfSome told (λ d. (before : Option Committed) × IsHolding (other_file kept.file) before (reads_of d (other_file (other_file kept.file))) d)
  holding_own = go told reads is
    where
      go : (told : Option DiskState) → IfSome told (λ d. MayLeave d (image_of d)) → IfSome told (λ d. IsSettled d × (journal (image_of d) ≡ Ok (Some kept)))
          → IfSome told (λ d. (before : Option Committed) × IsHolding (other_file kept.file) before (reads_of d (other_file (other_file kept.file))) d)
      go None reads is = tt
      go (Some d) reads is = (held d kept reads is, held_is d kept reads is)

  pub remade_moments : {D : Type 0} (shows : D → DiskShown) (old new : D)
      → ((before : Option Committed) (other : List ℕ) → IfSome told (IsHolding (other_file kept.file) before other) → LeavesOnly shows old new (IsBeforeOrMade (other_file kept.file) before holds other))
      → LeavesOnly shows old new (IsOldOrNew kept (record { file = other_file kept.file; holds = holds }))
  remade_moments shows old new run = go told reads is run
    where
      go : (told : Option DiskState) → IfSome told (λ d. MayLeave d (image_of d)) → IfSome told (λ d. IsSettled d × (journal (image_of d) ≡ Ok (Some kept)))
          → ((before : Option Committed) (other : List ℕ) → IfSome told (IsHolding (other_file kept.file) before other) → LeavesOnly shows old new (IsBeforeOrMade (other_file kept.file) before holds other))
          → LeavesOnly shows old new (IsOldOrNew kept (record { file = other_file kept.file; holds = holds }))
      go None reads is run = both shows old new _ _ _ (run None [] tt) (run None (0 ∷ []) tt) (λ image p q. absurd (not_both _ p.1 q.1))
      go (Some d) reads is run = weaker shows old new _ _ (run (held d kept reads is) (own_bytes d kept reads is) (held_is d kept reads is)) (old_or_new d kept reads is holds newer)

  pub remade_own : (now : Option DiskState) (j : OpenedJournal) → j.broken ≡ false → j.kept ≡ record { file = other_file kept.file; holds = holds }
      → ((before : Option Committed) (other : List ℕ) → IfSome told (IsHolding (other_file kept.file) before other) → IfSome now (IsMade (other_file kept.file) holds other)) → IsOwn now j
  remade_own None j whole kept_is made = tt
  remade_own (Some n) j whole kept_is made = go told reads is made
    where
      go : (told : Option DiskState) → IfSome told (λ d. MayLeave d (image_of d)) → IfSome told (λ d. IsSettled d × (journal (image_of d) ≡ Ok (Some kept)))
          → ((before : Option Committed) (other : List ℕ) → IfSome told (IsHolding (other_file kept.file) before other) → IsMade (other_file kept.file) holds other n) → IsOwn (Some n) j
      go None reads is made = absurd (not_both _ (made None [] tt).beside (made None (0 ∷ []) tt).beside)
      go (Some d) reads is made =
          let new = made (held d kept reads is) (own_bytes d kept reads is) (held_is d kept reads is) in
          own_settled (Some n) j whole (new.settled, new_stands d kept reads is holds newer n new ∙ ap (λ (k : Kept). Ok (Some k)) (sym kept_is))
