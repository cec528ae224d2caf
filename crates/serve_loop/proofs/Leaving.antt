-- What a crash may leave while turns are done.
use Rattle.std.specs.Prelude.{◌≡◌, ℕ, List, [], ◌∷◌, Option}
use Rattle.std.proofs.Common.{refl, subst, sym, inl, inr, lit<}
use Rattle.crash_disk.specs.Disk.{Image, DiskState}
use Rattle.crash_disk.specs.Moments.{DiskShown, Leaves, LeavesOnly}
use Rattle.crash_disk.specs.Steps.{started, weaker}
use Rattle.serve_loop.specs.Worlds.{NodeLeaves}
use Rattle.serve_loop.specs.Turns.{Asked, Turn, Answered}
use Rattle.serve_loop.specs.Serving.{MightLeave}

module _ {N D : Type 0} (leaves : NodeLeaves N) (shows : D → DiskShown) where
  -- where the disk is as it was
  pub untouched : ((disk : D) (image : Image) → (shows disk).left_since (shows disk).moment image
      → Leaves (shows disk).told image) → (old new : D) (turns : List (Turn N)) → new ≡ old
      → LeavesOnly shows old new (MightLeave leaves (shows old).told turns)
  untouched only_now old new turns same =
      subst (λ (disk : D). LeavesOnly shows old disk (MightLeave leaves (shows old).told turns)) (sym same)
      (started shows old (MightLeave leaves (shows old).told turns) (λ image left. inl (only_now old image left)))

  -- where a request was answered
  pub asked_once : (told : Option DiskState) (old new : D) (piece : List ℕ) (asked : Asked N)
      → LeavesOnly shows old new (leaves asked.node asked.disk asked.request asked.now)
      → LeavesOnly shows old new (MightLeave leaves told (Answered piece asked ∷ []))
  asked_once told old new piece asked only = weaker shows old new (leaves asked.node asked.disk asked.request asked.now)
      (MightLeave leaves told (Answered piece asked ∷ [])) only (λ image left. inr (asked, (0, lit< tt, refl), left))
