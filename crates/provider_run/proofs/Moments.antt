-- What a crash may leave while a node runs.
use Rattle.std.specs.Prelude.{ℕ, ◌≤◌, List, Option, None, Some, Ok, Err}
use Rattle.crash_disk.specs.declared.change.Change.{Change}
use Rattle.crash_disk.specs.Plans.{Follows}
use Rattle.std.proofs.Common.{inl, inr, refl, ⊎_elim}
use Rattle.crash_disk.specs.Disk.{Image, DiskState}
use Rattle.crash_disk.specs.Moments.{DiskShown, Leaves, LeavesOnly}
use Rattle.crash_disk.specs.Steps.{started, then, weaker}
use Rattle.serve_loop.specs.Turns.{Turn}
use Rattle.serve_loop.specs.Serving.{MightLeave}
use Rattle.serve_loop.specs.Worlds.{NodeLeaves}
use Rattle.record_ledger.specs.Calls.{opening}
use Rattle.provider_node.specs.Calls.{Begins, Makes, OpeningLeaves}
use Rattle.provider_node.proofs.Calling.{carried_err, carried_ok, first_amid}
use Rattle.record_ledger.specs.Rules.{RecordRules}
use Rattle.provider_run.specs.Runs.{RunLeavesBy}

module _
    {N D : Type 0} (shows : D → DiskShown) (InOpening : Option DiskState → Image → Type 0) (leaves : NodeLeaves N) where
  -- the disk was not touched, and what is left then is left by an opening, too
  pub untouched : ((disk : D) (image : Image) → (shows disk).left_since (shows disk).moment image
      → InOpening (shows disk).told image) → (disk : D) (turns : List (Turn N))
      → LeavesOnly shows disk disk (RunLeavesBy (InOpening (shows disk).told) leaves turns)
  untouched only_now disk turns = started shows disk
      (RunLeavesBy (InOpening (shows disk).told) leaves turns) (λ image left. inl (only_now disk image left))

  -- the ledger was opened, or not, and no more was done
  pub opened : (old new : D) (turns : List (Turn N)) → LeavesOnly shows old new (InOpening (shows old).told)
      → LeavesOnly shows old new (RunLeavesBy (InOpening (shows old).told) leaves turns)
  opened old new turns opening = weaker shows old new
      (InOpening (shows old).told) (RunLeavesBy (InOpening (shows old).told) leaves turns) opening (λ image. inl)

  -- the ledger was opened, and then requests were answered
  pub served : ((disk : D) (t : ℕ) (image : Image) → t ≤ (shows disk).moment → Leaves (shows disk).told image
      → (shows disk).left_since t image) → (old mid new : D) (turns : List (Turn N)) → LeavesOnly shows old mid
      (InOpening (shows old).told) → LeavesOnly shows mid new (MightLeave leaves (shows mid).told turns)
      → LeavesOnly shows old new (RunLeavesBy (InOpening (shows old).told) leaves turns)
  served counts_now old mid new turns opening serving =
      then shows old mid new (InOpening (shows old).told) (MightLeave leaves (shows mid).told turns)
      (RunLeavesBy (InOpening (shows old).told) leaves turns) opening serving (λ image. inl) (λ image.
      ⊎_elim (λ left. inl (opening.each image (counts_now mid (shows old).moment image opening.later left))) inr)

-- what is left now is left by an opening, too: it stands for what it stands for
pub leaves_opening : {R : Type 0} (rules : RecordRules R) (told : Option DiskState) (image : Image)
    → Leaves told image → OpeningLeaves rules told image
leaves_opening rules None image left = absurd left
leaves_opening rules (Some disk) image left =
    record { stands = (image, left, inl refl); amid = first_amid (opening rules) (Some disk) image left }

-- all calls of a plan were made where a call that follows it succeeded, and else a beginning
pub follows_ok : {D T E : Type 0} (shows : D → DiskShown) (plan : DiskState → List Change) (old new : D) (x : T)
    → Follows {T = T} {E = E} shows plan old new (Ok x) → Makes plan (shows old).told (shows new).told
follows_ok {T = T} {E = E} shows plan old new x follows =
    carried_ok T E plan (shows old).told (shows new).told x follows.ends

pub follows_err : {D T E : Type 0} (shows : D → DiskShown) (plan : DiskState → List Change) (old new : D) (e : E)
    → Follows {T = T} {E = E} shows plan old new (Err e) → Begins plan (shows old).told (shows new).told
follows_err {T = T} {E = E} shows plan old new e follows =
    carried_err T E plan (shows old).told (shows new).told e follows.ends
