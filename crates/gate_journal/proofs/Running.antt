-- Runs of calls on a disk: what a crash at any moment of them leaves, and what the disk tells behind them.
use Rattle.std.specs.Prelude.{IfSome, Option, Result, Ok}
use Rattle.std.specs.Option.{option_map}
use Rattle.std.proofs.Common.{◌≡◌, subst, sym}
use Rattle.crash_disk.specs.declared.change.Change.{Change}
use Rattle.crash_disk.specs.Disk.{Image, DiskState, MayLeave, image_of, Changes, after, begun}
use Rattle.crash_disk.specs.Moments.{DiskShown, Leaves, Elapses, LeavesOnly}
use Rattle.crash_disk.specs.Steps.{started, goes_on, then}
use Rattle.gate_journal.proofs.Lifting.{Reads, here, images, done}

module _ {D : Type 0} (shows : D → DiskShown) where
  -- Since the old disk a crash leaves only what has P, and the disk is now as S says.
  pub record Run (P : Image → Type 0) (old now : D) (S : DiskState → Type 0) : Type 0 where
    pub moments : LeavesOnly shows old now P
    pub state : IfSome (shows now).told S

  -- before the first call
  pub begins : (P : Image → Type 0) (old : D) (S : DiskState → Type 0) → ((image : Image) → (shows old).left_since (shows old).moment image → Leaves (shows old).told image) → IfSome (shows old).told S
      → ((d : DiskState) → S d → (image : Image) → MayLeave d image → P image) → Run P old old S
  begins P old S now state each = record { moments = started shows old P (λ image left. here (shows old).told S P state each image (now image left)); state = state }

module _ {D : Type 0} {shows : D → DiskShown} {P : Image → Type 0} {old mid : D} (new : D) {S : DiskState → Type 0} (run : Run shows P old mid S) where
  -- a changing call more, whether it succeeded or not
  pub tries : {T E : Type 0} (change : Change) (result : Result T E) → Elapses (shows mid) (shows new) → Changes change (shows mid).told result (shows new).told → Reads (shows mid).told
      → ((d : DiskState) → MayLeave d (image_of d) → S d → (image : Image) → MayLeave (begun change d) image → P image) → LeavesOnly shows old new P
  tries change result time changes reads each = goes_on shows old mid new P run.moments time (images change (shows mid).told result (shows new).told S P changes reads run.state each)

  -- a changing call more that succeeded
  pub does : (S' : DiskState → Type 0) (change : Change) → Elapses (shows mid) (shows new) → (shows new).told ≡ option_map (after change) (shows mid).told → Reads (shows mid).told
      → ((d : DiskState) → MayLeave d (image_of d) → S d → (image : Image) → MayLeave (begun change d) image → P image) → ((d : DiskState) → MayLeave d (image_of d) → S d → S' (after change d)) → Run shows P old new S'
  does S' change time is reads each leads =
      let ok : Result (Unit {0}) (Unit {0}) = Ok tt in
      record { moments = tries change ok time is reads each; state = done change (shows mid).told (shows new).told S S' is reads run.state leads }

  -- a call that only reads
  pub looks : Elapses (shows mid) (shows new) → (shows new).told ≡ (shows mid).told → ((d : DiskState) → S d → (image : Image) → MayLeave d image → P image) → Run shows P old new S
  looks time same each =
      let state : IfSome (shows new).told S = subst (λ (o : Option DiskState). IfSome o S) (sym same) run.state in
      record { moments = goes_on shows old mid new P run.moments time (here (shows new).told S P state each); state = state }

  -- a whole run behind it
  pub joins : (Q : Image → Type 0) → LeavesOnly shows mid new Q → ((image : Image) → Q image → P image) → LeavesOnly shows old new P
  joins Q more leads = then shows old mid new P Q P run.moments more (λ image p. p) leads
