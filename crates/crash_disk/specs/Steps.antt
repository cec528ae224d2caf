-- How a run of calls goes on: what a crash may leave after each, and what it might have left so far.
use Rattle.std.specs.Prelude.{IfSome, IsSomeAnd, Result, Ok, Err}
use Rattle.std.proofs.Common.{◌≡◌, inl, inr, ⊎_elim, List, [], ◌∷◌, ◌++◌, Option, None, Some, refl, sym, ◌∙◌, ap, subst, arith}
use Rattle.crash_disk.specs.declared.file_no.FileNo.TheVariants.{Zero, One}
use Rattle.crash_disk.specs.declared.change.Change.{Change}
use Rattle.crash_disk.specs.declared.change.Change.TheVariants.{Write, Cut, Sync}
use Rattle.crash_disk.specs.Disk.{Image, FileMayLeave, DiskState, MayLeave, image_of, Changes, after, begun}
use Rattle.crash_disk.specs.Memory.{DiskInMemory, Call, after_one, after_calls}
use Rattle.crash_disk.specs.Moments.{DiskShown, Leaves, IsMadeByCalls, Elapses, LeavesOnly}
use Rattle.crash_disk.specs.Soundness.{only-settled}

after_at_most : (change : Change) (disk : DiskState) (image : Image) → MayLeave disk (image_of disk) → MayLeave (after change disk) image → MayLeave (begun change disk) image
after_at_most (Write file at bytes) disk image reads may = may
after_at_most (Cut file n) disk image reads may = may
after_at_most (Sync Zero) disk image reads may = record { zero = subst (FileMayLeave disk.zero) (sym (only-settled disk.zero.reads image.zero may.zero)) reads.zero; one = may.one }
after_at_most (Sync One) disk image reads may = record { zero = may.zero; one = subst (FileMayLeave disk.one) (sym (only-settled disk.one.reads image.one may.one)) reads.one }

-- After a changing call, whether it succeeded or not, a crash leaves no more than what it may leave where the call was begun.
pub leaves_begun : {T E : Type 0} (change : Change) (told : Option DiskState) (result : Result T E) (now : Option DiskState) (image : Image)
    → Changes change told result now → IfSome told (λ disk. MayLeave disk (image_of disk)) → Leaves now image → IsSomeAnd told (λ disk. MayLeave (begun change disk) image)
leaves_begun change None (Ok x) now image is reads left = subst (λ (o : Option DiskState). Leaves o image) is left
leaves_begun change None (Err e) now image is reads left = subst (λ (o : Option DiskState). Leaves o image) is left
leaves_begun change (Some disk) (Ok x) now image is reads left = after_at_most change disk image reads (subst (λ (o : Option DiskState). Leaves o image) is left)
leaves_begun change (Some disk) (Err e) None image is reads left = absurd left
leaves_begun change (Some disk) (Err e) (Some new) image is reads left = is.leaves image left

-- a sync leaves no more than before it
pub leaves_sync : {T E : Type 0} (change : Change) (told : Option DiskState) (result : Result T E) (now : Option DiskState) (image : Image)
    → ((disk : DiskState) → begun change disk ≡ disk) → Changes change told result now → IfSome told (λ disk. MayLeave disk (image_of disk)) → Leaves now image → Leaves told image
leaves_sync change None result now image same is reads left = leaves_begun change None result now image is reads left
leaves_sync change (Some disk) result now image same is reads left = subst (λ (d : DiskState). MayLeave d image) (same disk) (leaves_begun change (Some disk) result now image is reads left)

after_both_calls : (first second : List Call) (m : DiskInMemory) → after_calls (first ++ second) m ≡ after_calls second (after_calls first m)
after_both_calls [] second m = refl
after_both_calls (call ∷ first) second m = after_both_calls first second (after_one call m)

pub no_call : (before : Option DiskInMemory) → IsMadeByCalls before before
no_call None = tt
no_call (Some m) = ([], refl)

pub more_calls : (before mid now : Option DiskInMemory) → IsMadeByCalls before mid → IsMadeByCalls mid now → IsMadeByCalls before now
more_calls None mid now first second = tt
more_calls (Some old) None now first second = absurd first
more_calls (Some old) (Some mid) None first second = absurd second
more_calls (Some old) (Some mid) (Some new) (calls, is) (later, was) =
    (calls ++ later, was ∙ ap (after_calls later) is ∙ sym (after_both_calls calls later old))

module _ {D : Type 0} (shows : D → DiskShown) where
  -- before the first call
  pub started : (old : D) (P : Image → Type 0) → ((image : Image) → (shows old).left_since (shows old).moment image → P image) → LeavesOnly shows old old P
  started old P here = record {
    later = omega arith;
    each = here;
    before = λ t image le left. inl left;
    keeps = λ t image le left. left;
    calls = no_call (shows old).memory;
  }

  -- one call more, after which a crash leaves what has P
  pub goes_on : (old mid new : D) (P : Image → Type 0) → LeavesOnly shows old mid P → Elapses (shows mid) (shows new)
      → ((image : Image) → Leaves (shows new).told image → P image) → LeavesOnly shows old new P
  goes_on old mid new P so_far time here = record {
    later = omega (arith, so_far.later, time.later);
    each = λ image left. ⊎_elim (so_far.each image) (here image) (time.nothing_else (shows old).moment image so_far.later left);
    before = λ t image le left. ⊎_elim (so_far.before t image le) (λ now. inr (here image now)) (time.nothing_else t image (omega (arith, le, so_far.later)) left);
    keeps = λ t image le left. time.keeps t image (omega (arith, le, so_far.later)) (so_far.keeps t image le left);
    calls = more_calls (shows old).memory (shows mid).memory (shows new).memory so_far.calls time.calls;
  }

  -- one run behind another
  pub then : (old mid new : D) (P Q R : Image → Type 0) → LeavesOnly shows old mid P → LeavesOnly shows mid new Q
      → ((image : Image) → P image → R image) → ((image : Image) → Q image → R image) → LeavesOnly shows old new R
  then old mid new P Q R first second p q = record {
    later = omega (arith, first.later, second.later);
    each = λ image left. ⊎_elim (λ was. p image (first.each image was)) (q image) (second.before (shows old).moment image first.later left);
    before = λ t image le left. ⊎_elim (λ was. ⊎_elim inl (λ now. inr (p image now)) (first.before t image le was)) (λ now. inr (q image now)) (second.before t image (omega (arith, le, first.later)) left);
    keeps = λ t image le left. second.keeps t image (omega (arith, le, first.later)) (first.keeps t image le left);
    calls = more_calls (shows old).memory (shows mid).memory (shows new).memory first.calls second.calls;
  }

  -- what is weaker holds too
  pub weaker : (old new : D) (P R : Image → Type 0) → LeavesOnly shows old new P → ((image : Image) → P image → R image) → LeavesOnly shows old new R
  weaker old new P R first p = record {
    later = first.later;
    each = λ image left. p image (first.each image left);
    before = λ t image le left. ⊎_elim inl (λ now. inr (p image now)) (first.before t image le left);
    keeps = first.keeps;
    calls = first.calls;
  }
