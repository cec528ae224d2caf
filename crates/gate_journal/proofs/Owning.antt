-- Disks that are a journal's own.
use Rattle.std.specs.Prelude.{IfSome, IsSomeAnd, IsOk, Option, None, Some, Result, Ok}
use Rattle.std.proofs.Common.{◌≡◌, inl, inr, true, false, ℕ, ◌+◌, ◌≤◌, List, length, refl, sym, ◌∙◌, subst, arith}
use Rattle.crash_disk.specs.declared.file_no.FileNo.{FileNo}
use Rattle.crash_disk.specs.Disk.{Image, DiskState, IsSettled, image_of}
use Rattle.crash_disk.specs.Moments.{DiskShown, Leaves, LeavesOnly}
use Rattle.gate_journal.specs.Format.{Kept, journal, end_of, gate_place}
use Rattle.gate_journal.specs.Journal.{OpenedJournal, IsOwn, IsReadyFor, WithOrWithout, IsBeforeOrAfter, IsOldOrNew, room_of}

pub is_ok : {T E : Type 0} (r : Result T E) (x : T) → r ≡ Ok x → IsOk r
is_ok r x is = rw is refl

-- a disk of which each image stands for some list is a broken journal's own
pub own_broken : (told : Option DiskState) (j : OpenedJournal) → j.broken ≡ true → ((image : Image) → Leaves told image → IsOk (journal image)) → IsOwn told j
own_broken None j broken each = tt
own_broken (Some d) j broken each = rw broken each

pub own_settled : (told : Option DiskState) (j : OpenedJournal) → j.broken ≡ false → IfSome told (λ d. IsSettled d × (journal (image_of d) ≡ Ok (Some j.kept))) → IsOwn told j
own_settled None j whole is = tt
own_settled (Some d) j whole is = rw whole is

pub own_is : (told : Option DiskState) (j : OpenedJournal) → j.broken ≡ false → IsOwn told j → IfSome told (λ d. IsSettled d × (journal (image_of d) ≡ Ok (Some j.kept)))
own_is None j whole own = tt
own_is (Some d) j whole own = rw whole at own

-- what a crash might have left since a moment is among it what it may leave now
pub left_now_stands : {D : Type 0} (shows : D → DiskShown) (old new : D) (P : Image → Type 0)
    → ((disk : D) (t : ℕ) (image : Image) → t ≤ (shows disk).moment → Leaves (shows disk).told image → (shows disk).left_since t image) → LeavesOnly shows old new P
    → (image : Image) → Leaves (shows new).told image → P image
left_now_stands shows old new P counts only image left = only.each image (counts new (shows old).moment image only.later left)

-- a journal whose record is to be written
pub ready : (told : Option DiskState) (j : OpenedJournal) (file : FileNo) (end gate : ℕ) (payload : List ℕ) → IsOwn told j → j.broken ≡ false → j.kept.holds.version ≡ 2 → file ≡ j.kept.file
    → end ≡ end_of j.kept.holds.payloads → gate ≡ gate_place j.kept.holds.payloads → length payload ≤ 1048576 → length payload + 5 ≤ room_of j.kept → IfSome told (IsReadyFor file end gate payload)
ready None j file end gate payload own whole version file_is end_is gate_is longest room = tt
ready (Some d) j file end gate payload own whole version file_is end_is gate_is longest room =
    let is = own_is (Some d) j whole own in
    record { kept = j.kept; settled = is.0; stands = is.1; version = version; file_is = file_is; end_is = end_is; gate_is = gate_is; longest = longest; fits = omega arith }

-- what stands for a journal with a record or without it
pub with_or_without : (told : Option DiskState) (j : OpenedJournal) (payload : List ℕ) (image : Image) → IsOwn told j → j.broken ≡ false → IsSomeAnd told (λ d. WithOrWithout payload d image) → IsBeforeOrAfter payload j.kept image
with_or_without None j payload image own whole left = absurd left
with_or_without (Some d) j payload image own whole (kept, stands, cases) =
    let is = own_is (Some d) j whole own in
    let same : kept ≡ j.kept = (let both : Ok (Some kept) ≡ Ok (Some j.kept) = sym stands ∙ is.1 in cc) in
    subst (λ (k : Kept). IsBeforeOrAfter payload k image) same cases

pub before_or_after_ok : (payload : List ℕ) (kept : Kept) (image : Image) → IsBeforeOrAfter payload kept image → IsOk (journal image)
before_or_after_ok payload kept image (inl is) = is_ok _ _ is
before_or_after_ok payload kept image (inr is) = is_ok _ _ is

pub old_or_new_ok : (old new : Kept) (image : Image) → IsOldOrNew old new image → IsOk (journal image)
old_or_new_ok old new image (inl is) = is_ok _ _ is
old_or_new_ok old new image (inr is) = is_ok _ _ is
