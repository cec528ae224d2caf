-- That disks in memory keep the disk rule.
use Rattle.std.specs.Prelude.{Result, Ok, Err, is_ok, if◌then◌else◌, ◌==◌}
use Rattle.std.proofs.Common.{◌≡◌, ◌⊎◌, inl, inr, Bool, true, false, ℕ, ◌+◌, ◌≤◌, None, Some, List, [], ◌∷◌, ◌++◌, length, take, refl, sym, ◌∙◌, ap, subst, arith, length-append}
use Rattle.std.proofs.lemmas.List.{take_all, take-append-le}
use Rattle.std.proofs.lemmas.Bool.{cases_lt}
use Rattle.crash_disk.specs.declared.file_no.FileNo.TheVariants.{Zero, One}
use Rattle.crash_disk.specs.declared.change.Change.{Change}
use Rattle.crash_disk.specs.declared.change.Change.TheVariants.{Write, Cut, Sync}
use Rattle.crash_disk.specs.declared.change.Taken.{Taken}
use Rattle.crash_disk.specs.Disk.{Image, DiskState, MayLeave, LeavesAtMost, FailsIn, Changes, FileState, FileMayLeave, after_write, after_cut, settled_image, begun}
use Rattle.crash_disk.specs.Moments.{DiskShown, IsMadeByCalls, Elapses}
use Rattle.crash_disk.specs.Memory.{DiskInMemory, state_of, LeftSince, left_by, replay, after_taken, answered, after_call, starved_by_call, faulted, Calls, Changing, Starved, Reading}
use Rattle.crash_disk.specs.Soundness.{IsSoundDisk, sound-begun, sound-replay, sound-settled_image, left_by_a_crash, only-settled_image, replay-push, outside-push}

pub sound-state : (m : DiskInMemory) → IsSoundDisk (state_of m)
sound-state m = sound-replay (settled_image m.start) m.log (sound-settled_image m.start)

after_write_at_most : (at : ℕ) (bytes : List ℕ) (file : FileState) (left : List ℕ) → FileMayLeave file left → FileMayLeave (after_write at bytes file) left
after_write_at_most at bytes file left may = record {
  no_shorter = omega (arith, may.no_shorter);
  no_longer = omega (arith, may.no_longer);
  elsewhere = λ i low out. may.elsewhere i (omega arith) (outside-push i file.written (record { start = at; end = at + length bytes }) out).0;
}

after_cut_at_most : (n : ℕ) (file : FileState) (left : List ℕ) → FileMayLeave file left → FileMayLeave (after_cut n file) left
after_cut_at_most n file left may = record {
  no_shorter = omega (arith, may.no_shorter);
  no_longer = omega (arith, may.no_longer);
  elsewhere = λ i low out. may.elsewhere i (omega arith) out;
}

-- a call that changed nothing
pub at_most_begun : (change : Change) (disk : DiskState) → LeavesAtMost (begun change disk) disk
at_most_begun (Write Zero at bytes) disk image may = record { zero = after_write_at_most at bytes disk.zero image.zero may.zero; one = may.one }
at_most_begun (Write One at bytes) disk image may = record { zero = may.zero; one = after_write_at_most at bytes disk.one image.one may.one }
at_most_begun (Cut Zero n) disk image may = record { zero = after_cut_at_most n disk.zero image.zero may.zero; one = may.one }
at_most_begun (Cut One n) disk image may = record { zero = may.zero; one = after_cut_at_most n disk.one image.one may.one }
at_most_begun (Sync file) disk image may = may

-- a stop leaves one of the images of the disk in which the call was begun
stopped_at_most : (pick : ℕ) (change : Change) (disk : DiskState) → IsSoundDisk disk → LeavesAtMost (begun change disk) (after_taken (Some pick) change disk)
stopped_at_most pick change disk sound image may =
    let is = only-settled_image (left_by pick (begun change disk)) image (record { zero = may.zero; one = may.one }) in
    subst (MayLeave (begun change disk)) (sym is) (left_by_a_crash pick (begun change disk) (sound-begun change disk sound))

-- how a call changed a disk in memory
pub data HowChanged (change : Change) (old new : DiskInMemory) (ok : Bool) : Type 0 where
  did : ok ≡ true → new.start ≡ old.start → new.log ≡ old.log ++ record { change = change; stop = None } ∷ [] → HowChanged change old new ok
  stopped_in : (pick : ℕ) → ok ≡ false → new.start ≡ old.start → new.log ≡ old.log ++ record { change = change; stop = Some pick } ∷ [] → HowChanged change old new ok
  nothing : ok ≡ false → new.start ≡ old.start → new.log ≡ old.log → HowChanged change old new ok

by_cases : (change : Change) (old new : DiskInMemory) (ok stopped stops fails : Bool)
    → (ok, new) ≡ answered stopped stops fails change old
    → HowChanged change old new ok
by_cases change old new ok true stops fails is = nothing (ap (λ p. p.0) is) (ap (λ p. p.1.start) is) (ap (λ p. p.1.log) is)
by_cases change old new ok false true fails is = stopped_in old.pick (ap (λ p. p.0) is) (ap (λ p. p.1.start) is) (ap (λ p. p.1.log) is)
by_cases change old new ok false false true is = nothing (ap (λ p. p.0) is) (ap (λ p. p.1.start) is) (ap (λ p. p.1.log) is)
by_cases change old new ok false false false is = did (ap (λ p. p.0) is) (ap (λ p. p.1.start) is) (ap (λ p. p.1.log) is)

how_changed : (change : Change) (old new : DiskInMemory) (ok : Bool) → ((ok, new) ≡ after_call change old) ⊎ ((ok, new) ≡ starved_by_call old) → HowChanged change old new ok
how_changed change old new ok (inl is) = by_cases change old new ok old.stopped (old.stopping == 1) (old.failing == 1) is
how_changed change old new ok (inr is) = nothing (ap (λ p. p.0) is) (ap (λ p. p.1.start) is) (ap (λ p. p.1.log) is)

-- the state after one more call
pushed : (old new : DiskInMemory) (taken : Taken) → new.start ≡ old.start → new.log ≡ old.log ++ taken ∷ [] → state_of new ≡ after_taken taken.stop taken.change (state_of old)
pushed old new taken start log = ap (λ (i : Image). replay (settled_image i) new.log) start ∙ ap (replay (settled_image old.start)) log ∙ replay-push (settled_image old.start) old.log taken

unchanged : (old new : DiskInMemory) → new.start ≡ old.start → new.log ≡ old.log → state_of new ≡ state_of old
unchanged old new start log = ap (λ (i : Image). replay (settled_image i) new.log) start ∙ ap (replay (settled_image old.start)) log

changes_by : {T E : Type 0} (change : Change) (old new : DiskInMemory) (result : Result T E) → HowChanged change old new (is_ok result) → Changes change (Some (state_of old)) result (Some (state_of new))
changes_by change old new (Ok x) (did ok start log) = ap Some (pushed old new (record { change = change; stop = None }) start log)
changes_by change old new (Ok x) (stopped_in pick ok start log) = absurd (cc)
changes_by change old new (Ok x) (nothing ok start log) = absurd (cc)
changes_by change old new (Err e) (did ok start log) = absurd (cc)
changes_by change old new (Err e) (stopped_in pick ok start log) =
    subst (FailsIn change (state_of old)) (sym (pushed old new (record { change = change; stop = Some pick }) start log))
    (record { leaves = stopped_at_most pick change (state_of old) (sound-state old); took = inr refl })
changes_by change old new (Err e) (nothing ok start log) =
    subst (FailsIn change (state_of old)) (sym (unchanged old new start log)) (record { leaves = at_most_begun change (state_of old); took = inl refl })

pub changes_in_memory : {T E : Type 0} (change : Change) (old new : DiskInMemory) (result : Result T E) → Calls change old result new → Changes change (Some (state_of old)) result (Some (state_of new))
changes_in_memory change old new result calls = changes_by change old new result (how_changed change old new (is_ok result) calls)

since_push : (old new : DiskInMemory) (taken : Taken) (t : ℕ) (image : Image) → new.start ≡ old.start → new.log ≡ old.log ++ taken ∷ [] → t ≤ length old.log → LeftSince new t image → LeftSince old t image ⊎ MayLeave (state_of new) image
since_push old new taken t image start log le (k, low, high, may) =
    let longer : length new.log ≡ length old.log + 1 = ap length log ∙ length-append old.log (taken ∷ []) in
    elim (cases_lt k (length new.log)) [
      | inl before ↦
          let front : take k new.log ≡ take k old.log = ap (take k) log ∙ take-append-le k old.log (taken ∷ []) (omega arith) in
          inl (k, low, omega arith, subst (λ (s : DiskState). MayLeave s image) (ap (λ (i : Image). replay (settled_image i) (take k new.log)) start ∙ ap (replay (settled_image old.start)) front) may)
      | inr now ↦
          let all : take k new.log ≡ new.log = take_all k new.log now in
          inr (subst (λ (l : List Taken). MayLeave (replay (settled_image new.start) l) image) all may)
    ]

keeps_push : (old new : DiskInMemory) (taken : Taken) (t : ℕ) (image : Image) → new.start ≡ old.start → new.log ≡ old.log ++ taken ∷ [] → LeftSince old t image → LeftSince new t image
keeps_push old new taken t image start log (k, low, high, may) =
    let longer : length new.log ≡ length old.log + 1 = ap length log ∙ length-append old.log (taken ∷ []) in
    let front : take k new.log ≡ take k old.log = ap (take k) log ∙ take-append-le k old.log (taken ∷ []) high in
    (k, low, omega arith, subst (λ (s : DiskState). MayLeave s image) (sym (ap (λ (i : Image). replay (settled_image i) (take k new.log)) start ∙ ap (replay (settled_image old.start)) front)) may)

-- what a disk in memory shows
abbrev pub shown_in_memory : DiskInMemory → DiskShown
shown_in_memory m = record { told = Some (state_of m); faults = m.faults; moment = length m.log; left_since = LeftSince m; memory = Some m }

-- one call made the new disk of the old one
made_by_call : (change : Change) (old new : DiskInMemory) (ok : Bool) → ((ok, new) ≡ after_call change old) ⊎ ((ok, new) ≡ starved_by_call old) → IsMadeByCalls (Some old) (Some new)
made_by_call change old new ok (inl is) = (Changing change ∷ [], ap (λ p. p.1) is)
made_by_call change old new ok (inr is) = (Starved ∷ [], ap (λ p. p.1) is)

made_by_reading : (old new : DiskInMemory) → old.stopped ≡ true → new ≡ faulted old → IsMadeByCalls (Some old) (Some new)
made_by_reading old new stopped is = (Reading ∷ [], is ∙ sym (ap (λ (b : Bool). if b then faulted old else old) stopped))

elapses_push : (old new : DiskInMemory) (taken : Taken) → new.start ≡ old.start → new.log ≡ old.log ++ taken ∷ [] → IsMadeByCalls (Some old) (Some new) → Elapses (shown_in_memory old) (shown_in_memory new)
elapses_push old new taken start log made =
    let longer : length new.log ≡ length old.log + 1 = ap length log ∙ length-append old.log (taken ∷ []) in
    record {
      later = omega arith;
      nothing_else = λ t image le left. since_push old new taken t image start log le left;
      keeps = λ t image le left. keeps_push old new taken t image start log left;
      calls = made;
    }

-- disks of one start and one list of calls might have left the same
moved : (old new : DiskInMemory) (t : ℕ) (image : Image) → new.start ≡ old.start → new.log ≡ old.log → LeftSince old t image → LeftSince new t image
moved old new t image start log (k, low, high, may) =
    let as_long : length new.log ≡ length old.log = ap length log in
    (k, low, omega arith, subst (λ (s : DiskState). MayLeave s image) (sym (ap (λ (i : Image). replay (settled_image i) (take k new.log)) start ∙ ap (λ (l : List Taken). replay (settled_image old.start) (take k l)) log)) may)

elapses_same : (old new : DiskInMemory) → new.start ≡ old.start → new.log ≡ old.log → IsMadeByCalls (Some old) (Some new) → Elapses (shown_in_memory old) (shown_in_memory new)
elapses_same old new start log made =
    let as_long : length new.log ≡ length old.log = ap length log in
    record {
      later = omega arith;
      nothing_else = λ t image le left. inl (moved new old t image (sym start) (sym log) left);
      keeps = λ t image le left. moved old new t image start log left;
      calls = made;
    }

-- one that fails, since the disk has stopped
pub elapses_unread : (old new : DiskInMemory) → old.stopped ≡ true → new ≡ faulted old → Elapses (shown_in_memory old) (shown_in_memory new)
elapses_unread old new stopped is = elapses_same old new (ap (λ (m : DiskInMemory). m.start) is) (ap (λ (m : DiskInMemory). m.log) is) (made_by_reading old new stopped is)

elapses_by : (change : Change) (old new : DiskInMemory) (ok : Bool) → IsMadeByCalls (Some old) (Some new) → HowChanged change old new ok → Elapses (shown_in_memory old) (shown_in_memory new)
elapses_by change old new ok made (did is start log) = elapses_push old new (record { change = change; stop = None }) start log made
elapses_by change old new ok made (stopped_in pick is start log) = elapses_push old new (record { change = change; stop = Some pick }) start log made
elapses_by change old new ok made (nothing is start log) = elapses_same old new start log made

pub elapses_in_memory : {T E : Type 0} (change : Change) (old new : DiskInMemory) (result : Result T E) → Calls change old result new → Elapses (shown_in_memory old) (shown_in_memory new)
elapses_in_memory change old new result calls = elapses_by change old new (is_ok result) (made_by_call change old new (is_ok result) calls) (how_changed change old new (is_ok result) calls)
