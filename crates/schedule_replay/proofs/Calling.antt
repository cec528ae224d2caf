-- What calls make of a disk in memory: how often it stopped, and what is still to come.
use Rattle.std.specs.Prelude.{◌-◌, ◌==◌, if◌then◌else◌, cond, count_by, is_some}
use Rattle.std.proofs.Common.{◌≡◌, Bool, true, false, ℕ, ◌+◌, ◌≤◌, List, [], ◌∷◌, ◌++◌, length, None, Some, refl, sym, ap, subst, arith, length-append}
use Rattle.std.proofs.lemmas.Bool.Decides.{nat_tests}
use Rattle.std.proofs.lemmas.List.Sums.{sum_by_push}
use Rattle.crash_disk.specs.declared.change.Change.{Change}
use Rattle.crash_disk.specs.declared.change.Taken.{Taken}
use Rattle.crash_disk.specs.Memory.{DiskInMemory, answered, faulted, Call, Changing, Starved, Reading, after_one, after_calls, due}
use Rattle.crash_disk.specs.Moments.{IsMadeByCalls}
use Rattle.schedule_replay.specs.Faults.{stops_taken}

-- 1 where it is so
abbrev pub flag : Bool → ℕ
flag is = cond is 1 0

-- What calls can do: they clear no want of memory, log each stop, use up what was set, and log more calls than stops.
pub record Called (old new : DiskInMemory) : Type 0 where
  pub fed : new.starved ≡ false → old.starved ≡ false
  pub stops : stops_taken new + flag old.stopped ≡ stops_taken old + flag new.stopped
  pub to_come : stops_taken new + due new.stopping ≤ stops_taken old + due old.stopping
  pub nearer : due new.failing ≤ due old.failing
  pub logged : stops_taken new + length old.log ≤ stops_taken old + length new.log

due_used : (n : ℕ) → (n == 1) ≡ true → due (n - 1) + 1 ≤ due n
due_used n is = grind (arith, nat_tests)

due_nearer : (n : ℕ) → due (n - 1) ≤ due n
due_nearer n = grind (arith, nat_tests)

-- one call more in the log
pushed : (log : List Taken) (taken : Taken) → (count_by (λ t. is_some t.stop) (log ++ taken ∷ []) ≡ count_by (λ t. is_some t.stop) log + flag (is_some taken.stop))
    × (length (log ++ taken ∷ []) ≡ length log + 1)
pushed log taken = (sum_by_push (λ (t : Taken). flag (is_some t.stop)) log taken, length-append log (taken ∷ []))

answered_called : (stopped stops fails : Bool) (change : Change) (m : DiskInMemory) → m.stopped ≡ stopped → (m.stopping == 1) ≡ stops → Called m (answered stopped stops fails change m).1
answered_called true stops fails change m is at =
    record { fed = λ f. f; stops = refl; to_come = omega arith; nearer = omega arith; logged = omega arith }
answered_called false true fails change m is at =
    let more = pushed m.log (record { change = change; stop = Some m.pick }) in
    let ran : flag m.stopped ≡ 0 = ap flag is in
    record {
      fed = λ f. f;
      stops = omega arith;
      to_come = omega (arith, due_used m.stopping at);
      nearer = due_nearer m.failing;
      logged = omega arith;
    }
answered_called false false true change m is at =
    record { fed = λ f. f; stops = refl; to_come = omega (arith, due_nearer m.stopping); nearer = due_nearer m.failing; logged = omega arith }
answered_called false false false change m is at =
    let more = pushed m.log (record { change = change; stop = None }) in
    record {
      fed = λ f. f;
      stops = omega arith;
      to_come = omega (arith, due_nearer m.stopping);
      nearer = due_nearer m.failing;
      logged = omega arith;
    }

read_called : (stopped : Bool) (m : DiskInMemory) → Called m (if stopped then faulted m else m)
read_called true m = record { fed = λ f. f; stops = refl; to_come = omega arith; nearer = omega arith; logged = omega arith }
read_called false m = record { fed = λ f. f; stops = refl; to_come = omega arith; nearer = omega arith; logged = omega arith }

one_called : (call : Call) (m : DiskInMemory) → Called m (after_one call m)
one_called (Changing change) m = answered_called m.stopped (m.stopping == 1) (m.failing == 1) change m refl refl
one_called Starved m = record {
  fed = λ f. absurd (cc);
  stops = refl;
  to_come = omega (arith, due_nearer m.stopping);
  nearer = due_nearer m.failing;
  logged = omega arith;
}
one_called Reading m = read_called m.stopped m

called_then : (old mid new : DiskInMemory) → Called old mid → Called mid new → Called old new
called_then old mid new a b =
    record { fed = λ f. a.fed (b.fed f); stops = omega arith; to_come = omega arith; nearer = omega arith; logged = omega arith }

after_called : (calls : List Call) (m : DiskInMemory) → Called m (after_calls calls m)
after_called [] m = record { fed = λ f. f; stops = refl; to_come = omega arith; nearer = omega arith; logged = omega arith }
after_called (call ∷ calls) m =
    let next = after_one call m in called_then m next (after_calls calls next) (one_called call m) (after_called calls next)

pub made_called : (old new : DiskInMemory) → IsMadeByCalls (Some old) (Some new) → Called old new
made_called old new (calls, is) = subst (Called old) (sym is) (after_called calls old)
