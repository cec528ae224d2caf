-- What becomes of a disk in memory that runs, however often it is stopped and started again.
use Rattle.std.specs.Prelude.{◌≡◌, ℕ, ◌+◌, ◌-◌, ◌≤◌, ◌==◌, Bool, true, false, if◌then◌else◌, length}
use Rattle.std.proofs.Common.{refl, sym, ◌∙◌, ap, arith}
use Rattle.std.proofs.lemmas.Bool.Decides.{nat_tests}
use Rattle.crash_disk.specs.Memory.{DiskInMemory, due}
use Rattle.schedule_replay.specs.Faults.{stops_taken, stops_in, faults_in, faults_if_stopped}
use Rattle.schedule_replay.proofs.Calling.{Called, flag}

-- From the one disk to the other at most so many failures and stops were set, and it runs in the end. It stopped only where that was set,
-- and where it did not, no more of its calls failed than was set.
pub record Goes (failures stops : ℕ) (old new : DiskInMemory) : Type 0 where
  pub runs : new.stopped ≡ false
  pub fed : new.starved ≡ false → old.starved ≡ false
  pub grows : stops_taken old ≤ stops_taken new
  pub to_come : stops_in new ≤ stops_in old + stops
  pub nearer : due new.failing ≤ due old.failing + failures
  pub fails : new.starved ≡ false → stops_taken new ≤ stops_taken old → faults_in new ≤ faults_in old + failures

pub goes_nowhere : (m : DiskInMemory) → m.stopped ≡ false → Goes 0 0 m m
goes_nowhere m runs = record {
  runs = runs;
  fed = λ f. f;
  grows = omega arith;
  to_come = omega arith;
  nearer = omega arith;
  fails = λ f calm. omega arith;
}

pub goes_then : (f s g t : ℕ) (old mid new : DiskInMemory) → Goes f s old mid → Goes g t mid new → Goes (f + g) (s + t) old new
goes_then f s g t old mid new a b = record {
  runs = b.runs;
  fed = λ fed. a.fed (b.fed fed);
  grows = omega arith;
  to_come = omega arith;
  nearer = omega arith;
  fails = λ fed calm.
      let first = a.fails (b.fed fed) (omega arith) in
      let second = b.fails fed (omega arith) in
      omega arith;
}

-- the faults of a step
faults_by : (stops : Bool) (f : ℕ) (old new : DiskInMemory) → (stops_taken new == stops_taken old) ≡ stops
    → due new.failing ≤ due old.failing + f → (stops_taken new ≤ stops_taken old → faults_in new ≤ faults_in old + f)
    → faults_in new ≤ faults_in old + f + (if stops then 0 else new.faults - old.faults)
faults_by true f old new is nearer fails = let all = fails (grind (arith, nat_tests)) in omega arith
faults_by false f old new is nearer fails = omega arith

pub goes_faults : (f s : ℕ) (old new : DiskInMemory) → Goes f s old new → new.starved ≡ false
    → faults_in new ≤ faults_in old + f + faults_if_stopped old new
goes_faults f s old new goes fed = faults_by (stops_taken new == stops_taken old) f old new refl goes.nearer (goes.fails fed)

-- ---- what a step sets

due_one : (n : ℕ) → due n ≤ 1
due_one n = grind arith

pub goes_failing : (call : ℕ) (m : DiskInMemory) → m.stopped ≡ false → Goes 1 0 m (record m { failing = call })
goes_failing call m runs = record {
  runs = runs;
  fed = λ f. f;
  grows = omega arith;
  to_come = omega arith;
  nearer = omega (arith, due_one call);
  fails = λ f calm. omega (arith, due_one call);
}

pub goes_stopping : (call pick : ℕ) (m : DiskInMemory) → m.stopped ≡ false → Goes 0 1 m (record m { stopping = call; pick = pick })
goes_stopping call pick m runs = record {
  runs = runs;
  fed = λ f. f;
  grows = omega arith;
  to_come = omega (arith, due_one call);
  nearer = omega arith;
  fails = λ f calm. omega arith;
}

-- ---- what an event does

flag_none : (b : Bool) → flag b ≤ 0 → b ≡ false
flag_none true none = absurd (omega arith)
flag_none false none = refl

-- It stopped so many times in an event.
pub record Went (stops : ℕ) (old new : DiskInMemory) : Type 0 where
  pub goes : Goes 0 0 old new
  pub taken : stops_taken new ≡ stops_taken old + stops

-- calls in which it did not stop
pub went_on : (old new : DiskInMemory) → old.stopped ≡ false → new.stopped ≡ false → Called old new
    → (new.starved ≡ false → faults_in new ≤ faults_in old) → Went 0 old new
went_on old new ran runs called fails =
    let before : flag old.stopped ≡ 0 = ap flag ran in
    let behind : flag new.stopped ≡ 0 = ap flag runs in
    record {
      goes = record {
        runs = runs;
        fed = called.fed;
        grows = omega (arith, called.stops);
        to_come = omega (arith, called.to_come);
        nearer = omega (arith, called.nearer);
        fails = λ fed calm. let is = fails fed in omega arith;
      };
      taken = omega (arith, called.stops);
    }

-- Calls in which it stopped, and calls of the disk that was started again: in these it can't stop once more.
pub went_again : (old behind again new : DiskInMemory) → old.stopped ≡ false → behind.stopped ≡ true → again ≡ record behind { stopped = false }
    → Called old behind → Called again new → Went 1 old new
went_again old behind again new ran stopped is called later =
    let before : flag old.stopped ≡ 0 = ap flag ran in
    let there : flag behind.stopped ≡ 1 = ap flag stopped in
    let once = due_one old.stopping in
    let restarted : flag again.stopped ≡ 0 = ap (λ (m : DiskInMemory). flag m.stopped) is in
    let same : stops_taken again ≡ stops_taken behind = ap stops_taken is in
    let set : due again.stopping ≡ due behind.stopping = ap (λ (m : DiskInMemory). due m.stopping) is in
    let near : due again.failing ≡ due behind.failing = ap (λ (m : DiskInMemory). due m.failing) is in
    let one : stops_taken behind ≡ stops_taken old + 1 = omega arith in
    let none : due again.stopping ≡ 0 = omega arith in
    let runs : flag new.stopped ≤ 0 = omega arith in
    record {
      goes = record {
        runs = flag_none new.stopped runs;
        fed = λ fed. called.fed (sym (ap (λ (m : DiskInMemory). m.starved) is) ∙ later.fed fed);
        grows = omega arith;
        to_come = omega arith;
        nearer = omega arith;
        fails = λ fed calm. absurd (omega arith);
      };
      taken = omega arith;
    }

-- as many calls in the log as before: it did not stop
pub still_runs : (old new : DiskInMemory) → old.stopped ≡ false → Called old new → length new.log ≡ length old.log → new.stopped ≡ false
still_runs old new ran called as_long =
    let before : flag old.stopped ≡ 0 = ap flag ran in
    let none : flag new.stopped ≤ 0 = omega (arith, called.stops, called.logged) in
    flag_none new.stopped none
