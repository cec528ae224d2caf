-- That a disk in memory fails only where that was set.
use Rattle.std.specs.Prelude.{◌==◌, ◌-◌, if◌then◌else◌}
use Rattle.std.proofs.Common.{◌≡◌, inl, inr, Bool, true, false, ℕ, ◌+◌, ◌≤◌, List, [], ◌∷◌, refl, sym, ◌∙◌, ap, subst, arith}
use Rattle.std.proofs.lemmas.Bool.{cases_Bool}
use Rattle.std.proofs.lemmas.Bool.Decides.{nat_tests}
use Rattle.crash_disk.specs.declared.change.Change.{Change}
use Rattle.crash_disk.specs.Memory.{DiskInMemory, answered, faulted, Call, Changing, Starved, Reading, after_one, after_calls, due}

-- ---- what stays

answered_starved : (stopped stops fails : Bool) (change : Change) (m : DiskInMemory) → (answered stopped stops fails change m).1.starved ≡ m.starved
answered_starved true stops fails change m = refl
answered_starved false true fails change m = refl
answered_starved false false true change m = refl
answered_starved false false false change m = refl

answered_stopped : (stopped stops fails : Bool) (change : Change) (m : DiskInMemory) → m.stopped ≡ true → stopped ≡ true → (answered stopped stops fails change m).1.stopped ≡ true
answered_stopped true stops fails change m is now = is
answered_stopped false stops fails change m is now = absurd (cc)

reading : (b : Bool) (m : DiskInMemory) → ((if b then faulted m else m).starved ≡ m.starved) × ((if b then faulted m else m).stopped ≡ m.stopped)
reading true m = (refl, refl)
reading false m = (refl, refl)

one_starved : (call : Call) (m : DiskInMemory) → m.starved ≡ true → (after_one call m).starved ≡ true
one_starved (Changing change) m is = answered_starved m.stopped (m.stopping == 1) (m.failing == 1) change m ∙ is
one_starved Starved m is = refl
one_starved Reading m is = (reading m.stopped m).0 ∙ is

one_stopped : (call : Call) (m : DiskInMemory) → m.stopped ≡ true → (after_one call m).stopped ≡ true
one_stopped (Changing change) m is = answered_stopped m.stopped (m.stopping == 1) (m.failing == 1) change m is is
one_stopped Starved m is = is
one_stopped Reading m is = (reading m.stopped m).1 ∙ is

stays_starved : (calls : List Call) (m : DiskInMemory) → m.starved ≡ true → (after_calls calls m).starved ≡ true
stays_starved [] m is = is
stays_starved (call ∷ calls) m is = stays_starved calls (after_one call m) (one_starved call m is)

stays_stopped : (calls : List Call) (m : DiskInMemory) → m.stopped ≡ true → (after_calls calls m).stopped ≡ true
stays_stopped [] m is = is
stays_stopped (call ∷ calls) m is = stays_stopped calls (after_one call m) (one_stopped call m is)

-- what does not hold in the end did not hold before
was : (test : DiskInMemory → Bool) (old new : DiskInMemory) → (test old ≡ true → test new ≡ true) → test new ≡ false → test old ≡ false
was test old new stays clear = elim (cases_Bool (test old)) [
  | inr out ↦ out
  | inl is ↦ absurd (let yes : test new ≡ true = stays is in cc)
]

-- ---- stops

answered_runs : (stops fails : Bool) (change : Change) (m : DiskInMemory) → stops ≡ false → m.stopped ≡ false → m.stopping ≡ 0
    → ((answered false stops fails change m).1.stopped ≡ false) × ((answered false stops fails change m).1.stopping ≡ 0)
answered_runs true fails change m clear runs none = absurd (cc)
answered_runs false true change m clear runs none = (runs, omega (arith, none))
answered_runs false false change m clear runs none = (runs, omega (arith, none))

one_runs : (call : Call) (m : DiskInMemory) → m.stopped ≡ false → m.stopping ≡ 0 → ((after_one call m).stopped ≡ false) × ((after_one call m).stopping ≡ 0)
one_runs (Changing change) m runs none =
    let clear : (m.stopping == 1) ≡ false = ap (λ (n : ℕ). n == 1) none in
    subst (λ (b : Bool). ((answered b (m.stopping == 1) (m.failing == 1) change m).1.stopped ≡ false) × ((answered b (m.stopping == 1) (m.failing == 1) change m).1.stopping ≡ 0)) (sym runs)
    (answered_runs (m.stopping == 1) (m.failing == 1) change m clear runs none)
one_runs Starved m runs none = (runs, omega (arith, none))
one_runs Reading m runs none = subst (λ (b : Bool). ((if b then faulted m else m).stopped ≡ false) × ((if b then faulted m else m).stopping ≡ 0)) (sym runs) (runs, none)

pub runs_on : (calls : List Call) (m : DiskInMemory) → m.stopped ≡ false → m.stopping ≡ 0 → (after_calls calls m).stopped ≡ false
runs_on [] m runs none = runs
runs_on (call ∷ calls) m runs none = let next = one_runs call m runs none in runs_on calls (after_one call m) next.0 next.1

-- ---- failures

due_used : (n : ℕ) → (n == 1) ≡ true → due (n - 1) + 1 ≤ due n
due_used n is = grind (arith, nat_tests)

due_nearer : (n : ℕ) → due (n - 1) ≤ due n
due_nearer n = grind (arith, nat_tests)

answered_faults : (stopped stops fails : Bool) (change : Change) (m : DiskInMemory) → stopped ≡ m.stopped → fails ≡ (m.failing == 1) → (answered stopped stops fails change m).1.stopped ≡ false
    → (answered stopped stops fails change m).1.faults + due (answered stopped stops fails change m).1.failing ≤ m.faults + due m.failing
answered_faults true stops fails change m at fail clear = absurd (cc)
answered_faults false true fails change m at fail clear = absurd (cc)
answered_faults false false true change m at fail clear = let used = due_used m.failing (sym fail) in omega arith
answered_faults false false false change m at fail clear = let nearer = due_nearer m.failing in omega arith

read_faults : (b : Bool) (m : DiskInMemory) → b ≡ false → (if b then faulted m else m).faults + due (if b then faulted m else m).failing ≤ m.faults + due m.failing
read_faults true m clear = absurd (cc)
read_faults false m clear = omega arith

one_fault : (call : Call) (m : DiskInMemory) → (after_one call m).starved ≡ false → (after_one call m).stopped ≡ false → (after_one call m).faults + due (after_one call m).failing ≤ m.faults + due m.failing
one_fault (Changing change) m fed runs = answered_faults m.stopped (m.stopping == 1) (m.failing == 1) change m refl refl runs
one_fault Starved m fed runs = absurd (cc)
one_fault Reading m fed runs = read_faults m.stopped m (sym (reading m.stopped m).1 ∙ runs)

pub no_more_faults : (calls : List Call) (m : DiskInMemory) → (after_calls calls m).starved ≡ false → (after_calls calls m).stopped ≡ false
    → (after_calls calls m).faults + due (after_calls calls m).failing ≤ m.faults + due m.failing
no_more_faults [] m fed runs = omega arith
no_more_faults (call ∷ calls) m fed runs =
    let next = after_one call m in
    let fed_then = was (λ d. d.starved) next (after_calls calls next) (stays_starved calls next) fed in
    let runs_then = was (λ d. d.stopped) next (after_calls calls next) (stays_stopped calls next) runs in
    omega (arith, one_fault call m fed_then runs_then, no_more_faults calls next fed runs)
