use Rattle.std.specs.Prelude.{IfSome, Option, Result, Ok}
use Rattle.std.specs.Option.{option_map}
use Rattle.std.proofs.Common.{◌≡◌, take, sym, ◌∙◌, subst}
use Rattle.std.proofs.lemmas.Result.{err_from_is_err_and}
use Rattle.owned_values.specs.Gives.{Gives}
use Rattle.crash_disk.specs.declared.file_no.FileNo.TheVariants.{Zero, One}
use Rattle.crash_disk.specs.Disk.{DiskState, image_of, reads_of}
use Rattle.crash_disk.specs.Moments.{Leaves, LeavesOnly}
use Rattle.crash_disk.specs.Steps.{then}
use Rattle.gate_journal.specs.Format.{Kept, Fault, file_of, joined, journal}
use Rattle.gate_journal.specs.Opening.{open_fault_of}
use Rattle.gate_journal.proofs.Lifting.{weaken}
use Rattle.gate_journal.proofs.Choosing.{IsRead, held, zero_refused, one_refused, both_are}
use Rattle.gate_journal.proofs.opening.load.Goals as goal
use Rattle.gate_journal.proofs.opening.load.Goals.{After-text_of, After-read_whole-2, After-text_of-2}
use Rattle.gate_journal.proofs.opening.load.Given.{Over}

-- the bytes of file 0, and those of file 1
first_read : (g : Over) (c : After-text_of g) → IfSome (g.D.Disk.shows c.args.disk.now).told (IsRead Zero c.deref.result.now)
first_read g c =
    weaken (g.D.Disk.shows c.args.disk.now).told (λ d. c.in_ok-first.first.items ≡ take 134217729 (reads_of d Zero)) _ c.in_ok-first.ensures.bytes (λ d is. c.deref.ensures.value ∙ is)

second_read : (g : Over) (c : After-text_of-2 g) → IfSome (g.D.Disk.shows c.args.disk.now).told (IsRead One c.deref-2.result.now)
second_read g c =
    weaken (g.D.Disk.shows c.args.disk.now).told (λ d. c.in_ok-second.second.items ≡ take 134217729 (reads_of d One)) _
    (subst (λ (o : Option DiskState). IfSome o (λ d. c.in_ok-second.second.items ≡ take 134217729 (reads_of d One))) c.read_whole.ensures.same c.in_ok-second.ensures.bytes) (λ d is. c.deref-2.ensures.value ∙ is)

pub returns-in_err-zero-clause-gives : goal.returns-in_err-zero-clause-gives
returns-in_err-zero-clause-gives g c =
    let at = goal.at.returns-in_err-zero-clause-gives g c in
    let p = err_from_is_err_and c.from_residual-in_err-zero.result c.from_residual-in_err-zero.ensures.1 in
    rw (p.1, p.2) (zero_refused (g.D.Disk.shows c.args.disk.now).told c.deref.result.now c.in_err-zero.field-0.0 (first_read g at.After-text_of) c.in_err-zero.ensures)

pub returns-in_err-one-clause-gives : goal.returns-in_err-one-clause-gives
returns-in_err-one-clause-gives g c =
    let at = goal.at.returns-in_err-one-clause-gives g c in
    let p = err_from_is_err_and c.from_residual-in_err-one.result c.from_residual-in_err-one.ensures.1 in
    rw (p.1, p.2) (one_refused (g.D.Disk.shows c.args.disk.now).told c.deref.result.now c.deref-2.result.now c.in_ok-zero.zero c.in_err-one.field-0.0
    (first_read g at.After-text_of) (second_read g at.After-text_of-2) c.in_ok-zero.ensures c.in_err-one.ensures)

pub returns-clause-gives : goal.returns-clause-gives
returns-clause-gives g c =
    let at = goal.at.returns-clause-gives g c in
    let first = c.deref.result.now in
    let second = c.deref-2.result.now in
    let both : joined (Ok c.in_ok-zero.zero) (Ok c.in_ok-one.one) ≡ joined (file_of first) (file_of second) =
    λ i. joined (sym (held Zero (file_of first) c.in_ok-zero.zero c.in_ok-zero.ensures) i) (sym (held One (file_of second) c.in_ok-one.one c.in_ok-one.ensures) i) in
    weaken (g.D.Disk.shows c.args.disk.now).told (λ d. joined (file_of first) (file_of second) ≡ journal (image_of d)) _
    (both_are (g.D.Disk.shows c.args.disk.now).told first second (first_read g at.After-text_of) (second_read g at.After-text_of-2))
    (λ d is. subst (λ (r : Result (Option Kept) Fault). Gives (option_map (λ pair. record { file = pair.0; holds = pair.1 })) open_fault_of c.copy_newer.result r) (both ∙ is) c.copy_newer.ensures.gives)

-- two reads
only_read : (g : Over) (c : After-read_whole-2 g) → LeavesOnly g.D.Disk.shows c.args.disk.now c.read_whole-2.new.disk (Leaves (g.D.Disk.shows c.args.disk.now).told)
only_read g c =
    let shows = g.D.Disk.shows in
    let d0 = c.args.disk.now in
    let d1 = c.read_whole.new.disk in
    then shows d0 d1 c.read_whole-2.new.disk (Leaves (shows d0).told) (Leaves (shows d1).told) (Leaves (shows d0).told) c.read_whole.ensures.moments c.read_whole-2.ensures.moments
    (λ image left. left) (λ image left. subst (λ (o : Option DiskState). Leaves o image) c.read_whole.ensures.same left)

pub returns-in_err-second-clause-moments : goal.returns-in_err-second-clause-moments
returns-in_err-second-clause-moments g c = only_read g (goal.at.returns-in_err-second-clause-moments g c).After-read_whole-2

pub returns-in_err-one-clause-moments : goal.returns-in_err-one-clause-moments
returns-in_err-one-clause-moments g c = only_read g (goal.at.returns-in_err-one-clause-moments g c).After-read_whole-2

pub returns-clause-moments : goal.returns-clause-moments
returns-clause-moments g c = only_read g (goal.at.returns-clause-moments g c).After-read_whole-2
