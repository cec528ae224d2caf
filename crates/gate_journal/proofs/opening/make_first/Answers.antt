use Rattle.std.proofs.Common.{inl, List, Ok, Err, Result}
use Rattle.crash_disk.specs.declared.file_no.FileNo.TheVariants.{Zero, One}
use Rattle.crash_disk.specs.Moments.{LeavesOnly}
use Rattle.crash_disk.specs.Steps.{started, then}
use Rattle.crash_disk.proofs.Following as calls
use Rattle.gate_journal.specs.Making.{IsBlankBeside, IsMadeOrBlank, first_journal, read_of}
use Rattle.gate_journal.proofs.Holding.{blank_told}
use Rattle.crash_disk.specs.declared.change.Change.{Change}
use Rattle.crash_disk.specs.Disk.{DiskState, reads_of}
use Rattle.crash_disk.specs.declared.file_no.Failed.{Failed}
use Rattle.gate_journal.specs.Calls.{committing, preparing_first}
use Rattle.gate_journal.proofs.opening.make_first.Goals as goal
use Rattle.gate_journal.proofs.opening.make_first.Goals.{After-commit}
use Rattle.gate_journal.proofs.opening.make_first.Given.{Over}

pub returns-in_err-fields-clause-moments : goal.returns-in_err-fields-clause-moments
returns-in_err-fields-clause-moments g c =
    let told0 = (g.D.Disk.shows c.args.disk.now).told in
    started g.D.Disk.shows c.args.disk.now (IsMadeOrBlank Zero first_journal (read_of told0 One))
    (λ image left. let b = blank_told told0 Zero c.requires.quiet c.requires.none image (g.met.D.Disk.only_now c.args.disk.now image left) in (inl b.0, b.1))

pub returns-in_err-head-clause-moments : goal.returns-in_err-head-clause-moments
returns-in_err-head-clause-moments g c =
    let told0 = (g.D.Disk.shows c.args.disk.now).told in
    started g.D.Disk.shows c.args.disk.now (IsMadeOrBlank Zero first_journal (read_of told0 One))
    (λ image left. let b = blank_told told0 Zero c.requires.quiet c.requires.none image (g.met.D.Disk.only_now c.args.disk.now image left) in (inl b.0, b.1))

-- THE CHANGING CALLS

-- all but the commit
abbrev preparing : DiskState → List Change
preparing d = preparing_first (reads_of d Zero)

pub returns-in_err-prepare_first-clause-calls : goal.returns-in_err-prepare_first-clause-calls
returns-in_err-prepare_first-clause-calls g c =
    calls.breaks_off {T = Unit {0}} _ c.in_err-prepare_first.field-0.0 c.from_residual-in_err-prepare_first.result preparing (λ _. committing Zero)
    c.args.disk.now c.prepare_first.new.disk c.from_residual-in_err-prepare_first.ensures.1 c.in_err-prepare_first.ensures.calls

pub returns-in_err-commit-clause-calls : goal.returns-in_err-commit-clause-calls
returns-in_err-commit-clause-calls g c =
    let d0 = c.args.disk.now in
    let d1 = c.prepare_first.new.disk in
    let failed : Result (Unit {0}) Failed = Err c.in_err-commit.field-0.0 in
    calls.hands_on {T = Unit {0}} _ c.in_err-commit.field-0.0 c.from_residual-in_err-commit.result _ d0 c.commit.new.disk
    c.from_residual-in_err-commit.ensures.1
    (calls.then_follows failed preparing (λ _. committing Zero) d0 d1 c.commit.new.disk
    (calls.made c.in_ok-prepare_first.field-0 preparing d0 d1 c.in_ok-prepare_first.ensures.calls) c.in_err-commit.ensures.calls)

pub returns-clause-calls : goal.returns-clause-calls
returns-clause-calls g c =
    let d0 = c.args.disk.now in
    let d1 = c.prepare_first.new.disk in
    let done : Result (Unit {0}) Failed = Ok c.in_ok-commit.field-0 in
    calls.answers tt _ d0 c.commit.new.disk
    (calls.made c.in_ok-commit.field-0 _ d0 c.commit.new.disk
    (calls.then_follows done preparing (λ _. committing Zero) d0 d1 c.commit.new.disk
    (calls.made c.in_ok-prepare_first.field-0 preparing d0 d1 c.in_ok-prepare_first.ensures.calls) c.in_ok-commit.ensures.calls))

-- all but the commit, and then the commit as far as it went
made_so_far : (g : Over) (c : After-commit g) → LeavesOnly g.D.Disk.shows c.args.disk.now c.commit.new.disk (IsMadeOrBlank Zero first_journal (read_of (g.D.Disk.shows c.args.disk.now).told One))
made_so_far g c =
    let d0 = c.args.disk.now in
    let other = read_of (g.D.Disk.shows d0).told One in
    then g.D.Disk.shows d0 c.prepare_first.new.disk c.commit.new.disk (IsBlankBeside Zero other) (IsMadeOrBlank Zero first_journal other) (IsMadeOrBlank Zero first_journal other)
    c.prepare_first.ensures.moments (c.commit.ensures.moments first_journal other c.in_ok-prepare_first.ensures.ok) (λ image b. (inl b.0, b.1)) (λ image made. made)

pub returns-in_err-commit-clause-moments : goal.returns-in_err-commit-clause-moments
returns-in_err-commit-clause-moments g c = made_so_far g (goal.at.returns-in_err-commit-clause-moments g c).After-commit

pub returns-clause-moments : goal.returns-clause-moments
returns-clause-moments g c = made_so_far g (goal.at.returns-clause-moments g c).After-commit
