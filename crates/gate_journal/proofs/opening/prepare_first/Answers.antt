use Rattle.std.specs.Prelude.{IfSome, Option, None}
use Rattle.std.proofs.Common.{◌≡◌, ℕ, ◌<◌, ◌≤◌, List, [], ◌∷◌, length, refl, subst, sym}
use Rattle.crash_disk.specs.declared.file_no.FileNo.TheVariants.{Zero, One}
use Rattle.crash_disk.specs.Disk.{DiskState, overwritten, reads_of}
use Rattle.crash_disk.proofs.Following as calls
use Rattle.gate_journal.specs.Making.{IsBlankBeside, IsClosed, IsFilling, IsHolding, IsShort, IsWritten, Changing, read_of, first_journal}
use Rattle.gate_journal.proofs.Lifting.{weaken, on_ok}
use Rattle.gate_journal.proofs.Running.{Run, begins, looks, joins}
use Rattle.gate_journal.proofs.Holding.{holding_none, holding_now, holding_short, none_blank, none_closed}
use Rattle.gate_journal.proofs.First.{first_over, first_made}
use Rattle.crash_disk.specs.declared.change.Change.{Change}
use Rattle.gate_journal.specs.Calls.{putting_header, beginning, preparing_first}
use Rattle.gate_journal.proofs.Planned.{first_short, first_long}
use Rattle.gate_journal.proofs.opening.prepare_first.Goals as goal
use Rattle.gate_journal.proofs.opening.prepare_first.Goals.{After-length}
use Rattle.gate_journal.proofs.opening.prepare_first.Given.{Over}

-- once the length was asked for
looked : (g : Over) (c : After-length g)
    → Run g.D.Disk.shows (IsBlankBeside Zero (read_of (g.D.Disk.shows c.args.disk.now).told One)) c.args.disk.now c.length.new.self (IsHolding Zero None (read_of (g.D.Disk.shows c.args.disk.now).told One))
looked g c =
    let told = (g.D.Disk.shows c.args.disk.now).told in
    let other = read_of told One in
    looks c.length.new.self (begins g.D.Disk.shows (IsBlankBeside Zero other) c.args.disk.now (IsHolding Zero None other) (g.met.D.Disk.only_now c.args.disk.now) (holding_none told Zero c.requires.quiet c.requires.none)
    (λ d is image may. none_blank Zero other image (holding_now Zero None other d is image may))) c.length.ensures.time c.length.ensures.same (λ d is image may. none_blank Zero other image (holding_now Zero None other d is image may))

pub returns-in_err-length-clause-moments : goal.returns-in_err-length-clause-moments
returns-in_err-length-clause-moments g c = (looked g (goal.at.returns-in_err-length-clause-moments g c).After-length).moments

abbrev other : (g : Over) → After-length g → List ℕ
other g c = read_of (g.D.Disk.shows c.args.disk.now).told One

module _ (g : Over) (c : After-length g) (n : ℕ) (sized : IfSome (g.D.Disk.shows c.args.disk.now).told (λ d. n ≡ length (reads_of d Zero))) where
  still_sized : IfSome (g.D.Disk.shows c.length.new.self).told (λ d. n ≡ length (reads_of d Zero))
  still_sized = subst (λ (o : Option DiskState). IfSome o (λ d. n ≡ length (reads_of d Zero))) (sym c.length.ensures.same) sized

  short : n < 72 → IfSome (g.D.Disk.shows c.length.new.self).told (IsShort Zero (other g c))
  short le = holding_short Zero None (other g c) (g.D.Disk.shows c.length.new.self).told n still_sized le (looked g c).state

  closed : 72 ≤ n → IfSome (g.D.Disk.shows c.length.new.self).told (IsClosed Zero (other g c))
  closed le = none_closed Zero (other g c) (g.D.Disk.shows c.length.new.self).told n still_sized le (looked g c).state

pub put_head-requires-clause-short : goal.put_head-requires-clause-short
put_head-requires-clause-short g c =
    let a = (goal.at.put_head-requires-clause-short g c).After-length in
    weaken (g.D.Disk.shows c.length.new.self).told (IsShort Zero (other g a)) _ (short g a c.in_ok-length.field-0 c.in_ok-length.ensures.length c.if-branch-lt-HEAD_LENGTH.true) (λ d is. record { quiet = is.quiet; short = is.short; beside = refl })

pub returns-then-branch-lt-HEAD_LENGTH-clause-moments : goal.returns-then-branch-lt-HEAD_LENGTH-clause-moments
returns-then-branch-lt-HEAD_LENGTH-clause-moments g c =
    let a = (goal.at.returns-then-branch-lt-HEAD_LENGTH-clause-moments g c).After-length in
    joins c.put_head.new.disk (looked g a) _ (c.put_head.ensures.moments _ (short g a c.in_ok-length.field-0 c.in_ok-length.ensures.length c.if-branch-lt-HEAD_LENGTH.true)) (λ i p. p)

pub returns-then-branch-lt-HEAD_LENGTH-clause-ok : goal.returns-then-branch-lt-HEAD_LENGTH-clause-ok
returns-then-branch-lt-HEAD_LENGTH-clause-ok g c =
    let a = (goal.at.returns-then-branch-lt-HEAD_LENGTH-clause-ok g c).After-length in
    let P = Changing (IsBlankBeside Zero (other g a)) Zero (overwritten c.args.head.now 71 (0 ∷ [])) (other g a) in
    on_ok c.put_head.result _ (λ x is. weaken (g.D.Disk.shows c.put_head.new.disk).told P (IsWritten Zero first_journal (other g a))
    ((rw is at c.put_head.ensures.ok) (other g a) (short g a c.in_ok-length.field-0 c.in_ok-length.ensures.length c.if-branch-lt-HEAD_LENGTH.true)) (λ d changing. first_made c.args.head.now (other g a) d c.requires.head changing))

pub returns-else-branch-lt-HEAD_LENGTH-clause-moments : goal.returns-else-branch-lt-HEAD_LENGTH-clause-moments
returns-else-branch-lt-HEAD_LENGTH-clause-moments g c =
    let a = (goal.at.returns-else-branch-lt-HEAD_LENGTH-clause-moments g c).After-length in
    joins c.begin_anew.new.disk (looked g a) _ (c.begin_anew.ensures.moments _ (closed g a c.in_ok-length.field-0 c.in_ok-length.ensures.length c.if-branch-lt-HEAD_LENGTH.false)) (λ i p. p)

pub returns-else-branch-lt-HEAD_LENGTH-clause-ok : goal.returns-else-branch-lt-HEAD_LENGTH-clause-ok
returns-else-branch-lt-HEAD_LENGTH-clause-ok g c =
    let a = (goal.at.returns-else-branch-lt-HEAD_LENGTH-clause-ok g c).After-length in
    on_ok c.begin_anew.result _ (λ x is. weaken (g.D.Disk.shows c.begin_anew.new.disk).told (IsFilling Zero c.args.fields.now [] (other g a)) (IsWritten Zero first_journal (other g a))
    ((rw is at c.begin_anew.ensures.ok) (other g a) (closed g a c.in_ok-length.field-0 c.in_ok-length.ensures.length c.if-branch-lt-HEAD_LENGTH.false)) (λ d filling. first_over c.args.fields.now (other g a) d c.requires.fields filling))

-- THE CHANGING CALLS

-- once the length was asked for, nothing was changed
asked : (g : Over) (c : After-length g) → calls.Made g.D.Disk.shows (λ _. []) c.args.disk.now c.length.new.self
asked g c =
    let d0 = c.args.disk.now in
    calls.looks (λ _. []) d0 d0 c.length.new.self (calls.begins d0 (g.met.D.Disk.only_now d0)) (g.met.D.Disk.only_now d0) c.length.ensures.same c.length.ensures.time

pub returns-then-branch-lt-HEAD_LENGTH-clause-calls : goal.returns-then-branch-lt-HEAD_LENGTH-clause-calls
returns-then-branch-lt-HEAD_LENGTH-clause-calls g c =
    let a = (goal.at.returns-then-branch-lt-HEAD_LENGTH-clause-calls g c).After-length in
    let d0 = c.args.disk.now in
    let plan : DiskState → List Change = λ _. putting_header Zero c.args.head.now in
    calls.follows_same c.put_head.result plan (λ d. preparing_first (reads_of d Zero)) d0 c.put_head.new.disk
    (first_short c.args.head.now c.in_ok-length.field-0 (g.D.Disk.shows d0).told c.in_ok-length.ensures.length c.if-branch-lt-HEAD_LENGTH.true c.requires.head)
    (calls.then_follows c.put_head.result (λ _. []) plan d0 c.length.new.self c.put_head.new.disk (asked g a) c.put_head.ensures.calls)

pub returns-else-branch-lt-HEAD_LENGTH-clause-calls : goal.returns-else-branch-lt-HEAD_LENGTH-clause-calls
returns-else-branch-lt-HEAD_LENGTH-clause-calls g c =
    let a = (goal.at.returns-else-branch-lt-HEAD_LENGTH-clause-calls g c).After-length in
    let d0 = c.args.disk.now in
    let plan : DiskState → List Change = λ _. beginning Zero c.args.fields.now in
    calls.follows_same c.begin_anew.result plan (λ d. preparing_first (reads_of d Zero)) d0 c.begin_anew.new.disk
    (first_long c.args.fields.now c.in_ok-length.field-0 (g.D.Disk.shows d0).told c.in_ok-length.ensures.length c.if-branch-lt-HEAD_LENGTH.false c.requires.fields)
    (calls.then_follows c.begin_anew.result (λ _. []) plan d0 c.length.new.self c.begin_anew.new.disk (asked g a) c.begin_anew.ensures.calls)
