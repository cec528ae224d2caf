use Rattle.std.specs.Prelude.{IfSome, Option}
use Rattle.std.proofs.Common.{List, ℕ, [], ◌∷◌, subst, sym}
use Rattle.crash_disk.specs.declared.change.Change.TheVariants.{Write, Sync}
use Rattle.crash_disk.specs.Disk.{DiskState, reads_of}
use Rattle.crash_disk.proofs.Following as calls
use Rattle.gate_journal.specs.Calls.{closing}
use Rattle.gate_journal.specs.Format.{Committed}
use Rattle.gate_journal.specs.Making.{IsBeforeOrBlank, IsClosed, IsHolding}
use Rattle.gate_journal.proofs.Lifting.{done, on_ok}
use Rattle.gate_journal.proofs.Running.{Run, begins, looks, tries, does}
use Rattle.gate_journal.proofs.Holding.{holding_now}
use Rattle.gate_journal.proofs.Closing.{IsOpen, IsClosing, closing_images, closing_is, closing_closed, closed_open, read_open, read_closed}
use Rattle.gate_journal.proofs.remaking.close.Goals as goal
use Rattle.gate_journal.proofs.remaking.close.Goals.{After-read_at, After-write_at, In_ok-write_at}
use Rattle.gate_journal.proofs.remaking.close.Given.{Over}

-- a run of the calls from the start on
abbrev Runs : (g : Over) → After-read_at g → Option Committed → List ℕ → g.row.D.Denot → (DiskState → Type 0) → Type 0
Runs g c before other now S = Run g.D.Disk.shows (IsBeforeOrBlank c.args.file before other) c.args.disk.now now S

looked : (g : Over) (c : After-read_at g) (before : Option Committed) (other : List ℕ) → IfSome (g.D.Disk.shows c.args.disk.now).told (IsHolding c.args.file before other) → Runs g c before other c.read_at.new.self (IsHolding c.args.file before other)
looked g c before other holding =
    looks c.read_at.new.self (begins g.D.Disk.shows (IsBeforeOrBlank c.args.file before other) c.args.disk.now (IsHolding c.args.file before other) (g.met.D.Disk.only_now c.args.disk.now) holding
    (holding_now c.args.file before other)) c.read_at.ensures.time c.read_at.ensures.same (holding_now c.args.file before other)

pub returns-in_err-read_at-clause-moments : goal.returns-in_err-read_at-clause-moments
returns-in_err-read_at-clause-moments g c before other holding = (looked g (goal.at.returns-in_err-read_at-clause-moments g c).After-read_at before other holding).moments

pub returns-then-first-ne-COMMITTED-clause-moments : goal.returns-then-first-ne-COMMITTED-clause-moments
returns-then-first-ne-COMMITTED-clause-moments g c before other holding = (looked g (goal.at.returns-then-first-ne-COMMITTED-clause-moments g c).After-read_at before other holding).moments

pub returns-then-first-ne-COMMITTED-clause-ok : goal.returns-then-first-ne-COMMITTED-clause-ok
returns-then-first-ne-COMMITTED-clause-ok g c before other holding =
    subst (λ (o : Option DiskState). IfSome o (IsClosed c.args.file other)) (sym c.read_at.ensures.same)
    (read_closed c.args.file before other c.in_ok-read_at.field-0 c.read_at.new.into (0 ∷ []) (g.D.Disk.shows c.args.disk.now).told holding c.requires c.in_ok-read_at.ensures.bytes c.if-first-ne-COMMITTED.true)

-- where the file has a commit
opened : (g : Over) (c : After-write_at g) (before : Option Committed) (other : List ℕ) → Run g.D.Disk.shows (IsBeforeOrBlank c.args.file before other) c.args.disk.now c.read_at.new.self (IsHolding c.args.file before other)
    → IfSome (g.D.Disk.shows c.args.disk.now).told (IsHolding c.args.file before other)
    → Run g.D.Disk.shows (IsBeforeOrBlank c.args.file before other) c.args.disk.now c.read_at.new.self (IsOpen c.args.file before other)
opened g c before other run holding = record {
  moments = run.moments;
  state = subst (λ (o : Option DiskState). IfSome o (IsOpen c.args.file before other)) (sym c.read_at.ensures.same)
      (read_open c.args.file before other c.in_ok-read_at.field-0 c.read_at.new.into (0 ∷ []) (g.D.Disk.shows c.args.disk.now).told holding c.requires c.in_ok-read_at.ensures.bytes c.if-first-ne-COMMITTED.false);
}

written : (g : Over) (c : In_ok-write_at g) (before : Option Committed) (other : List ℕ)
    → Run g.D.Disk.shows (IsBeforeOrBlank c.args.file before other) c.args.disk.now c.read_at.new.self (IsOpen c.args.file before other)
    → Run g.D.Disk.shows (IsBeforeOrBlank c.args.file before other) c.args.disk.now c.write_at.new.self (IsClosing c.args.file before other)
written g c before other run =
    does c.write_at.new.self run (IsClosing c.args.file before other) (Write c.args.file 0 (0 ∷ [])) c.write_at.ensures.time c.in_ok-write_at.ensures.changes (g.met.D.Disk.reads_an_image c.read_at.new.self)
    (λ d reads is. closing_images c.args.file before other d is) (λ d reads is. closing_is c.args.file before other d is)

pub returns-in_err-write_at-clause-moments : goal.returns-in_err-write_at-clause-moments
returns-in_err-write_at-clause-moments g c before other holding =
    let at = goal.at.returns-in_err-write_at-clause-moments g c in
    let run = opened g at.After-write_at before other (looked g at.After-read_at before other holding) holding in
    tries c.write_at.new.self run (Write c.args.file 0 (0 ∷ [])) c.write_at.result c.write_at.ensures.time c.write_at.ensures.changes (g.met.D.Disk.reads_an_image c.read_at.new.self) (λ d reads is. closing_images c.args.file before other d is)

pub returns-clause-moments : goal.returns-clause-moments
returns-clause-moments g c before other holding =
    let at = goal.at.returns-clause-moments g c in
    let run = written g at.In_ok-write_at before other (opened g at.After-write_at before other (looked g at.After-read_at before other holding) holding) in
    tries c.sync.new.self run (Sync c.args.file) c.sync.result c.sync.ensures.time c.sync.ensures.changes (g.met.D.Disk.reads_an_image c.write_at.new.self) (λ d reads is. is.changing.each)

pub returns-clause-ok : goal.returns-clause-ok
returns-clause-ok g c = on_ok c.sync.result _ (λ x is before other holding.
    let at = goal.at.returns-clause-ok g c in
    let run = written g at.In_ok-write_at before other (opened g at.After-write_at before other (looked g at.After-read_at before other holding) holding) in
    done (Sync c.args.file) (g.D.Disk.shows c.write_at.new.self).told (g.D.Disk.shows c.sync.new.self).told (IsClosing c.args.file before other) (IsClosed c.args.file other) (rw is at c.sync.ensures.changes)
    (g.met.D.Disk.reads_an_image c.write_at.new.self) run.state (λ d reads is. closing_closed c.args.file before other d is))

-- THE CHANGING CALLS

made_none : (g : Over) (c : After-read_at g) → calls.Made g.D.Disk.shows (λ _. []) c.args.disk.now c.read_at.new.self
made_none g c =
    let d0 = c.args.disk.now in
    calls.looks (λ _. []) d0 d0 c.read_at.new.self (calls.begins d0 (g.met.D.Disk.only_now d0)) (g.met.D.Disk.only_now d0) c.read_at.ensures.same c.read_at.ensures.time

pub returns-in_err-write_at-clause-calls : goal.returns-in_err-write_at-clause-calls
returns-in_err-write_at-clause-calls g c =
    let none = made_none g (goal.at.returns-in_err-write_at-clause-calls g c).After-read_at in
    let d0 = c.args.disk.now in
    let d1 = c.read_at.new.self in
    let file = c.args.file in
    let failed = calls.fails _ c.in_err-write_at.field-0.0 c.from_residual-in_err-write_at.result (Write file 0 (0 ∷ [])) (λ _. []) (λ _. Sync file ∷ []) d0 d1 c.write_at.new.self
    c.from_residual-in_err-write_at.ensures.1 none (g.met.D.Disk.only_now d1) (g.met.D.Disk.reads_an_image d1) c.in_err-write_at.ensures.changes c.write_at.ensures.time in
    calls.follows_same c.from_residual-in_err-write_at.result (λ _. Write file 0 (0 ∷ []) ∷ Sync file ∷ []) (λ d. closing file (reads_of d file)) d0 c.write_at.new.self
    (closed_open file c.in_ok-read_at.field-0 c.read_at.new.into (0 ∷ []) (g.D.Disk.shows d0).told c.requires c.in_ok-read_at.ensures.bytes c.if-first-ne-COMMITTED.false) failed

pub returns-clause-calls : goal.returns-clause-calls
returns-clause-calls g c =
    let none = made_none g (goal.at.returns-clause-calls g c).After-read_at in
    let d0 = c.args.disk.now in
    let d1 = c.read_at.new.self in
    let d2 = c.write_at.new.self in
    let file = c.args.file in
    let one = calls.does (Write file 0 (0 ∷ [])) (λ _. []) d0 d1 d2 none (g.met.D.Disk.only_now d1) (g.met.D.Disk.reads_an_image d1)
    c.in_ok-write_at.ensures.changes c.write_at.ensures.time in
    let two = calls.tries (Sync file) c.sync.result (λ _. Write file 0 (0 ∷ []) ∷ []) d0 d2 c.sync.new.self one (g.met.D.Disk.only_now d2) (g.met.D.Disk.reads_an_image d2)
    c.sync.ensures.changes c.sync.ensures.time in
    calls.follows_same c.sync.result (λ _. Write file 0 (0 ∷ []) ∷ Sync file ∷ []) (λ d. closing file (reads_of d file)) d0 c.sync.new.self
    (closed_open file c.in_ok-read_at.field-0 c.read_at.new.into (0 ∷ []) (g.D.Disk.shows d0).told c.requires c.in_ok-read_at.ensures.bytes c.if-first-ne-COMMITTED.false) two
