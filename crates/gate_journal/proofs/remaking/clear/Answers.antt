use Rattle.std.specs.Prelude.{IfSome, Option}
use Rattle.std.proofs.Common.{◌≡◌, ℕ, ◌<◌, List, [], ◌∷◌, length, subst, sym, ◌++◌}
use Rattle.crash_disk.specs.declared.change.Change.TheVariants.{Sync}
use Rattle.crash_disk.specs.Disk.{DiskState, overwritten, reads_of}
use Rattle.crash_disk.proofs.Following as calls
use Rattle.gate_journal.specs.Format.{Committed}
use Rattle.gate_journal.specs.Making.{IsBeforeOrBlank, IsBlankBeside, IsClosed, IsHolding, IsShort, Changing}
use Rattle.gate_journal.proofs.Lifting.{done, on_ok}
use Rattle.gate_journal.proofs.Running.{Run, begins, looks, tries, joins}
use Rattle.gate_journal.proofs.Holding.{holding_now, holding_short, blank_before}
use Rattle.gate_journal.proofs.Heads.{head_synced}
use Rattle.crash_disk.specs.declared.change.Change.{Change}
use Rattle.gate_journal.specs.Calls.{closing, putting_header, clearing}
use Rattle.gate_journal.proofs.Planned.{cleared_short, cleared_long}
use Rattle.gate_journal.proofs.remaking.clear.Goals as goal
use Rattle.gate_journal.proofs.remaking.clear.Goals.{After-length, In_ok-put_head}
use Rattle.gate_journal.proofs.remaking.clear.Given.{Over}

module _ (g : Over) (c : After-length g) (before : Option Committed) (other : List ℕ) (holding : IfSome (g.D.Disk.shows c.args.disk.now).told (IsHolding c.args.file before other)) where
  -- once the length was asked for
  looked : Run g.D.Disk.shows (IsBeforeOrBlank c.args.file before other) c.args.disk.now c.length.new.self (IsHolding c.args.file before other)
  looked =
      looks c.length.new.self (begins g.D.Disk.shows (IsBeforeOrBlank c.args.file before other) c.args.disk.now (IsHolding c.args.file before other) (g.met.D.Disk.only_now c.args.disk.now) holding
      (holding_now c.args.file before other)) c.length.ensures.time c.length.ensures.same (holding_now c.args.file before other)

  short : (n : ℕ) → IfSome (g.D.Disk.shows c.args.disk.now).told (λ d. n ≡ length (reads_of d c.args.file)) → n < 72 → IfSome (g.D.Disk.shows c.length.new.self).told (IsShort c.args.file other)
  short n sized le = holding_short c.args.file before other (g.D.Disk.shows c.length.new.self).told n (subst (λ (o : Option DiskState). IfSome o (λ d. n ≡ length (reads_of d c.args.file))) (sym c.length.ensures.same) sized) le looked.state

pub returns-in_err-length-clause-moments : goal.returns-in_err-length-clause-moments
returns-in_err-length-clause-moments g c before other holding = (looked g (goal.at.returns-in_err-length-clause-moments g c).After-length before other holding).moments

pub returns-then-branch-ge-HEAD_LENGTH-clause-moments : goal.returns-then-branch-ge-HEAD_LENGTH-clause-moments
returns-then-branch-ge-HEAD_LENGTH-clause-moments g c before other holding =
    let run = looked g (goal.at.returns-then-branch-ge-HEAD_LENGTH-clause-moments g c).After-length before other holding in
    joins c.close.new.disk run _ (c.close.ensures.moments before other run.state) (λ i p. p)

-- where a header was put to a shorter file
put : (g : Over) (c : In_ok-put_head g) (before : Option Committed) (other : List ℕ) → Run g.D.Disk.shows (IsBeforeOrBlank c.args.file before other) c.args.disk.now c.length.new.self (IsHolding c.args.file before other)
    → IfSome (g.D.Disk.shows c.length.new.self).told (IsShort c.args.file other)
    → Run g.D.Disk.shows (IsBeforeOrBlank c.args.file before other) c.args.disk.now c.put_head.new.disk (Changing (IsBlankBeside c.args.file other) c.args.file (overwritten c.args.head.now 71 (0 ∷ [])) other)
put g c before other run short = record {
  moments = joins c.put_head.new.disk run (IsBlankBeside c.args.file other) (c.put_head.ensures.moments other short) (blank_before c.args.file before other);
  state = c.in_ok-put_head.ensures.ok other short;
}

pub returns-in_err-put_head-clause-moments : goal.returns-in_err-put_head-clause-moments
returns-in_err-put_head-clause-moments g c before other holding =
    let a = (goal.at.returns-in_err-put_head-clause-moments g c).After-length in
    joins c.put_head.new.disk (looked g a before other holding) (IsBlankBeside c.args.file other)
    (c.put_head.ensures.moments other (short g a before other holding c.in_ok-length.field-0 c.in_ok-length.ensures.length c.if-branch-ge-HEAD_LENGTH.false)) (blank_before c.args.file before other)

pub returns-clause-moments : goal.returns-clause-moments
returns-clause-moments g c before other holding =
    let at = goal.at.returns-clause-moments g c in
    let run = put g at.In_ok-put_head before other (looked g at.After-length before other holding) (short g at.After-length before other holding c.in_ok-length.field-0 c.in_ok-length.ensures.length c.if-branch-ge-HEAD_LENGTH.false) in
    tries c.sync.new.self run (Sync c.args.file) c.sync.result c.sync.ensures.time c.sync.ensures.changes (g.met.D.Disk.reads_an_image c.put_head.new.disk) (λ d reads is image may. blank_before c.args.file before other image (is.each image may))

pub returns-clause-ok : goal.returns-clause-ok
returns-clause-ok g c = on_ok c.sync.result _ (λ x is before other holding.
    let at = goal.at.returns-clause-ok g c in
    let run = put g at.In_ok-put_head before other (looked g at.After-length before other holding) (short g at.After-length before other holding c.in_ok-length.field-0 c.in_ok-length.ensures.length c.if-branch-ge-HEAD_LENGTH.false) in
    done (Sync c.args.file) (g.D.Disk.shows c.put_head.new.disk).told (g.D.Disk.shows c.sync.new.self).told (Changing (IsBlankBeside c.args.file other) c.args.file (overwritten c.args.head.now 71 (0 ∷ [])) other) (IsClosed c.args.file other)
    (rw is at c.sync.ensures.changes) (g.met.D.Disk.reads_an_image c.put_head.new.disk) run.state (λ d reads is. head_synced c.args.file other c.args.head.now c.requires.head d is))

-- THE CHANGING CALLS

-- once the length was asked for, nothing was changed
asked : (g : Over) (c : After-length g) → calls.Made g.D.Disk.shows (λ _. []) c.args.disk.now c.length.new.self
asked g c =
    let d0 = c.args.disk.now in
    calls.looks (λ _. []) d0 d0 c.length.new.self (calls.begins d0 (g.met.D.Disk.only_now d0)) (g.met.D.Disk.only_now d0) c.length.ensures.same c.length.ensures.time

pub returns-in_err-put_head-clause-calls : goal.returns-in_err-put_head-clause-calls
returns-in_err-put_head-clause-calls g c =
    let a = (goal.at.returns-in_err-put_head-clause-calls g c).After-length in
    let d0 = c.args.disk.now in
    let file = c.args.file in
    let other = c.from_residual-in_err-put_head.result in
    let plan : DiskState → List Change = λ _. putting_header file c.args.head.now in
    calls.follows_same other (λ _. putting_header file c.args.head.now ++ Sync file ∷ []) (λ d. clearing file c.args.head.now (reads_of d file)) d0 c.put_head.new.disk
    (cleared_short file c.args.head.now c.in_ok-length.field-0 (g.D.Disk.shows d0).told c.in_ok-length.ensures.length c.if-branch-ge-HEAD_LENGTH.false)
    (calls.then_follows other (λ _. []) (λ _. putting_header file c.args.head.now ++ Sync file ∷ []) d0 c.length.new.self c.put_head.new.disk (asked g a)
    (calls.breaks_off {T = Unit {0}} _ c.in_err-put_head.field-0.0 other plan (λ _. Sync file ∷ []) c.length.new.self c.put_head.new.disk
    c.from_residual-in_err-put_head.ensures.1 c.in_err-put_head.ensures.calls))

pub returns-clause-calls : goal.returns-clause-calls
returns-clause-calls g c =
    let a = (goal.at.returns-clause-calls g c).After-length in
    let d0 = c.args.disk.now in
    let d1 = c.length.new.self in
    let d2 = c.put_head.new.disk in
    let file = c.args.file in
    let plan : DiskState → List Change = λ _. putting_header file c.args.head.now in
    let put = calls.then_follows _ (λ _. []) plan d0 d1 d2 (asked g a) (calls.made c.in_ok-put_head.field-0 plan d1 d2 c.in_ok-put_head.ensures.calls) in
    calls.follows_same c.sync.result (λ _. putting_header file c.args.head.now ++ Sync file ∷ []) (λ d. clearing file c.args.head.now (reads_of d file)) d0 c.sync.new.self
    (cleared_short file c.args.head.now c.in_ok-length.field-0 (g.D.Disk.shows d0).told c.in_ok-length.ensures.length c.if-branch-ge-HEAD_LENGTH.false)
    (calls.tries (Sync file) c.sync.result plan d0 d2 c.sync.new.self put (g.met.D.Disk.only_now d2) (g.met.D.Disk.reads_an_image d2) c.sync.ensures.changes c.sync.ensures.time)

pub returns-then-branch-ge-HEAD_LENGTH-clause-calls : goal.returns-then-branch-ge-HEAD_LENGTH-clause-calls
returns-then-branch-ge-HEAD_LENGTH-clause-calls g c =
    let a = (goal.at.returns-then-branch-ge-HEAD_LENGTH-clause-calls g c).After-length in
    let d0 = c.args.disk.now in
    let file = c.args.file in
    calls.follows_same c.close.result (λ d. closing file (reads_of d file)) (λ d. clearing file c.args.head.now (reads_of d file)) d0 c.close.new.disk
    (cleared_long file c.args.head.now c.in_ok-length.field-0 (g.D.Disk.shows d0).told c.in_ok-length.ensures.length c.if-branch-ge-HEAD_LENGTH.true)
    (calls.then_follows c.close.result (λ _. []) (λ d. closing file (reads_of d file)) d0 c.length.new.self c.close.new.disk (asked g a) c.close.ensures.calls)
