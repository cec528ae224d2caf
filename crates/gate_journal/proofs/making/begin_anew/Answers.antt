use Rattle.std.specs.Prelude.{IfSome}
use Rattle.std.proofs.Common.{List, ℕ, [], ◌∷◌}
use Rattle.crash_disk.specs.declared.file_no.FileNo.{FileNo}
use Rattle.crash_disk.specs.declared.change.Change.TheVariants.{Write, Cut, Sync}
use Rattle.crash_disk.specs.Disk.{DiskState}
use Rattle.crash_disk.proofs.Following as calls
use Rattle.gate_journal.specs.Making.{IsBlankBeside, IsClosed, IsFilling}
use Rattle.gate_journal.proofs.Lifting.{done, on_ok}
use Rattle.gate_journal.proofs.Running.{Run, begins, tries, does}
use Rattle.gate_journal.proofs.Anew.{IsCut, IsSynced, anew_now, anew_cut, anew_is_cut, anew_synced, anew_write, anew_end}
use Rattle.gate_journal.proofs.making.begin_anew.Goals as goal
use Rattle.gate_journal.proofs.making.begin_anew.Goals.{In_ok-cut, In_ok-sync}
use Rattle.gate_journal.proofs.making.begin_anew.Given.{Over}

module _ (g : Over) (file : FileNo) (other : List ℕ) where
  -- a run of the calls from the start on
  abbrev Runs : (old now : g.row.D.Denot) → (DiskState → Type 0) → Type 0
  Runs = Run g.D.Disk.shows (IsBlankBeside file other)

  at_start : (disk : g.row.D.Denot) → IfSome (g.D.Disk.shows disk).told (IsClosed file other) → Runs disk disk (IsClosed file other)
  at_start disk closed = begins g.D.Disk.shows (IsBlankBeside file other) disk (IsClosed file other) (g.met.D.Disk.only_now disk) closed (anew_now file other)

was_cut : (g : Over) (c : In_ok-cut g) (other : List ℕ) → IfSome (g.D.Disk.shows c.args.disk.now).told (IsClosed c.args.file other) → Runs g c.args.file other c.args.disk.now c.cut.new.self (IsCut c.args.file other)
was_cut g c other closed =
    does c.cut.new.self (at_start g c.args.file other c.args.disk.now closed) (IsCut c.args.file other) (Cut c.args.file 72) c.cut.ensures.time c.in_ok-cut.ensures.changes (g.met.D.Disk.reads_an_image c.args.disk.now)
    (λ d reads is. anew_cut c.args.file other d is) (λ d reads is. anew_is_cut c.args.file other d is)

was_synced : (g : Over) (c : In_ok-sync g) (other : List ℕ) → Runs g c.args.file other c.args.disk.now c.cut.new.self (IsCut c.args.file other) → Runs g c.args.file other c.args.disk.now c.sync.new.self (IsSynced c.args.file other)
was_synced g c other run =
    does c.sync.new.self run (IsSynced c.args.file other) (Sync c.args.file) c.sync.ensures.time c.in_ok-sync.ensures.changes (g.met.D.Disk.reads_an_image c.cut.new.self)
    (λ d reads is. is.state.each) (λ d reads is. anew_synced c.args.file other d is)

pub returns-in_err-cut-clause-moments : goal.returns-in_err-cut-clause-moments
returns-in_err-cut-clause-moments g c other closed =
    tries c.cut.new.self (at_start g c.args.file other c.args.disk.now closed) (Cut c.args.file 72) c.cut.result c.cut.ensures.time c.cut.ensures.changes (g.met.D.Disk.reads_an_image c.args.disk.now)
    (λ d reads is. anew_cut c.args.file other d is)

pub returns-in_err-sync-clause-moments : goal.returns-in_err-sync-clause-moments
returns-in_err-sync-clause-moments g c other closed =
    let run = was_cut g (goal.at.returns-in_err-sync-clause-moments g c).In_ok-cut other closed in
    tries c.sync.new.self run (Sync c.args.file) c.sync.result c.sync.ensures.time c.sync.ensures.changes (g.met.D.Disk.reads_an_image c.cut.new.self) (λ d reads is. is.state.each)

pub returns-clause-moments : goal.returns-clause-moments
returns-clause-moments g c other closed =
    let at = goal.at.returns-clause-moments g c in
    let run = was_synced g at.In_ok-sync other (was_cut g at.In_ok-cut other closed) in
    tries c.write_at.new.self run (Write c.args.file 8 c.args.fields.now) c.write_at.result c.write_at.ensures.time c.write_at.ensures.changes (g.met.D.Disk.reads_an_image c.sync.new.self)
    (λ d reads is. anew_write c.args.file other c.args.fields.now c.requires.fields d is)

pub returns-clause-ok : goal.returns-clause-ok
returns-clause-ok g c = on_ok c.write_at.result _ (λ x is other closed.
    let at = goal.at.returns-clause-ok g c in
    let run = was_synced g at.In_ok-sync other (was_cut g at.In_ok-cut other closed) in
    done (Write c.args.file 8 c.args.fields.now) (g.D.Disk.shows c.sync.new.self).told (g.D.Disk.shows c.write_at.new.self).told (IsSynced c.args.file other) (IsFilling c.args.file c.args.fields.now [] other) (rw is at c.write_at.ensures.changes)
    (g.met.D.Disk.reads_an_image c.sync.new.self) run.state (λ d reads is. anew_end c.args.file other c.args.fields.now c.requires.fields d is))

-- THE CHANGING CALLS

pub returns-clause-calls : goal.returns-clause-calls
returns-clause-calls g c =
    let d0 = c.args.disk.now in
    let d1 = c.cut.new.self in
    let d2 = c.sync.new.self in
    let file = c.args.file in
    let one = calls.does (Cut file 72) (λ _. []) d0 d0 d1 (calls.begins d0 (g.met.D.Disk.only_now d0)) (g.met.D.Disk.only_now d0) (g.met.D.Disk.reads_an_image d0)
    c.in_ok-cut.ensures.changes c.cut.ensures.time in
    let two = calls.does (Sync file) (λ _. Cut file 72 ∷ []) d0 d1 d2 one (g.met.D.Disk.only_now d1) (g.met.D.Disk.reads_an_image d1)
    c.in_ok-sync.ensures.changes c.sync.ensures.time in
    calls.tries (Write file 8 c.args.fields.now) c.write_at.result (λ _. Cut file 72 ∷ Sync file ∷ []) d0 d2 c.write_at.new.self two (g.met.D.Disk.only_now d2)
    (g.met.D.Disk.reads_an_image d2) c.write_at.ensures.changes c.write_at.ensures.time

pub returns-in_err-sync-clause-calls : goal.returns-in_err-sync-clause-calls
returns-in_err-sync-clause-calls g c =
    let d0 = c.args.disk.now in
    let d1 = c.cut.new.self in
    let file = c.args.file in
    let one = calls.does (Cut file 72) (λ _. []) d0 d0 d1 (calls.begins d0 (g.met.D.Disk.only_now d0)) (g.met.D.Disk.only_now d0) (g.met.D.Disk.reads_an_image d0)
    c.in_ok-cut.ensures.changes c.cut.ensures.time in
    calls.fails _ c.in_err-sync.field-0.0 c.from_residual-in_err-sync.result (Sync file) (λ _. Cut file 72 ∷ []) (λ _. Write file 8 c.args.fields.now ∷ []) d0 d1 c.sync.new.self
    c.from_residual-in_err-sync.ensures.1 one (g.met.D.Disk.only_now d1) (g.met.D.Disk.reads_an_image d1) c.in_err-sync.ensures.changes c.sync.ensures.time
