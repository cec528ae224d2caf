use Rattle.std.specs.Prelude.{IfSome}
use Rattle.std.proofs.Common.{List, ℕ, [], ◌∷◌}
use Rattle.crash_disk.specs.declared.file_no.FileNo.{FileNo}
use Rattle.crash_disk.specs.declared.change.Change.TheVariants.{Write, Cut, Sync}
use Rattle.crash_disk.specs.declared.change.Change.{Change}
use Rattle.crash_disk.specs.Disk.{DiskState}
use Rattle.crash_disk.proofs.Following as calls
use Rattle.gate_journal.specs.Making.{IsAt, IsShort, IsBlankBeside, Changing}
use Rattle.gate_journal.proofs.Lifting.{done, on_ok}
use Rattle.gate_journal.proofs.Running.{Run, begins, tries, does}
use Rattle.gate_journal.proofs.Commits.{changing-sync}
use Rattle.gate_journal.proofs.Heads.{short_now, short_cut, short_is_cut, short_write, short_is_written}
use Rattle.gate_journal.proofs.making.lengthen.Goals as goal
use Rattle.gate_journal.proofs.making.lengthen.Goals.{In_ok-cut, In_ok-sync, In_ok-write_at}
use Rattle.gate_journal.proofs.making.lengthen.Given.{Over}

module _ (g : Over) (file : FileNo) (other : List ℕ) where
  -- a run of the calls from the start on
  abbrev Runs : (old now : g.row.D.Denot) → (DiskState → Type 0) → Type 0
  Runs = Run g.D.Disk.shows (IsBlankBeside file other)

  abbrev Changed : List ℕ → DiskState → Type 0
  Changed bytes = Changing (IsBlankBeside file other) file bytes other

  at_start : (disk : g.row.D.Denot) → IfSome (g.D.Disk.shows disk).told (IsShort file other) → Runs disk disk (IsShort file other)
  at_start disk short = begins g.D.Disk.shows (IsBlankBeside file other) disk (IsShort file other) (g.met.D.Disk.only_now disk) short (short_now file other)

was_cut : (g : Over) (c : In_ok-cut g) (other : List ℕ) → IfSome (g.D.Disk.shows c.args.disk.now).told (IsShort c.args.file other) → Runs g c.args.file other c.args.disk.now c.cut.new.self (Changed g c.args.file other [])
was_cut g c other short =
    does c.cut.new.self (at_start g c.args.file other c.args.disk.now short) (Changed g c.args.file other []) (Cut c.args.file 0) c.cut.ensures.time c.in_ok-cut.ensures.changes (g.met.D.Disk.reads_an_image c.args.disk.now)
    (λ d reads is. short_cut c.args.file other d is) (λ d reads is. short_is_cut c.args.file other d is)

was_synced : (g : Over) (c : In_ok-sync g) (other : List ℕ) → Runs g c.args.file other c.args.disk.now c.cut.new.self (Changed g c.args.file other []) → Runs g c.args.file other c.args.disk.now c.sync.new.self (IsAt c.args.file [] other)
was_synced g c other run =
    does c.sync.new.self run (IsAt c.args.file [] other) (Sync c.args.file) c.sync.ensures.time c.in_ok-sync.ensures.changes (g.met.D.Disk.reads_an_image c.cut.new.self)
    (λ d reads is. is.each) (λ d reads is. changing-sync (IsBlankBeside c.args.file other) c.args.file [] other d is)

was_written : (g : Over) (c : In_ok-write_at g) (other : List ℕ) → Runs g c.args.file other c.args.disk.now c.sync.new.self (IsAt c.args.file [] other)
    → Runs g c.args.file other c.args.disk.now c.write_at.new.self (Changed g c.args.file other c.args.head.now)
was_written g c other run =
    does c.write_at.new.self run (Changed g c.args.file other c.args.head.now) (Write c.args.file 0 c.args.head.now) c.write_at.ensures.time c.in_ok-write_at.ensures.changes (g.met.D.Disk.reads_an_image c.sync.new.self)
    (λ d reads is. short_write c.args.file other c.args.head.now c.requires d is) (λ d reads is. short_is_written c.args.file other c.args.head.now c.requires d is)

pub returns-in_err-cut-clause-moments : goal.returns-in_err-cut-clause-moments
returns-in_err-cut-clause-moments g c other short =
    tries c.cut.new.self (at_start g c.args.file other c.args.disk.now short) (Cut c.args.file 0) c.cut.result c.cut.ensures.time c.cut.ensures.changes (g.met.D.Disk.reads_an_image c.args.disk.now) (λ d reads is. short_cut c.args.file other d is)

pub returns-in_err-sync-clause-moments : goal.returns-in_err-sync-clause-moments
returns-in_err-sync-clause-moments g c other short =
    let run = was_cut g (goal.at.returns-in_err-sync-clause-moments g c).In_ok-cut other short in
    tries c.sync.new.self run (Sync c.args.file) c.sync.result c.sync.ensures.time c.sync.ensures.changes (g.met.D.Disk.reads_an_image c.cut.new.self) (λ d reads is. is.each)

pub returns-in_err-write_at-clause-moments : goal.returns-in_err-write_at-clause-moments
returns-in_err-write_at-clause-moments g c other short =
    let at = goal.at.returns-in_err-write_at-clause-moments g c in
    let run = was_synced g at.In_ok-sync other (was_cut g at.In_ok-cut other short) in
    tries c.write_at.new.self run (Write c.args.file 0 c.args.head.now) c.write_at.result c.write_at.ensures.time c.write_at.ensures.changes (g.met.D.Disk.reads_an_image c.sync.new.self)
    (λ d reads is. short_write c.args.file other c.args.head.now c.requires d is)

pub returns-clause-moments : goal.returns-clause-moments
returns-clause-moments g c other short =
    let at = goal.at.returns-clause-moments g c in
    let run = was_written g at.In_ok-write_at other (was_synced g at.In_ok-sync other (was_cut g at.In_ok-cut other short)) in
    tries c.sync-2.new.self run (Sync c.args.file) c.sync-2.result c.sync-2.ensures.time c.sync-2.ensures.changes (g.met.D.Disk.reads_an_image c.write_at.new.self) (λ d reads is. is.each)

pub returns-clause-ok : goal.returns-clause-ok
returns-clause-ok g c = on_ok c.sync-2.result _ (λ x is other short.
    let at = goal.at.returns-clause-ok g c in
    let run = was_written g at.In_ok-write_at other (was_synced g at.In_ok-sync other (was_cut g at.In_ok-cut other short)) in
    done (Sync c.args.file) (g.D.Disk.shows c.write_at.new.self).told (g.D.Disk.shows c.sync-2.new.self).told (Changed g c.args.file other c.args.head.now) (IsAt c.args.file c.args.head.now other) (rw is at c.sync-2.ensures.changes)
    (g.met.D.Disk.reads_an_image c.write_at.new.self) run.state (λ d reads is. changing-sync (IsBlankBeside c.args.file other) c.args.file c.args.head.now other d is))

-- THE CHANGING CALLS

abbrev Makes : (g : Over) → (DiskState → List Change) → (old new : g.row.D.Denot) → Type 0
Makes g = calls.Made g.D.Disk.shows

first_made : (g : Over) (c : In_ok-cut g) → Makes g (λ _. Cut c.args.file 0 ∷ []) c.args.disk.now c.cut.new.self
first_made g c =
    let d0 = c.args.disk.now in
    calls.does (Cut c.args.file 0) (λ _. []) d0 d0 c.cut.new.self (calls.begins d0 (g.met.D.Disk.only_now d0)) (g.met.D.Disk.only_now d0) (g.met.D.Disk.reads_an_image d0)
    c.in_ok-cut.ensures.changes c.cut.ensures.time

second_made : (g : Over) (c : In_ok-sync g) → Makes g (λ _. Cut c.args.file 0 ∷ []) c.args.disk.now c.cut.new.self →
    Makes g (λ _. Cut c.args.file 0 ∷ Sync c.args.file ∷ []) c.args.disk.now c.sync.new.self
second_made g c one =
    let d1 = c.cut.new.self in
    calls.does (Sync c.args.file) (λ _. Cut c.args.file 0 ∷ []) c.args.disk.now d1 c.sync.new.self one (g.met.D.Disk.only_now d1) (g.met.D.Disk.reads_an_image d1)
    c.in_ok-sync.ensures.changes c.sync.ensures.time

third_made : (g : Over) (c : In_ok-write_at g) → Makes g (λ _. Cut c.args.file 0 ∷ Sync c.args.file ∷ []) c.args.disk.now c.sync.new.self →
    Makes g (λ _. Cut c.args.file 0 ∷ Sync c.args.file ∷ Write c.args.file 0 c.args.head.now ∷ []) c.args.disk.now c.write_at.new.self
third_made g c two =
    let d2 = c.sync.new.self in
    calls.does (Write c.args.file 0 c.args.head.now) (λ _. Cut c.args.file 0 ∷ Sync c.args.file ∷ []) c.args.disk.now d2 c.write_at.new.self two (g.met.D.Disk.only_now d2)
    (g.met.D.Disk.reads_an_image d2) c.in_ok-write_at.ensures.changes c.write_at.ensures.time

pub returns-in_err-write_at-clause-calls : goal.returns-in_err-write_at-clause-calls
returns-in_err-write_at-clause-calls g c =
    let at = goal.at.returns-in_err-write_at-clause-calls g c in
    let two = second_made g at.In_ok-sync (first_made g at.In_ok-cut) in
    let d2 = c.sync.new.self in
    calls.fails _ c.in_err-write_at.field-0.0 c.from_residual-in_err-write_at.result (Write c.args.file 0 c.args.head.now)
    (λ _. Cut c.args.file 0 ∷ Sync c.args.file ∷ []) (λ _. Sync c.args.file ∷ []) c.args.disk.now d2 c.write_at.new.self
    c.from_residual-in_err-write_at.ensures.1 two (g.met.D.Disk.only_now d2) (g.met.D.Disk.reads_an_image d2) c.in_err-write_at.ensures.changes
    c.write_at.ensures.time

pub returns-clause-calls : goal.returns-clause-calls
returns-clause-calls g c =
    let at = goal.at.returns-clause-calls g c in
    let three = third_made g at.In_ok-write_at (second_made g at.In_ok-sync (first_made g at.In_ok-cut)) in
    let d3 = c.write_at.new.self in
    calls.tries (Sync c.args.file) c.sync-2.result (λ _. Cut c.args.file 0 ∷ Sync c.args.file ∷ Write c.args.file 0 c.args.head.now ∷ []) c.args.disk.now d3 c.sync-2.new.self three
    (g.met.D.Disk.only_now d3) (g.met.D.Disk.reads_an_image d3) c.sync-2.ensures.changes c.sync-2.ensures.time

pub returns-in_err-sync-clause-calls : goal.returns-in_err-sync-clause-calls
returns-in_err-sync-clause-calls g c =
    let one = first_made g (goal.at.returns-in_err-sync-clause-calls g c).In_ok-cut in
    let d1 = c.cut.new.self in
    calls.fails _ c.in_err-sync.field-0.0 c.from_residual-in_err-sync.result (Sync c.args.file) (λ _. Cut c.args.file 0 ∷ [])
    (λ _. Write c.args.file 0 c.args.head.now ∷ Sync c.args.file ∷ []) c.args.disk.now d1 c.sync.new.self c.from_residual-in_err-sync.ensures.1 one
    (g.met.D.Disk.only_now d1) (g.met.D.Disk.reads_an_image d1) c.in_err-sync.ensures.changes c.sync.ensures.time
