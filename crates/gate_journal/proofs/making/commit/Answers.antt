use Rattle.std.specs.Prelude.{IfSome}
use Rattle.std.proofs.Common.{inl, List, ℕ, [], ◌∷◌}
use Rattle.crash_disk.specs.declared.file_no.FileNo.{FileNo}
use Rattle.crash_disk.specs.declared.change.Change.TheVariants.{Write, Sync}
use Rattle.crash_disk.specs.Disk.{Image, DiskState, MayLeave, reads_of}
use Rattle.gate_journal.specs.Format.{Committed}
use Rattle.gate_journal.specs.Making.{IsMadeOrBlank, IsWritten, IsMade}
use Rattle.gate_journal.proofs.Lifting.{done, on_ok}
use Rattle.gate_journal.proofs.Running.{Run, begins, tries, does}
use Rattle.gate_journal.proofs.Commits.{Staged, Marked, commit_sync, commit_images, commit_end, changing-write}
use Rattle.crash_disk.proofs.Following as calls
use Rattle.gate_journal.proofs.making.commit.Goals as goal
use Rattle.gate_journal.proofs.making.commit.Goals.{In_ok-sync, In_ok-write_at}
use Rattle.gate_journal.proofs.making.commit.Given.{Over}

written_images : (file : FileNo) (holds : Committed) (other : List ℕ) (disk : DiskState) → IsWritten file holds other disk → (image : Image) → MayLeave disk image → IsMadeOrBlank file holds other image
written_images file holds other disk is image may = let b = is.blank image may in (inl b.0, b.1)

module _ (g : Over) (file : FileNo) (holds : Committed) (other : List ℕ) where
  -- a run of the calls from the start on
  abbrev Runs : (old now : g.row.D.Denot) → (DiskState → Type 0) → Type 0
  Runs = Run g.D.Disk.shows (IsMadeOrBlank file holds other)

  at_start : (disk : g.row.D.Denot) → IfSome (g.D.Disk.shows disk).told (IsWritten file holds other) → Runs disk disk (IsWritten file holds other)
  at_start disk written = begins g.D.Disk.shows (IsMadeOrBlank file holds other) disk (IsWritten file holds other) (g.met.D.Disk.only_now disk) written (written_images file holds other)

was_synced : (g : Over) (c : In_ok-sync g) (holds : Committed) (other : List ℕ) → IfSome (g.D.Disk.shows c.args.disk.now).told (IsWritten c.args.file holds other) → Runs g c.args.file holds other c.args.disk.now c.sync.new.self (Staged c.args.file holds other)
was_synced g c holds other written =
    does c.sync.new.self (at_start g c.args.file holds other c.args.disk.now written) (Staged c.args.file holds other) (Sync c.args.file) c.sync.ensures.time c.in_ok-sync.ensures.changes (g.met.D.Disk.reads_an_image c.args.disk.now)
    (λ d reads is. written_images c.args.file holds other d is)
    (λ d reads is. record { bytes = reads_of d c.args.file; at = commit_sync c.args.file holds other d reads is; closed = is.closed; holds_with = is.holds_with })

was_marked : (g : Over) (c : In_ok-write_at g) (holds : Committed) (other : List ℕ) → Runs g c.args.file holds other c.args.disk.now c.sync.new.self (Staged c.args.file holds other)
    → Runs g c.args.file holds other c.args.disk.now c.write_at.new.self (Marked c.args.file holds other)
was_marked g c holds other run =
    does c.write_at.new.self run (Marked c.args.file holds other) (Write c.args.file 0 (1 ∷ [])) c.write_at.ensures.time c.in_ok-write_at.ensures.changes (g.met.D.Disk.reads_an_image c.sync.new.self)
    (λ d reads is. commit_images c.args.file holds is.bytes other d is.closed is.holds_with is.at)
    (λ d reads is. record {
      bytes = is.bytes;
      changing = changing-write (IsMadeOrBlank c.args.file holds other) c.args.file is.bytes other 0 (1 ∷ []) d is.at (commit_images c.args.file holds is.bytes other d is.closed is.holds_with is.at);
      holds_with = is.holds_with;
    })

pub returns-in_err-sync-clause-moments : goal.returns-in_err-sync-clause-moments
returns-in_err-sync-clause-moments g c holds other written =
    tries c.sync.new.self (at_start g c.args.file holds other c.args.disk.now written) (Sync c.args.file) c.sync.result c.sync.ensures.time c.sync.ensures.changes (g.met.D.Disk.reads_an_image c.args.disk.now)
    (λ d reads is. written_images c.args.file holds other d is)

pub returns-in_err-write_at-clause-moments : goal.returns-in_err-write_at-clause-moments
returns-in_err-write_at-clause-moments g c holds other written =
    let run = was_synced g (goal.at.returns-in_err-write_at-clause-moments g c).In_ok-sync holds other written in
    tries c.write_at.new.self run (Write c.args.file 0 (1 ∷ [])) c.write_at.result c.write_at.ensures.time c.write_at.ensures.changes (g.met.D.Disk.reads_an_image c.sync.new.self)
    (λ d reads is. commit_images c.args.file holds is.bytes other d is.closed is.holds_with is.at)

pub returns-clause-moments : goal.returns-clause-moments
returns-clause-moments g c holds other written =
    let at = goal.at.returns-clause-moments g c in
    let run = was_marked g at.In_ok-write_at holds other (was_synced g at.In_ok-sync holds other written) in
    tries c.sync-2.new.self run (Sync c.args.file) c.sync-2.result c.sync-2.ensures.time c.sync-2.ensures.changes (g.met.D.Disk.reads_an_image c.write_at.new.self) (λ d reads is. is.changing.each)

pub returns-clause-ok : goal.returns-clause-ok
returns-clause-ok g c = on_ok c.sync-2.result _ (λ x is holds other written.
    let at = goal.at.returns-clause-ok g c in
    let run = was_marked g at.In_ok-write_at holds other (was_synced g at.In_ok-sync holds other written) in
    done (Sync c.args.file) (g.D.Disk.shows c.write_at.new.self).told (g.D.Disk.shows c.sync-2.new.self).told (Marked c.args.file holds other) (IsMade c.args.file holds other) (rw is at c.sync-2.ensures.changes)
    (g.met.D.Disk.reads_an_image c.write_at.new.self) run.state (λ d reads is. commit_end (IsMadeOrBlank c.args.file holds other) c.args.file holds is.bytes other d is.holds_with is.changing))

-- THE CHANGING CALLS

synced : (g : Over) (c : In_ok-sync g) → calls.Made g.D.Disk.shows (λ _. Sync c.args.file ∷ []) c.args.disk.now c.sync.new.self
synced g c =
    let d0 = c.args.disk.now in
    calls.does (Sync c.args.file) (λ _. []) d0 d0 c.sync.new.self (calls.begins d0 (g.met.D.Disk.only_now d0)) (g.met.D.Disk.only_now d0) (g.met.D.Disk.reads_an_image d0)
    c.in_ok-sync.ensures.changes c.sync.ensures.time

pub returns-in_err-write_at-clause-calls : goal.returns-in_err-write_at-clause-calls
returns-in_err-write_at-clause-calls g c =
    let one = synced g (goal.at.returns-in_err-write_at-clause-calls g c).In_ok-sync in
    let d1 = c.sync.new.self in
    calls.fails _ c.in_err-write_at.field-0.0 c.from_residual-in_err-write_at.result (Write c.args.file 0 (1 ∷ [])) (λ _. Sync c.args.file ∷ []) (λ _. Sync c.args.file ∷ [])
    c.args.disk.now d1 c.write_at.new.self c.from_residual-in_err-write_at.ensures.1 one (g.met.D.Disk.only_now d1) (g.met.D.Disk.reads_an_image d1)
    c.in_err-write_at.ensures.changes c.write_at.ensures.time

pub returns-clause-calls : goal.returns-clause-calls
returns-clause-calls g c =
    let one = synced g (goal.at.returns-clause-calls g c).In_ok-sync in
    let d1 = c.sync.new.self in
    let d2 = c.write_at.new.self in
    let two = calls.does (Write c.args.file 0 (1 ∷ [])) (λ _. Sync c.args.file ∷ []) c.args.disk.now d1 d2 one (g.met.D.Disk.only_now d1) (g.met.D.Disk.reads_an_image d1)
    c.in_ok-write_at.ensures.changes c.write_at.ensures.time in
    calls.tries (Sync c.args.file) c.sync-2.result (λ _. Sync c.args.file ∷ Write c.args.file 0 (1 ∷ []) ∷ []) c.args.disk.now d2 c.sync-2.new.self two
    (g.met.D.Disk.only_now d2) (g.met.D.Disk.reads_an_image d2) c.sync-2.ensures.changes c.sync-2.ensures.time
