use Rattle.std.proofs.Common.{[], ◌∷◌, refl}
use Rattle.crash_disk.specs.declared.change.Change.TheVariants.{Sync}
use Rattle.crash_disk.specs.declared.file_no.FileNo.TheVariants.{Zero, One}
use Rattle.crash_disk.specs.Disk.{Image}
use Rattle.crash_disk.specs.Moments.{Leaves}
use Rattle.crash_disk.specs.Steps.{started, goes_on, leaves_sync}
use Rattle.crash_disk.proofs.Following as calls
use Rattle.gate_journal.proofs.opening.sync_both.Goals as goal

pub returns-clause-moments : goal.returns-clause-moments
returns-clause-moments g c =
    let shows = g.D.Disk.shows in
    let law = g.met.D.Disk.reads_an_image in
    let d0 = c.args.disk.now in
    let d1 = c.sync.new.self in
    let d2 = c.sync-2.new.self in
    let P : Image → Type 0 = Leaves (shows d0).told in
    let r0 = started g.D.Disk.shows d0 P (g.met.D.Disk.only_now d0) in
    let first : (image : Image) → Leaves (shows d1).told image → P image = λ image left. leaves_sync (Sync Zero) (shows d0).told c.sync.result (shows d1).told image (λ d. refl) c.sync.ensures.changes (law d0) left in
    let r1 = goes_on g.D.Disk.shows d0 d0 d1 P r0 c.sync.ensures.time first in
    goes_on g.D.Disk.shows d0 d1 d2 P r1 c.sync-2.ensures.time (λ image left. first image (leaves_sync (Sync One) (shows d1).told c.sync-2.result (shows d2).told image (λ d. refl) c.sync-2.ensures.changes (law d1) left))

pub returns-clause-calls : goal.returns-clause-calls
returns-clause-calls g c =
    let d0 = c.args.disk.now in
    let d1 = c.sync.new.self in
    let one = calls.does (Sync Zero) (λ _. []) d0 d0 d1 (calls.begins d0 (g.met.D.Disk.only_now d0)) (g.met.D.Disk.only_now d0) (g.met.D.Disk.reads_an_image d0)
    c.in_ok-sync.ensures.changes c.sync.ensures.time in
    calls.tries (Sync One) c.sync-2.result (λ _. Sync Zero ∷ []) d0 d1 c.sync-2.new.self one (g.met.D.Disk.only_now d1) (g.met.D.Disk.reads_an_image d1)
    c.sync-2.ensures.changes c.sync-2.ensures.time
