use Rattle.std.proofs.Common.{◌≡◌, ◌∙◌, [], ◌∷◌}
use Rattle.crash_disk.specs.Disk.{Image}
use Rattle.crash_disk.specs.Moments.{Leaves, LeavesOnly}
use Rattle.crash_disk.specs.Steps.{started, goes_on}
use Rattle.crash_disk.proofs.Following as calls
use Rattle.gate_journal.specs.Format.{body_of}
use Rattle.gate_journal.proofs.Written.{Left, at_start, first_place, at_first, at_sync, second_place, at_second, at_return}
use Rattle.crash_disk.specs.declared.change.Change.{Change}
use Rattle.crash_disk.specs.declared.change.Change.TheVariants.{Write, Sync}
use Rattle.gate_journal.proofs.writing.write_record.Goals as goal
use Rattle.gate_journal.proofs.writing.write_record.Goals.{In_ok-write_at, After-write_at, After-sync, After-write_at-2}
use Rattle.gate_journal.proofs.writing.write_record.Given.{Over}

-- the body is written
module _ (g : Over) (c : After-write_at g) where
  abbrev Either : Image → Type 0
  Either = Left c.args.file c.args.end c.args.gate c.args.payload.now (g.D.Disk.shows c.args.disk.now).told

  body_is : c.deref.result.now ≡ body_of c.args.payload.now
  body_is = c.deref.ensures.value ∙ c.fill_body.ensures.body

  first : (image : Image) → Leaves (g.D.Disk.shows c.write_at.new.self).told image → Either image
  first image left =
      let wrote = rw body_is at c.write_at.ensures.changes in
      at_first c.args.file c.args.end c.args.gate c.args.payload.now (g.D.Disk.shows c.args.disk.now).told (g.met.D.Disk.reads_an_image c.args.disk.now) c.requires.ready c.write_at.result (g.D.Disk.shows c.write_at.new.self).told wrote image left

  one : LeavesOnly g.D.Disk.shows c.args.disk.now c.write_at.new.self Either
  one =
      let begun = started g.D.Disk.shows c.args.disk.now Either (λ image left.
      at_start c.args.file c.args.end c.args.gate c.args.payload.now (g.D.Disk.shows c.args.disk.now).told c.requires.ready image (g.met.D.Disk.only_now c.args.disk.now image left)) in
      goes_on g.D.Disk.shows c.args.disk.now c.args.disk.now c.write_at.new.self Either begun c.write_at.ensures.time first

-- and synced
two : (g : Over) (c : After-sync g) (P : Image → Type 0) → LeavesOnly g.D.Disk.shows c.args.disk.now c.write_at.new.self P → ((image : Image) → Leaves (g.D.Disk.shows c.write_at.new.self).told image → P image)
    → LeavesOnly g.D.Disk.shows c.args.disk.now c.sync.new.self P
two g c P so_far before =
    goes_on g.D.Disk.shows c.args.disk.now c.write_at.new.self c.sync.new.self P so_far c.sync.ensures.time (λ image left. before image
    (at_sync c.args.file c.args.end c.args.gate c.args.payload.now (g.D.Disk.shows c.write_at.new.self).told (g.met.D.Disk.reads_an_image c.write_at.new.self) c.sync.result (g.D.Disk.shows c.sync.new.self).told c.sync.ensures.changes image left))

-- then the gate is opened
module _ (g : Over) (c : After-write_at-2 g) where
  abbrev Both : Image → Type 0
  Both = Left c.args.file c.args.end c.args.gate c.args.payload.now (g.D.Disk.shows c.args.disk.now).told

  second : (image : Image) → Leaves (g.D.Disk.shows c.write_at-2.new.self).told image → Both image
  second image left =
      let is : c.deref.result.now ≡ body_of c.args.payload.now = c.deref.ensures.value ∙ c.fill_body.ensures.body in
      let wrote = rw is at c.in_ok-write_at.ensures.changes in
      at_second c.args.file c.args.end c.args.gate c.args.payload.now (g.D.Disk.shows c.args.disk.now).told (g.D.Disk.shows c.write_at.new.self).told (g.D.Disk.shows c.sync.new.self).told (g.met.D.Disk.reads_an_image c.args.disk.now) c.requires.ready wrote
      c.in_ok-sync.ensures.changes (g.met.D.Disk.reads_an_image c.sync.new.self) c.write_at-2.result (g.D.Disk.shows c.write_at-2.new.self).told c.write_at-2.ensures.changes image left

  three : LeavesOnly g.D.Disk.shows c.args.disk.now c.sync.new.self Both → LeavesOnly g.D.Disk.shows c.args.disk.now c.write_at-2.new.self Both
  three so_far = goes_on g.D.Disk.shows c.args.disk.now c.sync.new.self c.write_at-2.new.self Both so_far c.write_at-2.ensures.time second

pub write_at-requires : goal.write_at-requires
write_at-requires g c = first_place c.args.file c.args.end c.args.gate c.args.payload.now (g.D.Disk.shows c.args.disk.now).told (g.met.D.Disk.reads_an_image c.args.disk.now) c.requires.ready

pub returns-in_err-write_at-clause-moments : goal.returns-in_err-write_at-clause-moments
returns-in_err-write_at-clause-moments g c = one g (goal.at.returns-in_err-write_at-clause-moments g c).After-write_at

pub returns-in_err-sync-clause-moments : goal.returns-in_err-sync-clause-moments
returns-in_err-sync-clause-moments g c =
    let at = goal.at.returns-in_err-sync-clause-moments g c in
    two g at.After-sync _ (one g at.After-write_at) (first g at.After-write_at)

pub write_at-requires-2 : goal.write_at-requires-2
write_at-requires-2 g c =
    let is : c.deref.result.now ≡ body_of c.args.payload.now = c.deref.ensures.value ∙ c.fill_body.ensures.body in
    let wrote = rw is at c.in_ok-write_at.ensures.changes in
    second_place c.args.file c.args.end c.args.gate c.args.payload.now (g.D.Disk.shows c.args.disk.now).told (g.D.Disk.shows c.write_at.new.self).told (g.D.Disk.shows c.sync.new.self).told (g.met.D.Disk.reads_an_image c.args.disk.now) c.requires.ready wrote
    c.in_ok-sync.ensures.changes

pub returns-in_err-write_at-2-clause-moments : goal.returns-in_err-write_at-2-clause-moments
returns-in_err-write_at-2-clause-moments g c =
    let at = goal.at.returns-in_err-write_at-2-clause-moments g c in
    three g at.After-write_at-2 (two g at.After-sync _ (one g at.After-write_at) (first g at.After-write_at))

pub returns-clause-moments : goal.returns-clause-moments
returns-clause-moments g c =
    let at = goal.at.returns-clause-moments g c in
    let so_far = three g at.After-write_at-2 (two g at.After-sync _ (one g at.After-write_at) (first g at.After-write_at)) in
    goes_on g.D.Disk.shows c.args.disk.now c.write_at-2.new.self c.sync-2.new.self _ so_far c.sync-2.ensures.time (λ image left. second g at.After-write_at-2 image
    (at_sync c.args.file c.args.end c.args.gate c.args.payload.now (g.D.Disk.shows c.write_at-2.new.self).told (g.met.D.Disk.reads_an_image c.write_at-2.new.self) c.sync-2.result (g.D.Disk.shows c.sync-2.new.self).told c.sync-2.ensures.changes image left))

pub returns-clause-ok : goal.returns-clause-ok
returns-clause-ok g c =
    let is : c.deref.result.now ≡ body_of c.args.payload.now = c.deref.ensures.value ∙ c.fill_body.ensures.body in
    let wrote = rw is at c.in_ok-write_at.ensures.changes in
    at_return c.args.file c.args.end c.args.gate c.args.payload.now (g.D.Disk.shows c.args.disk.now).told (g.D.Disk.shows c.write_at.new.self).told (g.D.Disk.shows c.sync.new.self).told (g.met.D.Disk.reads_an_image c.args.disk.now) c.requires.ready wrote
    c.in_ok-sync.ensures.changes (g.D.Disk.shows c.write_at-2.new.self).told (g.D.Disk.shows c.sync-2.new.self).told c.sync-2.result c.in_ok-write_at-2.ensures.changes c.sync-2.ensures.changes

-- THE CHANGING CALLS

pub returns-clause-calls : goal.returns-clause-calls
returns-clause-calls g c =
    let d0 = c.args.disk.now in
    let d1 = c.write_at.new.self in
    let d2 = c.sync.new.self in
    let d3 = c.write_at-2.new.self in
    let file = c.args.file in
    let body : c.deref.result.now ≡ body_of c.args.payload.now = c.deref.ensures.value ∙ c.fill_body.ensures.body in
    let first : Change = Write file c.args.end (body_of c.args.payload.now) in
    let one = calls.does first (λ _. []) d0 d0 d1 (calls.begins d0 (g.met.D.Disk.only_now d0)) (g.met.D.Disk.only_now d0) (g.met.D.Disk.reads_an_image d0)
    (rw body at c.in_ok-write_at.ensures.changes) c.write_at.ensures.time in
    let two = calls.does (Sync file) (λ _. first ∷ []) d0 d1 d2 one (g.met.D.Disk.only_now d1) (g.met.D.Disk.reads_an_image d1)
    c.in_ok-sync.ensures.changes c.sync.ensures.time in
    let three = calls.does (Write file c.args.gate (1 ∷ [])) (λ _. first ∷ Sync file ∷ []) d0 d2 d3 two (g.met.D.Disk.only_now d2) (g.met.D.Disk.reads_an_image d2)
    c.in_ok-write_at-2.ensures.changes c.write_at-2.ensures.time in
    calls.tries (Sync file) c.sync-2.result (λ _. first ∷ Sync file ∷ Write file c.args.gate (1 ∷ []) ∷ []) d0 d3 c.sync-2.new.self three
    (g.met.D.Disk.only_now d3) (g.met.D.Disk.reads_an_image d3) c.sync-2.ensures.changes c.sync-2.ensures.time

written_first : (g : Over) (c : In_ok-write_at g) → calls.Made g.D.Disk.shows (λ _. Write c.args.file c.args.end (body_of c.args.payload.now) ∷ []) c.args.disk.now c.write_at.new.self
written_first g c =
    let d0 = c.args.disk.now in
    let body : c.deref.result.now ≡ body_of c.args.payload.now = c.deref.ensures.value ∙ c.fill_body.ensures.body in
    calls.does (Write c.args.file c.args.end (body_of c.args.payload.now)) (λ _. []) d0 d0 c.write_at.new.self (calls.begins d0 (g.met.D.Disk.only_now d0)) (g.met.D.Disk.only_now d0) (g.met.D.Disk.reads_an_image d0)
    (rw body at c.in_ok-write_at.ensures.changes) c.write_at.ensures.time

pub returns-in_err-sync-clause-calls : goal.returns-in_err-sync-clause-calls
returns-in_err-sync-clause-calls g c =
    let d0 = c.args.disk.now in
    let d1 = c.write_at.new.self in
    let file = c.args.file in
    let first : Change = Write file c.args.end (body_of c.args.payload.now) in
    let one = written_first g (goal.at.returns-in_err-sync-clause-calls g c).In_ok-write_at in
    calls.fails _ c.in_err-sync.field-0.0 c.from_residual-in_err-sync.result (Sync file) (λ _. first ∷ []) (λ _. Write file c.args.gate (1 ∷ []) ∷ Sync file ∷ []) d0 d1 c.sync.new.self
    c.from_residual-in_err-sync.ensures.1 one (g.met.D.Disk.only_now d1) (g.met.D.Disk.reads_an_image d1) c.in_err-sync.ensures.changes c.sync.ensures.time

pub returns-in_err-write_at-2-clause-calls : goal.returns-in_err-write_at-2-clause-calls
returns-in_err-write_at-2-clause-calls g c =
    let d0 = c.args.disk.now in
    let d1 = c.write_at.new.self in
    let d2 = c.sync.new.self in
    let file = c.args.file in
    let first : Change = Write file c.args.end (body_of c.args.payload.now) in
    let one = written_first g (goal.at.returns-in_err-write_at-2-clause-calls g c).In_ok-write_at in
    let two = calls.does (Sync file) (λ _. first ∷ []) d0 d1 d2 one (g.met.D.Disk.only_now d1) (g.met.D.Disk.reads_an_image d1)
    c.in_ok-sync.ensures.changes c.sync.ensures.time in
    calls.fails _ c.in_err-write_at-2.field-0.0 c.from_residual-in_err-write_at-2.result (Write file c.args.gate (1 ∷ [])) (λ _. first ∷ Sync file ∷ []) (λ _. Sync file ∷ []) d0 d2 c.write_at-2.new.self
    c.from_residual-in_err-write_at-2.ensures.1 two (g.met.D.Disk.only_now d2) (g.met.D.Disk.reads_an_image d2) c.in_err-write_at-2.ensures.changes c.write_at-2.ensures.time
