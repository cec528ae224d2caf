use Rattle.std.specs.Prelude.{IfSome, Option}
use Rattle.std.proofs.Common.{◌≡◌, ℕ, List, refl, ◌++◌, Result, append_assoc, sym, Err}
use Rattle.crash_disk.specs.Steps.{weaker}
use Rattle.crash_disk.specs.Torn.{other_file}
use Rattle.crash_disk.proofs.Following as calls
use Rattle.gate_journal.specs.declared.header.Header.{Header}
use Rattle.gate_journal.specs.Format.{Committed, bodies_of, gate_of}
use Rattle.gate_journal.specs.Making.{IsBeforeOrBlank, IsBeforeOrMade, IsBlankBeside, IsClosed, IsFilling, IsHolding, IsMadeOrBlank, IsWritable, IsWritten, fields_bytes, read_of}
use Rattle.gate_journal.proofs.Lifting.{on_ok, weaken, always}
use Rattle.gate_journal.proofs.Running.{Run, joins}
use Rattle.gate_journal.proofs.Filling.{filled_written}
use Rattle.gate_journal.proofs.Beside.{before_or_made, blank_or_made, holding_told, made_or_blank}
use Rattle.crash_disk.specs.declared.change.Change.{Change}
use Rattle.crash_disk.specs.Disk.{DiskState, reads_of}
use Rattle.crash_disk.specs.declared.file_no.Failed.{Failed}
use Rattle.gate_journal.specs.Calls.{clearing, filling, committing, making_beside}
use Rattle.gate_journal.proofs.remaking.make_beside.Goals as goal
use Rattle.gate_journal.proofs.remaking.make_beside.Goals.{In_ok-clear, In_ok-fill}
use Rattle.gate_journal.proofs.remaking.make_beside.Given.{Over}

pub fill-requires-clause-closed : goal.fill-requires-clause-closed
fill-requires-clause-closed g c =
    let told0 = (g.D.Disk.shows c.args.disk.now).told in
    let holding = holding_told told0 c.args.file c.requires.holding in
    weaken (g.D.Disk.shows c.clear.new.disk).told (IsClosed c.args.file (read_of told0 (other_file c.args.file))) _ (c.in_ok-clear.ensures.ok holding.0 (read_of told0 (other_file c.args.file)) holding.1)
    (λ d is. record { quiet = is.quiet; head = is.head; closed = is.closed; beside = refl })

module _ (g : Over) (before : Option Committed) (holds : Committed) (other : List ℕ) where
  cleared : (c : In_ok-clear g) → IfSome (g.D.Disk.shows c.args.disk.now).told (IsHolding c.args.file before other)
      → Run g.D.Disk.shows (IsBeforeOrMade c.args.file before holds other) c.args.disk.now c.clear.new.disk (IsClosed c.args.file other)
  cleared c holding = record {
    moments = weaker g.D.Disk.shows c.args.disk.now c.clear.new.disk (IsBeforeOrBlank c.args.file before other) (IsBeforeOrMade c.args.file before holds other) (c.clear.ensures.moments before other holding) (before_or_made c.args.file before holds other);
    state = c.in_ok-clear.ensures.ok before other holding;
  }

  filled : (c : In_ok-fill g) → Run g.D.Disk.shows (IsBeforeOrMade c.args.file before holds other) c.args.disk.now c.clear.new.disk (IsClosed c.args.file other)
      → Run g.D.Disk.shows (IsBeforeOrMade c.args.file before holds other) c.args.disk.now c.fill.new.disk (IsFilling c.args.file c.args.fields.now (bodies_of c.args.records.now) other)
  filled c run = record {
    moments = joins c.fill.new.disk run (IsBlankBeside c.args.file other) (c.fill.ensures.moments other run.state) (blank_or_made c.args.file before holds other);
    state = c.in_ok-fill.ensures.ok other run.state;
  }

-- all but the commit was written
all_written : (g : Over) (c : In_ok-fill g) (header : Header) (other : List ℕ) → c.args.fields.now ≡ fields_bytes header (gate_of c.args.records.now) → IsWritable header
    → IfSome (g.D.Disk.shows c.fill.new.disk).told (IsFilling c.args.file c.args.fields.now (bodies_of c.args.records.now) other)
    → IfSome (g.D.Disk.shows c.fill.new.disk).told (IsWritten c.args.file (record { version = 2; header = header; payloads = c.args.records.now }) other)
all_written g c header other fields_are writable filling =
    weaken (g.D.Disk.shows c.fill.new.disk).told (IsFilling c.args.file c.args.fields.now (bodies_of c.args.records.now) other) (IsWritten c.args.file (record { version = 2; header = header; payloads = c.args.records.now }) other) filling
    (λ d is. filled_written c.args.file c.args.fields.now other d header c.args.records.now fields_are c.requires.fits writable is)

pub returns-in_err-clear-clause-moments : goal.returns-in_err-clear-clause-moments
returns-in_err-clear-clause-moments g c before header other fields_are writable holding =
    weaker g.D.Disk.shows c.args.disk.now c.clear.new.disk (IsBeforeOrBlank c.args.file before other) _ (c.clear.ensures.moments before other holding) (before_or_made c.args.file before _ other)

pub returns-in_err-fill-clause-moments : goal.returns-in_err-fill-clause-moments
returns-in_err-fill-clause-moments g c before header other fields_are writable holding =
    let holds : Committed = record { version = 2; header = header; payloads = c.args.records.now } in
    let run = cleared g before holds other (goal.at.returns-in_err-fill-clause-moments g c).In_ok-clear holding in
    joins c.fill.new.disk run (IsBlankBeside c.args.file other) (c.fill.ensures.moments other run.state) (blank_or_made c.args.file before holds other)

pub returns-clause-moments : goal.returns-clause-moments
returns-clause-moments g c before header other fields_are writable holding =
    let at = goal.at.returns-clause-moments g c in
    let holds : Committed = record { version = 2; header = header; payloads = c.args.records.now } in
    let run = filled g before holds other at.In_ok-fill (cleared g before holds other at.In_ok-clear holding) in
    joins c.commit.new.disk run (IsMadeOrBlank c.args.file holds other) (c.commit.ensures.moments holds other (all_written g at.In_ok-fill header other fields_are writable run.state)) (made_or_blank c.args.file before holds other)

pub returns-clause-ok : goal.returns-clause-ok
returns-clause-ok g c = on_ok c.commit.result _ (λ x is before header other fields_are writable holding.
    let at = goal.at.returns-clause-ok g c in
    let holds : Committed = record { version = 2; header = header; payloads = c.args.records.now } in
    let run = filled g before holds other at.In_ok-fill (cleared g before holds other at.In_ok-clear holding) in
    (rw is at c.commit.ensures.ok) holds other (all_written g at.In_ok-fill header other fields_are writable run.state))

-- THE CHANGING CALLS

module _ (g : Over) where
  abbrev Makes : (DiskState → List Change) → (old new : g.row.D.Denot) → Type 0
  Makes = calls.Made g.D.Disk.shows

  clear_made : (c : In_ok-clear g) → Makes (λ d. clearing c.args.file c.args.head.now (reads_of d c.args.file)) c.args.disk.now c.clear.new.disk
  clear_made c =
      calls.made c.in_ok-clear.field-0 (λ d. clearing c.args.file c.args.head.now (reads_of d c.args.file)) c.args.disk.now c.clear.new.disk
      c.in_ok-clear.ensures.calls

  fill_made : (c : In_ok-fill g) → Makes (λ d. clearing c.args.file c.args.head.now (reads_of d c.args.file)) c.args.disk.now c.clear.new.disk →
      Makes (λ d. clearing c.args.file c.args.head.now (reads_of d c.args.file) ++ filling c.args.file c.args.fields.now c.args.records.now) c.args.disk.now
      c.fill.new.disk
  fill_made c cleared =
      let plan : DiskState → List Change = λ _. filling c.args.file c.args.fields.now c.args.records.now in
      calls.then_follows _ (λ d. clearing c.args.file c.args.head.now (reads_of d c.args.file)) plan c.args.disk.now c.clear.new.disk c.fill.new.disk cleared
      (calls.made c.in_ok-fill.field-0 plan c.clear.new.disk c.fill.new.disk c.in_ok-fill.ensures.calls)

pub returns-in_err-clear-clause-calls : goal.returns-in_err-clear-clause-calls
returns-in_err-clear-clause-calls g c =
    let file = c.args.file in
    let d0 = c.args.disk.now in
    let d1 = c.clear.new.disk in
    let other = c.from_residual.result in
    let plan : DiskState → List Change = λ d. clearing file c.args.head.now (reads_of d file) in
    let filled : List Change = filling file c.args.fields.now c.args.records.now in
    calls.follows_same other (λ d. plan d ++ (filled ++ committing file)) (λ d. making_beside file c.args.head.now c.args.fields.now c.args.records.now (reads_of d file)) d0 d1
    (always (g.D.Disk.shows d0).told _ (λ d. sym (append_assoc (plan d) filled (committing file))))
    (calls.breaks_off {T = Unit {0}} _ c.in_err-clear.field-0.0 other plan (λ _. filled ++ committing file) d0 d1 c.from_residual.ensures.1
    c.in_err-clear.ensures.calls)

pub returns-in_err-fill-clause-calls : goal.returns-in_err-fill-clause-calls
returns-in_err-fill-clause-calls g c =
    let at = goal.at.returns-in_err-fill-clause-calls g c in
    let file = c.args.file in
    let failed : Result (Unit {0}) Failed = Err c.in_err-fill.field-0.0 in
    calls.breaks_off {T = Unit {0}} _ c.in_err-fill.field-0.0 c.from_residual-in_err-fill.result
    (λ d. clearing file c.args.head.now (reads_of d file) ++ filling file c.args.fields.now c.args.records.now) (λ _. committing file) c.args.disk.now
    c.fill.new.disk c.from_residual-in_err-fill.ensures.1
    (calls.then_follows failed (λ d. clearing file c.args.head.now (reads_of d file)) (λ _. filling file c.args.fields.now c.args.records.now) c.args.disk.now
    c.clear.new.disk c.fill.new.disk (clear_made g at.In_ok-clear) c.in_err-fill.ensures.calls)

pub returns-clause-calls : goal.returns-clause-calls
returns-clause-calls g c =
    let at = goal.at.returns-clause-calls g c in
    let file = c.args.file in
    calls.then_follows c.commit.result (λ d. clearing file c.args.head.now (reads_of d file) ++ filling file c.args.fields.now c.args.records.now)
    (λ _. committing file) c.args.disk.now c.fill.new.disk c.commit.new.disk (fill_made g at.In_ok-fill (clear_made g at.In_ok-clear)) c.commit.ensures.calls
