use Rattle.std.specs.Prelude.{IfSome}
use Rattle.std.proofs.Common.{List, ℕ, [], ◌∷◌, ◌≤◌, length, ap, arith}
use Rattle.crash_disk.specs.declared.change.Change.TheVariants.{Write}
use Rattle.crash_disk.specs.Disk.{reads_of, overwritten, DiskState}
use Rattle.crash_disk.proofs.Following as calls
use Rattle.gate_journal.specs.Making.{IsAt, IsShort, IsBlankBeside, Changing, read_of}
use Rattle.crash_disk.specs.Torn.{other_file}
use Rattle.gate_journal.proofs.Lifting.{beside_told, done, on_ok, weaken}
use Rattle.gate_journal.proofs.Running.{Run, tries}
use Rattle.gate_journal.proofs.Heads.{head_write, head_is_written}
use Rattle.gate_journal.specs.Calls.{lengthening}
use Rattle.crash_disk.specs.declared.change.Change.{Change}
use Rattle.gate_journal.proofs.making.put_head.Goals as goal
use Rattle.gate_journal.proofs.making.put_head.Goals.{In_ok-lengthen}
use Rattle.gate_journal.proofs.making.put_head.Given.{Over}

lengthened : (g : Over) (c : In_ok-lengthen g) (other : List ℕ) → IfSome (g.D.Disk.shows c.args.disk.now).told (IsShort c.args.file other)
    → Run g.D.Disk.shows (IsBlankBeside c.args.file other) c.args.disk.now c.lengthen.new.disk (IsAt c.args.file c.args.head.now other)
lengthened g c other short = record { moments = c.lengthen.ensures.moments other short; state = c.in_ok-lengthen.ensures.ok other short }

pub write_at-requires : goal.write_at-requires
write_at-requires g c =
    let told0 = (g.D.Disk.shows c.args.disk.now).told in
    let other = read_of told0 (other_file c.args.file) in
    let run = lengthened g (goal.at.write_at-requires g c).In_ok-lengthen other (beside_told told0 c.args.file (IsShort c.args.file) c.requires.short) in
    weaken (g.D.Disk.shows c.lengthen.new.disk).told (IsAt c.args.file c.args.head.now other) (λ d. 71 ≤ length (reads_of d c.args.file)) run.state (λ d is. omega (arith, ap length is.reads, c.requires.head.long))

pub returns-clause-moments : goal.returns-clause-moments
returns-clause-moments g c other short =
    let run = lengthened g (goal.at.returns-clause-moments g c).In_ok-lengthen other short in
    tries c.write_at.new.self run (Write c.args.file 71 (0 ∷ [])) c.write_at.result c.write_at.ensures.time c.write_at.ensures.changes (g.met.D.Disk.reads_an_image c.lengthen.new.disk)
    (λ d reads is. head_write c.args.file other c.args.head.now c.requires.head d is)

pub returns-clause-ok : goal.returns-clause-ok
returns-clause-ok g c = on_ok c.write_at.result _ (λ x is other short.
    let run = lengthened g (goal.at.returns-clause-ok g c).In_ok-lengthen other short in
    done (Write c.args.file 71 (0 ∷ [])) (g.D.Disk.shows c.lengthen.new.disk).told (g.D.Disk.shows c.write_at.new.self).told (IsAt c.args.file c.args.head.now other)
    (Changing (IsBlankBeside c.args.file other) c.args.file (overwritten c.args.head.now 71 (0 ∷ [])) other) (rw is at c.write_at.ensures.changes)
    (g.met.D.Disk.reads_an_image c.lengthen.new.disk) run.state (λ d reads is. head_is_written c.args.file other c.args.head.now c.requires.head d is))

-- THE CHANGING CALLS

pub returns-in_err-lengthen-clause-calls : goal.returns-in_err-lengthen-clause-calls
returns-in_err-lengthen-clause-calls g c =
    calls.breaks_off {T = Unit {0}} _ c.in_err-lengthen.field-0.0 c.from_residual.result (λ _. lengthening c.args.file c.args.head.now)
    (λ _. Write c.args.file 71 (0 ∷ []) ∷ []) c.args.disk.now c.lengthen.new.disk c.from_residual.ensures.1 c.in_err-lengthen.ensures.calls

pub returns-clause-calls : goal.returns-clause-calls
returns-clause-calls g c =
    let d1 = c.lengthen.new.disk in
    let plan : DiskState → List Change = λ _. lengthening c.args.file c.args.head.now in
    calls.tries (Write c.args.file 71 (0 ∷ [])) c.write_at.result plan c.args.disk.now d1 c.write_at.new.self
    (calls.made c.in_ok-lengthen.field-0 plan c.args.disk.now d1 c.in_ok-lengthen.ensures.calls) (g.met.D.Disk.only_now d1) (g.met.D.Disk.reads_an_image d1)
    c.write_at.ensures.changes c.write_at.ensures.time
