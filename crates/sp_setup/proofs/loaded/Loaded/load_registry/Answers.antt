use Rattle.std.proofs.Common.{rules, ◌≡◌, Err}
use Rattle.sp_setup.specs.Faults.{IsFaultOf}
use Rattle.sp_setup.specs.Setup.{load_registry}
use Rattle.sp_setup.proofs.Sources.{bad_key, unlisted_here}
use Rattle.sp_setup.proofs.Telling.{if_err_at, told}
use Rattle.sp_setup.proofs.loaded.Loaded.load_registry.Goals as goal

pub returns-in_err-key-clause-err : goal.returns-in_err-key-clause-err
returns-in_err-key-clause-err g c =
    let held = g.F.Files.holds c.args.files.now in
    let line = c.args.line.now in
    let loaded = c.args.self.now in
    let before = g.F.Files.faults_of c.args.files.now in
    let middle = g.F.Files.faults_of c.read_whole.new.files in
    let now = g.F.Files.faults_of c.read_key.new.files in
    let there = rw c.as_str.ensures at c.in_ok-bytes.ensures.ok in
    let key = rw (c.as_str-2.ensures, c.in_ok-bytes.ensures.same) at c.in_err-key.ensures.err in
    let is : c.from_residual-in_err-key.result ≡ Err c.in_err-key.field-0.0 = search rules in
    if_err_at (IsFaultOf ((load_registry line loaded).fails held) before now) c.from_residual-in_err-key.result c.in_err-key.field-0.0 is
    (bad_key held line loaded _ there before middle now c.in_err-key.field-0.0 c.in_ok-bytes.ensures.never_falls key)

pub returns-clause-err : goal.returns-clause-err
returns-clause-err g c =
    let held = g.F.Files.holds c.args.files.now in
    let line = c.args.line.now in
    let loaded = c.args.self.now in
    let there = rw c.as_str.ensures at c.in_ok-bytes.ensures.ok in
    let key = rw (c.as_str-2.ensures, c.in_ok-bytes.ensures.same) at c.in_ok-key.ensures.ok in
    let none = rw (c.if-branch.false, c.deref.ensures.value, c.deref-2.ensures.value, c.as_str-3.ensures) at c.in_ok-take_provider.ensures in
    told ((load_registry line loaded).fails held) (g.F.Files.faults_of c.args.files.now) (g.F.Files.faults_of c.read_key.new.files) line.file 0 c.bad_file.result
    (unlisted_here held line loaded _ there _ key none) (rw c.as_str-else-branch.ensures at c.bad_file.ensures)
