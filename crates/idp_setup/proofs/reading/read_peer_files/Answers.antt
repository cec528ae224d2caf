use Rattle.std.proofs.Common.{◌≤◌, inl, inr, refl, arith}
use Rattle.metadata.specs.declared.peer.Role.TheVariants.{Sp}
use Rattle.sp_setup.specs.Faults.{IsFaultOf}
use Rattle.sp_setup.specs.Files.{key_file, metadata_file}
use Rattle.sp_setup.proofs.Telling.{handed_on, wider}
use Rattle.idp_setup.specs.Setup.{peer_of}
use Rattle.idp_setup.proofs.reading.read_peer_files.Goals as goal

pub returns-in_err-peer-clause-err : goal.returns-in_err-peer-clause-err
returns-in_err-peer-clause-err g c =
    let held = g.F.Files.holds c.args.files.now in
    let names = c.args.names.now in
    let before = g.F.Files.faults_of c.args.files.now in
    let now = g.F.Files.faults_of c.read_metadata.new.files in
    let fault = rw c.as_str.ensures at c.in_err-peer.ensures.err in
    handed_on (IsFaultOf ((peer_of names).fails held) before now) c.from_residual.result c.in_err-peer.field-0.0 c.from_residual.ensures.1
    (wider ((metadata_file Sp names.metadata).fails held) ((peer_of names).fails held) before before now c.in_err-peer.field-0.0 (omega arith)
    (λ file line h. inl h) fault)

pub returns-in_err-key_in-clause-err : goal.returns-in_err-key_in-clause-err
returns-in_err-key_in-clause-err g c =
    let held = g.F.Files.holds c.args.files.now in
    let names = c.args.names.now in
    let before = g.F.Files.faults_of c.args.files.now in
    let middle = g.F.Files.faults_of c.read_metadata.new.files in
    let now = g.F.Files.faults_of c.read_key.new.files in
    let metadata = rw c.as_str.ensures at c.in_ok-peer.ensures.ok in
    let fault = rw (c.as_str-2.ensures, c.in_ok-peer.ensures.same) at c.in_err-key_in.ensures.err in
    handed_on (IsFaultOf ((peer_of names).fails held) before now) c.from_residual-in_err-key_in.result c.in_err-key_in.field-0.0
    c.from_residual-in_err-key_in.ensures.1
    (wider ((key_file names.key_in).fails held) ((peer_of names).fails held) before middle now c.in_err-key_in.field-0.0 c.in_ok-peer.ensures.never_falls
    (λ file line h. inr (c.in_ok-peer.peer, metadata, inl h)) fault)

pub returns-in_err-key_out-clause-err : goal.returns-in_err-key_out-clause-err
returns-in_err-key_out-clause-err g c =
    let held = g.F.Files.holds c.args.files.now in
    let names = c.args.names.now in
    let before = g.F.Files.faults_of c.args.files.now in
    let middle = g.F.Files.faults_of c.read_key.new.files in
    let now = g.F.Files.faults_of c.read_key-2.new.files in
    let metadata = rw c.as_str.ensures at c.in_ok-peer.ensures.ok in
    let key_in = rw (c.as_str-2.ensures, c.in_ok-peer.ensures.same) at c.in_ok-key_in.ensures.ok in
    let fault = rw (c.as_str-3.ensures, c.in_ok-key_in.ensures.same, c.in_ok-peer.ensures.same) at c.in_err-key_out.ensures.err in
    let later : before ≤ middle = omega (arith, c.in_ok-peer.ensures.never_falls, c.in_ok-key_in.ensures.never_falls) in
    handed_on (IsFaultOf ((peer_of names).fails held) before now) c.from_residual-in_err-key_out.result c.in_err-key_out.field-0.0
    c.from_residual-in_err-key_out.ensures.1
    (wider ((key_file names.key_out).fails held) ((peer_of names).fails held) before middle now c.in_err-key_out.field-0.0 later
    (λ file line h. inr (c.in_ok-peer.peer, metadata, inr (c.in_ok-key_in.key_in, key_in, inl h))) fault)

pub returns-clause-ok : goal.returns-clause-ok
returns-clause-ok g c =
    let metadata = rw c.as_str.ensures at c.in_ok-peer.ensures.ok in
    let key_in = rw (c.as_str-2.ensures, c.in_ok-peer.ensures.same) at c.in_ok-key_in.ensures.ok in
    let key_out = rw (c.as_str-3.ensures, c.in_ok-key_in.ensures.same, c.in_ok-peer.ensures.same) at c.in_ok-key_out.ensures.ok in
    (c.in_ok-peer.peer, metadata, (c.in_ok-key_in.key_in, key_in, (c.in_ok-key_out.key_out, key_out, refl)))
