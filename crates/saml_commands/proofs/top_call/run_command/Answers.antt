use Rattle.std.proofs.Common.{refl}
use Rattle.crash_disk.specs.Moments.{Leaves}
use Rattle.crash_disk.specs.Steps.{started}
use Rattle.saml_commands.specs.Serving.{Unserved}
use Rattle.saml_commands.proofs.Completing.{completes, made_whole}
use Rattle.saml_commands.proofs.Replaying.{carries_make, carries_replay, file_leaves, replay_leaves}
use Rattle.saml_commands.proofs.top_call.run_command.Goals as goal

pub returns-in-Canon-clause-ends : goal.returns-in-Canon-clause-ends
returns-in-Canon-clause-ends g c =
    let leaves = started g.D.Disk.shows c.args.disk.now (Leaves (g.D.Disk.shows c.args.disk.now).told) (g.met.D.Disk.only_now c.args.disk.now) in
    rw c.in-Canon.is (Unserved, (refl, refl), tt, c.run_canon.ensures.ends, leaves)

pub returns-in-Vouch-clause-ends : goal.returns-in-Vouch-clause-ends
returns-in-Vouch-clause-ends g c =
    let leaves = started g.D.Disk.shows c.args.disk.now (Leaves (g.D.Disk.shows c.args.disk.now).told) (g.met.D.Disk.only_now c.args.disk.now) in
    rw c.in-Vouch.is (Unserved, (refl, refl), tt, c.run_vouch.ensures.ends, leaves)

pub returns-in-Check-clause-ends : goal.returns-in-Check-clause-ends
returns-in-Check-clause-ends g c =
    let leaves = started g.D.Disk.shows c.args.disk.now (Leaves (g.D.Disk.shows c.args.disk.now).told) (g.met.D.Disk.only_now c.args.disk.now) in
    rw c.in-Check.is (Unserved, (refl, refl), tt, c.run_check.ensures.ends, leaves)

pub returns-in-Records-clause-ends : goal.returns-in-Records-clause-ends
returns-in-Records-clause-ends g c =
    let leaves = started g.D.Disk.shows c.args.disk.now (Leaves (g.D.Disk.shows c.args.disk.now).told) (g.met.D.Disk.only_now c.args.disk.now) in
    rw c.in-Records.is (Unserved, (refl, refl), tt, c.run_records.ensures.ends, leaves)

pub returns-in-Replay-clause-ends : goal.returns-in-Replay-clause-ends
returns-in-Replay-clause-ends g c =
    let told = (g.D.Disk.shows c.args.disk.now).told in
    let leaves = started g.D.Disk.shows c.args.disk.now (Leaves told) (g.met.D.Disk.only_now c.args.disk.now) in
    let (ran, did, ends) = c.run_replay.ensures.ends in
    let both = carries_replay (g.D.Disk.shows c.args.disk.now).left_since (g.F.Files.holds c.args.files.now) c.in-Replay.file.now _ ran did in
    rw c.in-Replay.is
    (ran, both.0, both.1, ends, file_leaves g.D.Disk.shows told c.args.disk.now _ _ ran did leaves)

pub returns-in-Make-clause-ends : goal.returns-in-Make-clause-ends
returns-in-Make-clause-ends g c =
    let told = (g.D.Disk.shows c.args.disk.now).told in
    let leaves = started g.D.Disk.shows c.args.disk.now (Leaves told) (g.met.D.Disk.only_now c.args.disk.now) in
    let (ran, did, ends) = c.run_make.ensures.ends in
    let both = carries_make (g.D.Disk.shows c.args.disk.now).left_since (g.F.Files.holds c.args.files.now) c.in-Make.logins c.in-Make.start _ ran did in
    rw c.in-Make.is
    (ran, both.0, both.1, ends, replay_leaves g.D.Disk.shows told c.args.disk.now _ _ ran did leaves)

pub returns-in-Replay-clause-complete : goal.returns-in-Replay-clause-complete
returns-in-Replay-clause-complete g c =
    rw c.in-Replay.is
    λ (files, steps, tells, schedule) no_read no_write no_link no_disk.
    let (ran, did, ends) = c.run_replay.ensures.ends in
    completes (g.F.Files.holds c.args.files.now) files c.in-Replay.file.now steps tells schedule ran did _ _ c.run_replay.result ends
    (λ e. no_read (c.run_replay.ensures.read_fault e)) (λ e. no_write (c.run_replay.ensures.write_fault e))

pub returns-in-Make-clause-complete : goal.returns-in-Make-clause-complete
returns-in-Make-clause-complete g c =
    λ runnable no_read no_write no_link no_disk.
    made_whole c.run_make.result c.run_make.ensures.either (λ e. no_write (c.run_make.ensures.write_fault e))
