use Rattle.std.proofs.Common.{Err, refl}
use Rattle.schedule_replay.specs.declared.fault.ReplayFault.TheVariants.{NoMemory}
use Rattle.schedule_replay.specs.Runs.{alone, beginning}
use Rattle.replay_runs.proofs.Headlines.{begun, not_begun}
use Rattle.replay_runs.proofs.running.replay_deployed.Goals as goal

pub returns-clause-goes : goal.returns-clause-goes
returns-clause-goes g c =
    let first = beginning (alone c.in-Ok.both.0 c.start_both.new.sp_disk) (alone c.in-Ok.both.1 c.start_both.new.idp_disk) in
    let (ran, ends, left) = c.replay.ensures.ends in
    begun c.the_headline_holds_of_both.ensures c.a_replay_is_starts.ensures c.images_hold_records.ensures c.images_hold_records-2.ensures
    c.args.schedule.now c.args.quiet first c.replay.result (g.K.Sink.taken c.args.out.now) (g.K.Sink.taken c.replay.new.out)
    c.in-Ok.ensures.started ran ends

pub returns-in-Err-clause-goes : goal.returns-in-Err-clause-goes
returns-in-Err-clause-goes g c =
    let taken = g.K.Sink.taken c.args.out.now in
    not_begun c.the_headline_holds_of_both.ensures c.args.schedule.now c.args.quiet (Err NoMemory) taken taken refl refl
