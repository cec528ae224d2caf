use Rattle.std.proofs.Common.{◌≡◌, ◌∙◌, [], ap, refl, sym, subst, rules, Err, List, Result}
use Rattle.conn_table.specs.Table.{Table}
use Rattle.schedules.specs.declared.step.Step.{Step}
use Rattle.schedule_replay.specs.declared.fault.ReplayFault.{ReplayFault}
use Rattle.schedule_replay.specs.declared.fault.ReplayFault.TheVariants.{NoMemory}
use Rattle.schedule_replay.specs.declared.tally.Tally.{Tally}
use Rattle.schedule_replay.specs.Deployments.{Deployment}
use Rattle.schedule_replay.specs.Hosts.{Host}
use Rattle.schedule_replay.specs.Runs.{AreLeft, alone, beginning}
use Rattle.schedule_replay.specs.Views.{HasNodes, stage_in}
use Rattle.schedule_replay.proofs.Replaying.{Ended, ends_so, is_beginning, printed_none}
use Rattle.schedule_replay.proofs.running.replay.Goals as goal

pub returns-in_err-sp_conns-clause-ends : goal.returns-in_err-sp_conns-clause-ends
returns-in_err-sp_conns-clause-ends g c =
    let sp = g.S.Node.rules in
    let idp = g.P.Node.rules in
    let same : c.from_residual.result ≡ Err NoMemory = search rules in
    let first = beginning (alone c.args.sp.now c.args.sp_disk.now) (alone c.args.idp.now c.args.idp_disk.now) in
    let taken = g.K.Sink.taken c.args.out.now in
    subst
    (λ (r : Result Tally ReplayFault). Ended sp idp c.args.schedule.now c.args.quiet first
    (λ last. AreLeft last c.args.sp.now c.args.sp_disk.now c.args.idp.now c.args.idp_disk.now) r taken taken)
    (sym same)
    (record { done = 0; text = []; last = first; replays = (refl, refl) }, printed_none c.args.quiet taken, λ fed. absurd (fed refl))

pub returns-clause-ends : goal.returns-clause-ends
returns-clause-ends g c =
    let sp = g.S.Node.rules in
    let idp = g.P.Node.rules in
    let first = beginning (alone c.args.sp.now c.args.sp_disk.now) (alone c.args.idp.now c.args.idp_disk.now) in
    let now = stage_in c.perform.new.self in
    let before = g.K.Sink.taken c.args.out.now in
    let after = g.K.Sink.taken c.perform.new.out in
    let result = c.perform.result in
    let begins = is_beginning _ c.args.sp.now c.args.sp_disk.now c.args.idp.now c.args.idp_disk.now refl
    (ap (λ (t : Table). record (alone c.args.sp.now c.args.sp_disk.now) { kept = t }) c.in_ok-sp_conns.ensures.0)
    (ap (λ (t : Table). record (alone c.args.idp.now c.args.idp_disk.now) { kept = t }) c.in_ok-sp_conns.ensures.1)
    c.new-agents.ensures c.new.ensures c.new-lines.ensures.items in
    ends_so sp idp c.args.schedule.now c.args.quiet first (λ last. HasNodes last now)
    (λ last. AreLeft last c.sp-1.given.0 c.sp_disk-1.given.0 c.idp-1.given.0 c.idp_disk-1.given.0) result before after
    (λ last has. record {
      sp = c.sp-1.given.1 (sym c.perform.ensures.sp_node) ∙ ap (λ (host : Host g.row.S.Denot). host.node) has.sp;
      sp_disk = c.sp_disk-1.given.1 (sym c.perform.ensures.sp_disk) ∙ ap (λ (host : Host g.row.S.Denot). host.disk) has.sp;
      idp = c.idp-1.given.1 (sym c.perform.ensures.idp_node) ∙ ap (λ (host : Host g.row.P.Denot). host.node) has.idp;
      idp_disk = c.idp_disk-1.given.1 (sym c.perform.ensures.idp_disk) ∙ ap (λ (host : Host g.row.P.Denot). host.disk) has.idp;
    })
    (subst (λ (steps : List Step). Ended sp idp steps c.args.quiet first (λ last. HasNodes last now) result before after) c.steps.ensures.steps
    (subst (λ (d : Deployment g.row.S.Denot g.row.P.Denot). Ended sp idp c.steps.result.now c.args.quiet d (λ last. HasNodes last now) result before after)
    begins c.perform.ensures.ends))
