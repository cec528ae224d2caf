use Rattle.std.proofs.Common.{ap, ◌∙◌, ℕ, List, Option}
use Rattle.schedule_replay.specs.declared.tally.Tally.{Tally}
use Rattle.schedule_replay.specs.Counting.{restarted}
use Rattle.schedule_replay.specs.Deployments.{shows}
use Rattle.schedule_replay.specs.Hosts.{Known, Restarts}
use Rattle.post_agent.specs.Views.{text_view}
use Rattle.schedule_replay.specs.Views.{stage_in}
use Rattle.schedule_replay.proofs.Arriving.{counted_on, where_ok}
use Rattle.schedule_replay.proofs.stage.Stage.restart.Goals as goal

pub returns-clause-ok : goal.returns-clause-ok
returns-clause-ok g c =
    let sp = g.S.Node.rules in
    let idp = g.P.Node.rules in
    let ended = c.in_ok-shown.ensures.ends in
    let behind = stage_in c.start_again.new.self in
    let number = c.args.number in
    let site = c.args.site in
    where_ok c.show.result c.show.ensures.ok
    (λ is. record {
      known = ended.0;
      behind = record behind { tally = restarted behind.tally };
      ends = counted_on sp idp site (λ _ node. Known node (Restarts node) ended.0) restarted (stage_in c.args.self.now) behind ended.2;
      shown =
          is ∙ ap (λ (t : Tally). shows number site (text_view c.in_ok-shown.shown) (record behind { tally = t })) c.with_restart-self.ensures
          ∙ ap (λ (words : Option (List ℕ)). shows number site words (record behind { tally = restarted behind.tally })) ended.1;
    })
