use Rattle.std.proofs.Common.{ap, ◌∙◌, ℕ, List, Option}
use Rattle.schedule_replay.specs.Deployments.{shows}
use Rattle.schedule_replay.specs.Views.{stage_in}
use Rattle.schedule_replay.proofs.Arriving.{where_ok}
use Rattle.schedule_replay.proofs.stage.Stage.compact.Goals as goal

pub returns-clause-ok : goal.returns-clause-ok
returns-clause-ok g c =
    let ended = c.in_ok-shown.ensures.ends in
    let behind = stage_in c.compaction.new.self in
    where_ok c.show.result c.show.ensures.ok
    (λ is. record {
      known = ended.0;
      behind = behind;
      ends = ended.2;
      shown = is ∙ ap (λ (words : Option (List ℕ)). shows c.args.number c.args.site words behind) ended.1;
    })
