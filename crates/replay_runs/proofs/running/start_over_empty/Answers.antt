use Rattle.replay_runs.proofs.Starting.{is_started}
use Rattle.replay_runs.proofs.running.start_over_empty.Goals as goal

pub returns-clause-started : goal.returns-clause-started
returns-clause-started g c =
    let rules = g.R.Rows.Standing.rules in
    let is = c.in-Ok.ensures in
    is_started rules c.in-Ok.node c.args.disk.now c.start.new.disk c.without_faults.new.disk c.requires
    c.without_faults.ensures is.gives is.whole is.own is.moments.calls is.calls.ends
