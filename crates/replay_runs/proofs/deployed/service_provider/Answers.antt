use Rattle.replay_runs.proofs.Usable.{usable_sp}
use Rattle.replay_runs.proofs.deployed.service_provider.Goals as goal

pub new-requires : goal.new-requires
new-requires c = usable_sp c.in_ok-config.config c.in_ok-config.ensures
