use Rattle.replay_runs.proofs.Usable.{usable_idp}
use Rattle.replay_runs.proofs.deployed.identity_provider.Goals as goal

pub new-requires : goal.new-requires
new-requires c = usable_idp c.in_ok-config.config c.in_ok-config.ensures
