use Rattle.identity_hub.proofs.Histories.{draws_above}
use Rattle.identity_hub.proofs.replying.HubRoleRole.numbers_are_new.Goals as goal

pub returns : goal.returns
returns c = draws_above
