use Rattle.provider_config.proofs.Roles.{different_roles}
use Rattle.provider_config.proofs.laws.no_role_is_named_twice.Goals as goal

pub returns : goal.returns
returns c = different_roles
