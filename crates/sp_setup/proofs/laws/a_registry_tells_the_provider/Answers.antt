use Rattle.sp_setup.proofs.Registries.{told_by_registry, endless_without}
use Rattle.sp_setup.proofs.laws.a_registry_tells_the_provider.Goals as goal

pub returns : goal.returns
returns c =
    record { tells = told_by_registry c.no_role_is_named_twice.ensures c.a_peer_is_read_from_a_listed_descriptor.ensures; without = endless_without }
