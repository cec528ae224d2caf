use Rattle.meta_registry.proofs.Covered.{read_from_listed}
use Rattle.meta_registry.proofs.laws.a_peer_is_read_from_a_listed_descriptor.Goals as goal

pub returns : goal.returns
returns c = read_from_listed
