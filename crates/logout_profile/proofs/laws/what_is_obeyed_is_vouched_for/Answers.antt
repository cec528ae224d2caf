use Rattle.logout_profile.proofs.RootKeys.{of_keys}
use Rattle.logout_profile.proofs.laws.what_is_obeyed_is_vouched_for.Goals as goal

pub returns : goal.returns
returns c peers second address skew now body logout is = of_keys is.peer.key_in second is.carried.tree is.key is.vouched
