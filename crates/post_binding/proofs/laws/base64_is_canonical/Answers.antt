use Rattle.post_binding.proofs.Base64.{base64_is_canonical}
use Rattle.post_binding.proofs.laws.base64_is_canonical.Goals as goal

pub returns : goal.returns
returns c = base64_is_canonical
