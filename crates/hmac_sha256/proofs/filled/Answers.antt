use Rattle.std.proofs.lemmas.List.{drop-replicate}
use Rattle.hmac_sha256.proofs.filled.Goals as goal

pub returns : goal.returns
returns c = simp (c.copy_from_slice.ensures.after, drop-replicate)
