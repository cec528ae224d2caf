use Rattle.post_binding.proofs.Posting.{what_is_posted_is_read}
use Rattle.post_binding.proofs.laws.what_is_posted_is_read.Goals as goal

pub returns : goal.returns
returns c = what_is_posted_is_read
