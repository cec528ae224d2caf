use Rattle.post_binding.proofs.Escaped.{escaped_text_is_read_again}
use Rattle.post_binding.proofs.laws.an_escaped_text_is_read_again.Goals as goal

pub returns : goal.returns
returns c = escaped_text_is_read_again
