use Rattle.post_binding.proofs.Escaped.{escaped_text_holds_no_markup}
use Rattle.post_binding.proofs.laws.an_escaped_text_holds_no_markup.Goals as goal

pub returns : goal.returns
returns c = escaped_text_holds_no_markup
