use Rattle.post_binding.proofs.Markup.{pages_have_their_own_markup}
use Rattle.post_binding.proofs.laws.pages_have_their_own_markup.Goals as goal

pub returns : goal.returns
returns c = pages_have_their_own_markup
