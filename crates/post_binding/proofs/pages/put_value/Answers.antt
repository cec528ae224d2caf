use Rattle.post_binding.proofs.Appending.{five_parts}
use Rattle.post_binding.proofs.pages.put_value.Goals as goal

pub returns : goal.returns
returns c =
    five_parts c.markup-3.result c.args.page.now _ _ _ _ _ _ _ _ _ _ c.in_ok-markup.ensures.ok c.in_ok-text.ensures.ok
    c.in_ok-markup-2.ensures.ok c.in_ok-text-2.ensures.ok c.markup-3.ensures.ok
