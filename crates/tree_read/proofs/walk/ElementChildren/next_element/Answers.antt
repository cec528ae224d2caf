use Rattle.tree_read.proofs.Finding.{element_there}
use Rattle.tree_read.proofs.walk.ElementChildren.next_element.Goals as goal

pub next-self-inside-requires : goal.next-self-inside-requires
next-self-inside-requires c = element_there _ _ c.in-Some.ensures.element
