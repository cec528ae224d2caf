use Rattle.std.proofs.Common.{ap, ◌∙◌}
use Rattle.element_names.specs.Keys.{are_distinct}
use Rattle.element_names.proofs.NameKeys.{expanded_apart}
use Rattle.element_names.proofs.names.are_apart_expanded.Goals as goal

pub returns : goal.returns
returns c =
    c.are_distinct.ensures ∙ ap are_distinct (c.deref_mut.ensures.value ∙ c.in_ok-put_expanded.ensures)
    ∙ expanded_apart c.args.spaces.now.table c.has_each_once.ensures c.args.names.now c.requires
