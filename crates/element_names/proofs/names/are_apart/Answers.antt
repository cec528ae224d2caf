use Rattle.std.proofs.Common.{List, map, ap, ◌∙◌}
use Rattle.element_names.specs.Keys.{Key, key_view}
use Rattle.element_names.proofs.NameKeys.{written_apart}
use Rattle.element_names.proofs.names.are_apart.Goals as goal

pub returns : goal.returns
returns c =
    c.are_distinct.ensures
    ∙ written_apart _ c.args.attributes.now (ap (λ (keys : List Key). map key_view keys) c.deref_mut.ensures.value ∙ c.in_ok-put_names.ensures)
