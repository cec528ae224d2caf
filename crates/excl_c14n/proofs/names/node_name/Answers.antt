use Rattle.std.proofs.Common.{[], unwrap_or, sym, ap, ◌∙◌}
use Rattle.excl_c14n.proofs.names.node_name.Goals as goal

pub returns : goal.returns
returns c = c.written.ensures ∙ c.as_str.ensures ∙ sym (ap (λ o. unwrap_or o []) c.written_name.ensures)
