use Rattle.std.proofs.Common.{ap, ◌∙◌, sym}
use Rattle.std.specs.Prelude.{is_some}
use Rattle.assertion_model.proofs.ValueLemmas.{value_at}
use Rattle.assertion_model.proofs.LookLemmas.{same_answer}
use Rattle.assertion_model.proofs.look.has_attribute.Goals as goal

pub returns : goal.returns
returns c =
    same_answer _ _ _ c.has_attr.ensures (λ h. h, λ h. h)
    ∙ ap is_some (sym (value_at c.args.local.now c.args.at.doc.now.tree c.args.at.node.0 c.root.ensures.spelled.names c.args.at.element))
