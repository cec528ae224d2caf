use Rattle.std.proofs.Common.{sym, ◌∙◌}
use Rattle.std.proofs.lemmas.Result.{IfOk-weaker}
use Rattle.assertion_model.proofs.ValueLemmas.{value_at}
use Rattle.assertion_model.proofs.look.value_of.Goals as goal

pub returns : goal.returns
returns c =
    IfOk-weaker c.attr_text.result _ _ (λ found e.
    e ∙ sym (value_at c.args.local.now c.args.at.doc.now.tree c.args.at.node.0 c.root.ensures.spelled.names c.args.at.element)) c.attr_text.ensures
