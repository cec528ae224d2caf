use Rattle.std.proofs.Common.{sym, ◌∙◌}
use Rattle.std.proofs.lemmas.Result.{IfOk-weaker}
use Rattle.assertion_model.proofs.PartLemmas.{text_at}
use Rattle.assertion_model.proofs.look.text_of.Goals as goal

pub returns : goal.returns
returns c = IfOk-weaker c.text_of.result _ _ (λ found e. e ∙ sym (text_at c.args.at.doc.now.tree c.args.at.node.0)) c.text_of.ensures
