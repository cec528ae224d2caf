use Rattle.std.proofs.Common.{sym, ap, ◌∙◌}
use Rattle.std.proofs.lemmas.Result.{IfOk-weaker}
use Rattle.tree_read.specs.Texts.{trimmed}
use Rattle.assertion_model.proofs.PartLemmas.{text_at}
use Rattle.assertion_model.proofs.look.trimmed_text_of.Goals as goal

pub returns : goal.returns
returns c = IfOk-weaker c.trimmed.result _ _ (λ found e. e ∙ ap trimmed (sym (text_at c.args.at.doc.now.tree c.args.at.node.0))) c.trimmed.ensures
