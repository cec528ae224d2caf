use Rattle.assertion_model.proofs.LookLemmas.{all_left}
use Rattle.assertion_model.proofs.look.all_children.Goals as goal

pub returns : goal.returns
returns c = λ local. all_left c.args.at c.of.result local c.of.ensures.document c.of.ensures.left
