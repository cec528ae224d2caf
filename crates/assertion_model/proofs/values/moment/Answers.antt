use Rattle.assertion_model.proofs.ToldMoments.{answer_is}
use Rattle.assertion_model.proofs.values.moment.Goals as goal

pub returns-clause-told : goal.returns-clause-told
returns-clause-told c = answer_is c.args.text.now c.read_instant.result c.read_instant.ensures.found c.read_instant.ensures.each
