use Rattle.assertion_model.proofs.ToldMoments.{answer_is}
use Rattle.meta_registry.proofs.registry.moment.Goals as goal

pub returns : goal.returns
returns c = answer_is c.args.text.now c.read_instant.result c.read_instant.ensures.found c.read_instant.ensures.each
