use Rattle.idp_answers.proofs.MayStand.{attributes_stand, texts_stand}
use Rattle.idp_answers.proofs.laws.what_is_recorded_may_stand.Goals as goal

pub returns-clause-texts : goal.returns-clause-texts
returns-clause-texts c = texts_stand c.an_allowed_text_may_stand.ensures

pub returns-clause-attributes : goal.returns-clause-attributes
returns-clause-attributes c = attributes_stand c.an_allowed_text_may_stand.ensures
