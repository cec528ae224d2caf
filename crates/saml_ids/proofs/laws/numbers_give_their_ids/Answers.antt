use Rattle.saml_ids.proofs.IdForm.{numbers_give_their_ids}
use Rattle.saml_ids.proofs.laws.numbers_give_their_ids.Goals as goal

pub returns : goal.returns
returns c = numbers_give_their_ids
