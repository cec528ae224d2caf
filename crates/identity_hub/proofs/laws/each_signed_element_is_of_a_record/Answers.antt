use Rattle.identity_hub.proofs.Signed.{carries}
use Rattle.identity_hub.proofs.laws.each_signed_element_is_of_a_record.Goals as goal

pub returns : goal.returns
returns c = carries c.a_response_is_signed_by_its_mode.ensures
