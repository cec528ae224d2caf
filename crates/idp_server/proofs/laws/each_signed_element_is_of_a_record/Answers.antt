use Rattle.idp_server.proofs.Signed.{each_signed}
use Rattle.idp_server.proofs.laws.each_signed_element_is_of_a_record.Goals as goal

pub returns : goal.returns
returns c = each_signed c.what_an_obeyed_form_says.ensures.at
