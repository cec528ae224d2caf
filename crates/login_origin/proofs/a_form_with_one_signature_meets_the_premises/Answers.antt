use Rattle.login_origin.proofs.Meeting.{premises_are_met}
use Rattle.login_origin.proofs.a_form_with_one_signature_meets_the_premises.Goals as goal

pub returns : goal.returns
returns c = premises_are_met
