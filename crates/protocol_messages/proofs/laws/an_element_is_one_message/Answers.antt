use Rattle.protocol_messages.proofs.OneMessage.{one_kind, one_authn, one_response, one_logout_request, one_logout_response}
use Rattle.protocol_messages.proofs.laws.an_element_is_one_message.Goals as goal

pub returns-clause-kind : goal.returns-clause-kind
returns-clause-kind c = one_kind

pub returns-clause-authn : goal.returns-clause-authn
returns-clause-authn c = one_authn

pub returns-clause-response : goal.returns-clause-response
returns-clause-response c = one_response

pub returns-clause-request : goal.returns-clause-request
returns-clause-request c = one_logout_request

pub returns-clause-logged_out : goal.returns-clause-logged_out
returns-clause-logged_out c = one_logout_response
