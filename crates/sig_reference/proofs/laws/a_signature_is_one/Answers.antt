use Rattle.sig_reference.proofs.OneSignature.{one_first_signature, one_signature}
use Rattle.sig_reference.proofs.laws.a_signature_is_one.Goals as goal

pub returns-clause-behind_issuer : goal.returns-clause-behind_issuer
returns-clause-behind_issuer c = one_signature

pub returns-clause-in_front : goal.returns-clause-in_front
returns-clause-in_front c = one_first_signature
