use Rattle.std.proofs.Common.{subst}
use Rattle.xml_spec.specs.Characters.{IsText}
use Rattle.logout_answers.proofs.Addresses.{same_address}
use Rattle.logout_answers.proofs.Texts.{letter_text}
use Rattle.provider_tests.proofs.logout_answers_tests.there_is_memory_for_each_answer.Goals as goal

pub leaving_answer-requires-clause-address : goal.leaving_answer-requires-clause-address
leaving_answer-requires-clause-address c x is = subst IsText (same_address c.in_ok-peer.peer.peer.logout _ x c.in_ok-peer.ensures is) letter_text

pub leaving_answer-requires-clause-id : goal.leaving_answer-requires-clause-id
leaving_answer-requires-clause-id c = letter_text

pub leaving_answer-requires-clause-issuer : goal.leaving_answer-requires-clause-issuer
leaving_answer-requires-clause-issuer c = letter_text

pub leaving_answer-requires-clause-name : goal.leaving_answer-requires-clause-name
leaving_answer-requires-clause-name c = letter_text

pub ending_answer-requires-clause-address : goal.ending_answer-requires-clause-address
ending_answer-requires-clause-address c x is = subst IsText (same_address c.in_ok-peer.peer.peer.logout _ x c.in_ok-peer.ensures is) letter_text

pub ending_answer-requires-clause-id : goal.ending_answer-requires-clause-id
ending_answer-requires-clause-id c = letter_text

pub ending_answer-requires-clause-issuer : goal.ending_answer-requires-clause-issuer
ending_answer-requires-clause-issuer c = letter_text

pub ending_answer-requires-clause-request : goal.ending_answer-requires-clause-request
ending_answer-requires-clause-request c = letter_text
