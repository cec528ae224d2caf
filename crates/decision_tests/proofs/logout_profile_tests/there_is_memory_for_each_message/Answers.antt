use Rattle.std.proofs.Common.{List, ℕ, Option, sym, subst}
use Rattle.std.specs.Prelude.{IsSomeAnd}
use Rattle.xml_spec.specs.Characters.{IsText}
use Rattle.logout_profile.proofs.Texts.{letter_text}
use Rattle.decision_tests.proofs.logout_profile_tests.there_is_memory_for_each_message.Goals as goal

pub logout_request-requires-clause-address : goal.logout_request-requires-clause-address
logout_request-requires-clause-address c = subst (λ (o : Option (List ℕ)). IsSomeAnd o IsText) (sym c.in_ok-peer.ensures) letter_text

pub logout_request-requires-clause-id : goal.logout_request-requires-clause-id
logout_request-requires-clause-id c = letter_text

pub logout_request-requires-clause-issuer : goal.logout_request-requires-clause-issuer
logout_request-requires-clause-issuer c = letter_text

pub logout_request-requires-clause-name : goal.logout_request-requires-clause-name
logout_request-requires-clause-name c = letter_text
