use Rattle.idp_answers.proofs.Texts.{letter_text}
use Rattle.provider_tests.proofs.idp_answers_tests.there_is_memory_for_each_answer.Goals as goal

pub issued_answer-requires-clause-message : goal.issued_answer-requires-clause-message
issued_answer-requires-clause-message c = letter_text

pub issued_answer-requires-clause-consumer : goal.issued_answer-requires-clause-consumer
issued_answer-requires-clause-consumer c = letter_text
