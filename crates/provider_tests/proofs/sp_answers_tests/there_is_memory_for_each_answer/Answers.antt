use Rattle.sp_answers.proofs.Texts.{letter_text}
use Rattle.provider_tests.proofs.sp_answers_tests.there_is_memory_for_each_answer.Goals as goal

pub ask_answer-requires-clause-config : goal.ask_answer-requires-clause-config
ask_answer-requires-clause-config c = c.in_ok-config.ensures

pub ask_answer-requires-clause-id : goal.ask_answer-requires-clause-id
ask_answer-requires-clause-id c = letter_text

pub metadata_answer-requires : goal.metadata_answer-requires
metadata_answer-requires c = c.in_ok-config.ensures
