use Rattle.post_agent.proofs.Readings.{each_answer_has_one_reading}
use Rattle.post_agent.proofs.laws.each_answer_has_one_reading.Goals as goal

pub returns : goal.returns
returns c = each_answer_has_one_reading c.an_escaped_text_holds_no_markup.ensures c.an_escaped_text_is_read_again.ensures
