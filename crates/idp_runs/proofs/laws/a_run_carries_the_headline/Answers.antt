use Rattle.idp_runs.proofs.Headlines.{headline}
use Rattle.idp_runs.proofs.laws.a_run_carries_the_headline.Goals as goal

pub returns : goal.returns
returns g c = λ disk. headline (record {
  none_own = c.no_definition_gives_an_own_code.ensures;
  users = c.each_issue_has_a_password_or_a_session.ensures.answers;
  askers = c.each_question_has_an_asker.ensures.questions;
  refusals = c.each_question_has_an_asker.ensures.refusals;
  signed = c.each_signed_element_is_of_a_record.ensures;
  unrecorded = c.no_other_page_is_unrecorded.ensures;
  recorded = c.what_is_answered_is_recorded.ensures;
  only = c.a_session_is_ended_exactly.ensures.answers;
  services = c.a_session_is_ended_exactly.ensures.services;
  wherever_left = c.a_session_is_ended_exactly.ensures.wherever_left;
  wherever_ended = c.a_session_is_ended_exactly.ensures.wherever_ended;
  before = c.sessions_end_before_the_answer.ensures;
  begins = c.a_round_ends_as_confirmed.ensures.begins;
  rounds = c.a_round_ends_as_confirmed.ensures.ends;
  once = c.rounds_ask_in_turn.ensures;
  hold = c.images_hold_records.ensures;
  kept = c.what_is_acknowledged_is_kept.ensures;
  ended = c.sessions_stay_ended_in_a_service.ensures;
  stay = c.sessions_stay_in_a_service.ensures;
  as_left = c.what_was_begun_is_as_left.ensures;
  starved = c.what_is_visible_stays.ensures;
}) (g.D.Disk.shows disk).left_since
