use Rattle.hub_runs.proofs.Headlines.{over_starts}
use Rattle.hub_runs.proofs.laws.the_headline_holds_over_starts.Goals as goal

pub returns : goal.returns
returns c =
    over_starts (record {
      none_own = c.no_definition_gives_an_own_code.ensures;
      only = c.a_login_is_passed_on_exactly.ensures.only;
      wherever = c.a_login_is_passed_on_exactly.ensures.wherever;
      back = c.each_login_goes_back_to_its_request.ensures.goes;
      askers = c.each_request_upwards_is_of_one_below.ensures.asked;
      refusals = c.each_request_upwards_is_of_one_below.ensures.refused;
      signed = c.each_signed_element_is_of_a_record.ensures;
      unrecorded = c.no_other_page_is_unrecorded.ensures;
      recorded = c.what_is_answered_is_recorded.ensures;
      passive = c.nothing_is_asked_of_a_user_who_may_not_be_asked.ensures;
      above_signed = c.each_login_is_of_one_above.ensures.signed;
      above_recorded = c.each_login_is_of_one_above.ensures.recorded;
      starved = c.what_is_visible_stays.ensures;
    }) c.what_is_acknowledged_is_kept_once_over_starts.ensures.any
    c.what_is_acknowledged_is_kept_once_over_starts.ensures.at c.each_session_below_is_of_a_login_above.ensures
