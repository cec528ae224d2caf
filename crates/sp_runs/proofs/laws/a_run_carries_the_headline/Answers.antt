use Rattle.sp_runs.proofs.Headlines.{headline}
use Rattle.sp_runs.proofs.laws.a_run_carries_the_headline.Goals as goal

pub returns : goal.returns
returns g c = λ disk.
    headline (record {
      none_own = c.no_definition_gives_an_own_code.ensures;
      opens_only = c.a_session_opens_exactly.ensures.only;
      opens_wherever = c.a_session_opens_exactly.ensures.wherever;
      signed = c.each_session_was_signed.ensures;
      only_left = c.a_session_is_closed_exactly.ensures.only_left;
      only_ended = c.a_session_is_closed_exactly.ensures.only_ended;
      nothing_else = c.a_session_is_closed_exactly.ensures.nothing_else;
      wherever_left = c.a_session_is_closed_exactly.ensures.wherever_left;
      wherever_ended = c.a_session_is_closed_exactly.ensures.wherever_ended;
      posted = c.what_is_answered_is_recorded.ensures.posted;
      requested = c.what_is_answered_is_recorded.ensures.asked;
      guard_tells = c.a_guard_tells_exactly.ensures.tells;
      guard_only = c.a_guard_tells_exactly.ensures.only;
      hold = c.images_hold_records.ensures;
      kept = c.what_a_run_acknowledged_is_kept_once.ensures;
      closed = c.sessions_stay_closed_in_a_run.ensures;
      stay = c.sessions_stay_in_a_service.ensures;
      as_left = c.what_was_opened_is_as_left.ensures;
      starved = c.what_is_visible_stays.ensures;
      tells = c.a_registry_tells_and_ends.ensures.tells;
      same = c.a_registry_tells_and_ends.ensures.same;
      ends = c.a_registry_tells_and_ends.ensures.ends;
      adds_none = c.a_registry_tells_and_ends.ensures.adds_none;
      asks = c.a_registry_tells_and_ends.ensures.asks;
      without = c.a_registry_tells_and_ends.ensures.without;
      shown = c.a_session_is_shown_by_its_row.ensures.shown;
    }) (g.D.Disk.shows disk).left_since
