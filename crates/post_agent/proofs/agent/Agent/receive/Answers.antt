use Rattle.post_agent.specs.Views.{answer_view}
use Rattle.post_agent.proofs.Readings.{receives_nothing, receives_answer, receives_page}
use Rattle.post_agent.proofs.agent.Agent.receive.Goals as goal

pub returns-in_default-clause-ok : goal.returns-in_default-clause-ok
returns-in_default-clause-ok c =
    receives_nothing c.args.site c.args.answer.now c.args.self.now c.each_answer_has_one_reading.ensures c.in_default.ensures

pub returns-in-Some-page-clause-ok : goal.returns-in-Some-page-clause-ok
returns-in-Some-page-clause-ok c =
    receives_page c.args.site c.args.answer.now
    (answer_view c.in-Some.answer) c.in_ok-page.page c.in-Some-page.page c.in_ok-cookie.cookie
    c.in_ok-location.location c.args.self.now c.keep_cookie.new.self c.keep_location.new.self c.keep_page.new.self c.seen_of-seen.result
    c.each_answer_has_one_reading.ensures c.in-Some.ensures c.in_ok-page.ensures c.in_ok-cookie.ensures c.in_ok-location.ensures c.seen_of-seen.ensures
    c.keep_cookie.ensures c.keep_location.ensures c.in-Some-page.is c.keep_page.ensures

pub returns-in_default-page-clause-ok : goal.returns-in_default-page-clause-ok
returns-in_default-page-clause-ok c =
    receives_answer c.args.site c.args.answer.now
    (answer_view c.in-Some.answer) c.in_ok-page.page c.in_ok-cookie.cookie c.in_ok-location.location
    c.args.self.now c.keep_cookie.new.self c.keep_location.new.self c.seen_of-seen.result c.each_answer_has_one_reading.ensures c.in-Some.ensures
    c.in_ok-page.ensures c.in_ok-cookie.ensures c.in_ok-location.ensures c.seen_of-seen.ensures c.keep_cookie.ensures c.keep_location.ensures
    c.in_default-page.is
