use Rattle.hub_runs.proofs.Back.{each_goes_back, in_each_image}
use Rattle.hub_runs.proofs.laws.each_login_goes_back_to_its_request.Goals as goal

pub returns : goal.returns
returns c = record {
  goes = each_goes_back c.a_login_is_passed_on_exactly.ensures.only;
  images = in_each_image c.images_hold_records.ensures c.each_login_has_its_request.ensures;
}
