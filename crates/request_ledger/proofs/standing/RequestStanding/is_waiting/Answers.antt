use Rattle.std.proofs.Common.{◌∙◌}
use Rattle.request_ledger.proofs.StandingRows.{found_waiting}
use Rattle.request_ledger.proofs.standing.RequestStanding.is_waiting.Goals as goal

pub returns : goal.returns
returns c =
    c.is_some.ensures
    ∙ found_waiting c.args.self.now.rows.left c.args.request.now c.waiting_place.result c.waiting_place.ensures.some c.waiting_place.ensures.none
