use Rattle.std.proofs.Common.{◌∙◌}
use Rattle.request_ledger.proofs.StandingRows.{found_open}
use Rattle.request_ledger.proofs.standing.RequestStanding.is_open.Goals as goal

pub returns : goal.returns
returns c =
    c.is_some.ensures
    ∙ found_open c.args.self.now.rows.opened c.args.token.now c.open_place.result c.open_place.ensures.some c.open_place.ensures.none
