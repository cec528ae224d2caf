use Rattle.record_ledger.proofs.LoadLaws.{loaded_ready}
use Rattle.record_ledger.proofs.opening.Loaded.ready.Goals as goal

pub returns : goal.returns
returns g c version payloads loaded =
    loaded_ready g.S.Standing.rules g.S.Standing.row_rules version payloads c.args.self.standing c.in_ok-standing.standing c.args.self.payloads.items loaded
    c.in_ok-standing.ensures.stands c.in_ok-standing.ensures.ready
