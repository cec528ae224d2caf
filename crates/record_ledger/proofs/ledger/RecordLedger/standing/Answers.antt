use Rattle.std.proofs.Common.{ap}
use Rattle.record_ledger.specs.Ledger.{OpenedLedger}
use Rattle.record_ledger.proofs.Committing.{stand_for}
use Rattle.record_ledger.specs.Rules.{StandReady}
use Rattle.record_ledger.proofs.ledger.RecordLedger.standing.Goals as goal

pub returns-clause-stands : goal.returns-clause-stands
returns-clause-stands g c =
    (stand_for g.S.Standing.rules (StandReady g.S.Standing.row_rules) c.self.inside.journal.kept c.self.inside.standing c.args.self.now.held.records c.self.invariant.0
    (ap (λ (l : OpenedLedger g.row.S-Record.Denot g.row.S.Denot). l.held.records) c.self.view_is)).0

pub returns-clause-ready : goal.returns-clause-ready
returns-clause-ready g c = c.self.invariant.0.stand.1
