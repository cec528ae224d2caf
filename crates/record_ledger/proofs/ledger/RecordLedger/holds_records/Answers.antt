use Rattle.std.proofs.Common.{ap, subst}
use Rattle.record_ledger.specs.Rules.{StandReady, AreRecords}
use Rattle.record_ledger.specs.Ledger.{OpenedLedger}
use Rattle.record_ledger.proofs.Committing.{stand_are}
use Rattle.record_ledger.proofs.ledger.RecordLedger.holds_records.Goals as goal

pub returns : goal.returns
returns g c =
    subst (AreRecords g.S.Standing.rules) (ap (λ (l : OpenedLedger g.row.S-Record.Denot g.row.S.Denot). l.held.records) c.self.view_is)
    (stand_are g.S.Standing.rules (StandReady g.S.Standing.row_rules) c.self.inside.journal.kept.holds c.self.inside.standing c.self.invariant.0)
