use Rattle.record_ledger.proofs.OpenLaws.{own_broken, broken_own}
use Rattle.record_ledger.proofs.ledger.RecordLedger.reopen.Goals as goal

pub returns-in-Err-clause-own_err : goal.returns-in-Err-clause-own_err
returns-in-Err-clause-own_err g c own =
    own_broken g.S.Standing.rules (g.D.Disk.shows c.open_both.new.disk).told (c.in-Err.ensures.err (broken_own g.S.Standing.rules (g.D.Disk.shows c.args.disk.now).told own))
