use Rattle.crash_disk.proofs.Following as calls
use Rattle.gate_journal.proofs.Lifting.{always}
use Rattle.gate_journal.specs.Calls.{remaking}
use Rattle.gate_journal.specs.Journal.{made_anew}
use Rattle.record_ledger.specs.Loading.{to_version_2}
use Rattle.record_ledger.proofs.Planned.{version_one}
use Rattle.std.proofs.Common.{sym, ◌∙◌}
use Rattle.record_ledger.proofs.opening.to_version_2.Goals as goal

pub returns-in-1-clause-calls : goal.returns-in-1-clause-calls
returns-in-1-clause-calls g c =
    let kept = c.args.journal.now.kept in
    let payloads = c.args.payloads.now in
    let d0 = c.args.disk.now in
    calls.follows_same c.migrate.result (remaking (made_anew payloads kept.holds.header.horizon kept.holds.header.next kept)) (to_version_2 payloads kept) d0
    c.migrate.new.disk (always (g.D.Disk.shows d0).told _ (λ d. version_one payloads kept (sym c.version.ensures ∙ c.in-1.is) d)) c.migrate.ensures.calls
