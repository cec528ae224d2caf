use Rattle.std.proofs.Common.{ap, ◌≡◌, true, false, refl, sym, subst}
use Rattle.crash_disk.specs.Steps.{then, weaker}
use Rattle.record_ledger.specs.Calls.{opening}
use Rattle.gate_journal.specs.declared.fault.OpenFault.{OpenFault}
use Rattle.provider_node.specs.Calls.{CompactingLeaves, OpeningLeaves}
use Rattle.provider_node.specs.Node.{CompactionLeaves, CompactionOf, InCompaction, InCompactionOfOpened, InRestart}
use Rattle.provider_node.specs.Node.{OfLedger, OfOpened}
use Rattle.provider_node.specs.Step.{Provider, provider, seen}
use Rattle.provider_node.proofs.Behind.{compacts_from}
use Rattle.provider_node.proofs.Calling.{carried_ok, compacting_leaves, compaction_calls, opening_leaves}
use Rattle.provider_node.proofs.Reopening.{stands}
use Rattle.provider_node.proofs.Serving.{compacts_found}
use Rattle.provider_node.proofs.answering.ProviderNodeNode.compact.Goals as goal

pub returns-then-not-is_broken-clause-compacts : goal.returns-then-not-is_broken-clause-compacts
returns-then-not-is_broken-clause-compacts g c = let rules = g.R.Rows.Standing.rules in
    let old = provider c.self.inside.role (seen c.self.inside.ledger) in
    let new = provider c.self.inside.role (seen c.compact.new.self) in
    let whole : old.ledger.broken ≡ false = sym c.if-not-is_broken.ensures in
    let e = c.compact.ensures in
    subst (λ (p : Provider g.row.R.Denot g.row.R-Rows-Record.Denot). CompactionOf rules
    p (g.D.Disk.shows c.args.disk.now).told c.args.now c.compact.result new (g.D.Disk.shows c.compact.new.disk).told)
    c.self.view_is (OfLedger whole (compacts_found c.args.now c.compact.result old new whole
    refl e.key e.ok e.failed (λ is. ap seen (e.no_memory is).0) e.not_foreign) (compaction_calls g.D.Disk.shows rules
    c.args.disk.now c.compact.new.disk c.args.now old.ledger.held c.compact.result (λ is. (e.no_memory is).1) e.calls))

pub returns-then-not-is_broken-clause-moments : goal.returns-then-not-is_broken-clause-moments
returns-then-not-is_broken-clause-moments g c = let rules = g.R.Rows.Standing.rules in
    let told = (g.D.Disk.shows c.args.disk.now).told in
    let held = (seen c.self.inside.ledger).held in
    let whole : (seen c.self.inside.ledger).broken ≡ false = sym c.if-not-is_broken.ensures in
    weaker g.D.Disk.shows c.args.disk.now c.compact.new.disk (CompactingLeaves rules c.args.now held told)
    (CompactionLeaves rules c.args.self.now told c.args.now) (compacting_leaves g.D.Disk.shows rules c.args.disk.now
    c.compact.new.disk c.args.now held c.compact.result c.compact.ensures.moments c.compact.ensures.calls)
    (λ image left. subst (λ (p : Provider g.row.R.Denot g.row.R-Rows-Record.Denot).
    CompactionLeaves rules p told c.args.now image) c.self.view_is (InCompaction whole left))

pub returns-clause-compacts : goal.returns-clause-compacts
returns-clause-compacts g c = let rules = g.R.Rows.Standing.rules in
    let told = (g.D.Disk.shows c.args.disk.now).told in
    let old = provider c.self.inside.role (seen c.self.inside.ledger) in
    let found = seen c.reopen.new.self in
    let mid = provider c.self.inside.role found in
    let new = provider c.self.inside.role (seen c.compact-2.new.self) in
    let broken : old.ledger.broken ≡ true = sym c.if-not-is_broken.ensures in
    let e = c.compact-2.ensures in
    let opened = (g.D.Disk.shows c.reopen.new.disk).told in
    subst (λ (p : Provider g.row.R.Denot g.row.R-Rows-Record.Denot). CompactionOf rules p told c.args.now
    c.compact-2.result new (g.D.Disk.shows c.compact-2.new.disk).told) c.self.view_is (OfOpened found.held opened broken
    (stands rules told found.held c.in_ok-reopen.field-0 c.in_ok-reopen.ensures.gives) (carried_ok (Unit {0}) OpenFault
    (opening rules) told opened c.in_ok-reopen.field-0 c.in_ok-reopen.ensures.calls.ends) (compacts_from c.args.now
    found.held old mid new c.compact-2.result (record { setup = refl; key = c.reopen.ensures.key })
    (compacts_found c.args.now c.compact-2.result mid new c.in_ok-reopen.ensures.whole
    refl e.key e.ok e.failed (λ is. ap seen (e.no_memory is).0) e.not_foreign)) (compaction_calls g.D.Disk.shows rules
    c.reopen.new.disk c.compact-2.new.disk c.args.now found.held c.compact-2.result (λ is. (e.no_memory is).1) e.calls))

pub returns-clause-moments : goal.returns-clause-moments
returns-clause-moments g c = let rules = g.R.Rows.Standing.rules in
    let told = (g.D.Disk.shows c.args.disk.now).told in
    let opened = (g.D.Disk.shows c.reopen.new.disk).told in
    let found = seen c.reopen.new.self in
    let broken : (seen c.self.inside.ledger).broken ≡ true = sym c.if-not-is_broken.ensures in
    then g.D.Disk.shows c.args.disk.now c.reopen.new.disk c.compact-2.new.disk (OpeningLeaves rules told)
    (CompactingLeaves rules c.args.now found.held opened) (CompactionLeaves rules c.args.self.now told c.args.now)
    (opening_leaves g.D.Disk.shows rules c.args.disk.now c.reopen.new.disk _ c.in_ok-reopen.ensures.moments
    c.in_ok-reopen.ensures.calls) (compacting_leaves g.D.Disk.shows rules c.reopen.new.disk
    c.compact-2.new.disk c.args.now found.held c.compact-2.result c.compact-2.ensures.moments c.compact-2.ensures.calls)
    (λ image left. subst (λ (p : Provider g.row.R.Denot g.row.R-Rows-Record.Denot).
    CompactionLeaves rules p told c.args.now image) c.self.view_is (InRestart broken left))
    (λ image left. subst (λ (p : Provider g.row.R.Denot g.row.R-Rows-Record.Denot).
    CompactionLeaves rules p told c.args.now image) c.self.view_is (InCompactionOfOpened found.held
    opened broken (stands rules told found.held c.in_ok-reopen.field-0 c.in_ok-reopen.ensures.gives) (carried_ok
    (Unit {0}) OpenFault (opening rules) told opened c.in_ok-reopen.field-0 c.in_ok-reopen.ensures.calls.ends) left))
