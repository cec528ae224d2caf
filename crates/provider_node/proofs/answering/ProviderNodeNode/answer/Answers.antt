use Rattle.std.proofs.Common.{◌≡◌, ℕ, true, refl, sym, subst}
use Rattle.crash_disk.specs.Counts.{Rose}
use Rattle.crash_disk.specs.Steps.{then, weaker}
use Rattle.http_wire.specs.Views.{request_view}
use Rattle.http_wire.specs.declared.answer.Answer.TheVariants.{Fixed}
use Rattle.record_ledger.specs.Calls.{opening}
use Rattle.gate_journal.specs.declared.fault.OpenFault.{OpenFault}
use Rattle.provider_node.specs.Calls.{OpeningLeaves}
use Rattle.provider_node.specs.Serving.{code_of}
use Rattle.provider_node.specs.Step.{InLedger, InOpened, InOpening, Provider, ServingLeaves, StepLeaves, StepsOnDisk}
use Rattle.provider_node.specs.Step.{WithLedger, WithOpened, provider, seen}
use Rattle.provider_node.proofs.Behind.{serves_from, unopened}
use Rattle.provider_node.proofs.Calling.{carried_err, carried_ok, opening_leaves}
use Rattle.provider_node.proofs.Reopening.{stands}
use Rattle.provider_node.proofs.Serving.{rose_later}
use Rattle.provider_node.proofs.answering.ProviderNodeNode.answer.Goals as goal

pub returns-then-not-is_broken-clause-step : goal.returns-then-not-is_broken-clause-step
returns-then-not-is_broken-clause-step g c = let rules = g.R.Rows.Standing.rules in
    let new = provider c.self.inside.role (seen c.answer_whole.new.ledger) in
    let done = c.answer_whole.ensures.serves in
    subst (λ (p : Provider g.row.R.Denot g.row.R-Rows-Record.Denot).
    StepsOnDisk rules g.R.Role.answers p (g.D.Disk.shows c.args.disk.now).told (request_view c.args.request.now)
    c.args.now (Rose (g.D.Disk.shows c.args.disk.now).faults (g.D.Disk.shows c.answer_whole.new.disk).faults)
    c.answer_whole.result new (g.D.Disk.shows c.answer_whole.new.disk).told) c.self.view_is
    (record { step = WithLedger (sym c.if-not-is_broken.ensures) done.serves; calls = done.calls })

pub returns-then-not-is_broken-clause-moments : goal.returns-then-not-is_broken-clause-moments
returns-then-not-is_broken-clause-moments g c = let rules = g.R.Rows.Standing.rules in
    let request = request_view c.args.request.now in
    let told = (g.D.Disk.shows c.args.disk.now).told in
    weaker g.D.Disk.shows c.args.disk.now c.answer_whole.new.disk _
    (StepLeaves rules g.R.Role.answers c.args.self.now told request c.args.now) c.answer_whole.ensures.moments
    (λ image left. subst (λ (p : Provider g.row.R.Denot g.row.R-Rows-Record.Denot). StepLeaves rules
    g.R.Role.answers p told request c.args.now image) c.self.view_is (InLedger (sym c.if-not-is_broken.ensures) left))

pub returns-in-Err-clause-step : goal.returns-in-Err-clause-step
returns-in-Err-clause-step g c = let rules = g.R.Rows.Standing.rules in
    let request = request_view c.args.request.now in
    let told = (g.D.Disk.shows c.args.disk.now).told in
    let later = (g.D.Disk.shows c.reopen.new.disk).told in
    let old = provider c.self.inside.role (seen c.self.inside.ledger) in
    let new = provider c.self.inside.role (seen c.reopen.new.self) in
    let Risen : Type 0 = Rose (g.D.Disk.shows c.args.disk.now).faults (g.D.Disk.shows c.reopen.new.disk).faults in
    let e = c.in-Err.ensures in
    subst (λ (code : ℕ). StepsOnDisk rules g.R.Role.answers c.args.self.now told request c.args.now Risen (Fixed code)
    new later) (sym c.code_of.ensures) (subst (λ (p : Provider g.row.R.Denot g.row.R-Rows-Record.Denot). StepsOnDisk
    rules g.R.Role.answers p told request c.args.now Risen (Fixed (code_of c.in-Err.fault)) new later) c.self.view_is
    (unopened rules g.R.Role.answers old new told later request c.args.now Risen c.in-Err.fault new.ledger.held
    (sym c.if-not-is_broken.ensures) e.gives (record { setup = refl; key = c.reopen.ensures.key; is_broken = e.err.1 })
    e.faults.failed (carried_err (Unit {0}) OpenFault (opening rules) told later c.in-Err.fault e.calls.ends)))

pub returns-clause-step : goal.returns-clause-step
returns-clause-step g c = let rules = g.R.Rows.Standing.rules in
    let request = request_view c.args.request.now in
    let told = (g.D.Disk.shows c.args.disk.now).told in
    let opened = (g.D.Disk.shows c.reopen.new.disk).told in
    let later = (g.D.Disk.shows c.answer_whole-2.new.disk).told in
    let old = provider c.self.inside.role (seen c.self.inside.ledger) in
    let found = seen c.reopen.new.self in
    let new = provider c.self.inside.role (seen c.answer_whole-2.new.ledger) in
    let broken : old.ledger.broken ≡ true = sym c.if-not-is_broken.ensures in
    let done = serves_from rules g.R.Role.answers found.held old (provider c.self.inside.role found) new
    request c.args.now _ _ c.answer_whole-2.result opened later (record { setup = refl; key = c.reopen.ensures.key })
    (rose_later (g.D.Disk.shows c.args.disk.now).faults (g.D.Disk.shows c.reopen.new.disk).faults (g.D.Disk.shows
    c.answer_whole-2.new.disk).faults c.in_default.ensures.faults.never_falls) c.answer_whole-2.ensures.serves in
    subst (λ (p : Provider g.row.R.Denot g.row.R-Rows-Record.Denot). StepsOnDisk rules g.R.Role.answers p told
    request c.args.now (Rose (g.D.Disk.shows c.args.disk.now).faults (g.D.Disk.shows c.answer_whole-2.new.disk).faults)
    c.answer_whole-2.result new later) c.self.view_is (record {
      step = WithOpened found.held broken
          (stands rules told found.held c.in_default.field-0 c.in_default.ensures.gives) done.serves;
      calls = (
        opened,
        carried_ok
            (Unit {0}) OpenFault (opening rules) told opened c.in_default.field-0 c.in_default.ensures.calls.ends,
        done.calls,
      );
    })

pub returns-clause-moments : goal.returns-clause-moments
returns-clause-moments g c = let rules = g.R.Rows.Standing.rules in
    let request = request_view c.args.request.now in
    let told = (g.D.Disk.shows c.args.disk.now).told in
    let opened = (g.D.Disk.shows c.reopen.new.disk).told in
    let found = seen c.reopen.new.self in
    let broken : (seen c.self.inside.ledger).broken ≡ true = sym c.if-not-is_broken.ensures in
    then g.D.Disk.shows c.args.disk.now c.reopen.new.disk c.answer_whole-2.new.disk (OpeningLeaves rules told)
    (ServingLeaves rules g.R.Role.answers c.self.inside.role found.held request c.args.now opened)
    (StepLeaves rules g.R.Role.answers c.args.self.now told request c.args.now) (opening_leaves g.D.Disk.shows
    rules c.args.disk.now c.reopen.new.disk _ c.in_default.ensures.moments c.in_default.ensures.calls)
    c.answer_whole-2.ensures.moments (λ image left. subst (λ (p : Provider g.row.R.Denot g.row.R-Rows-Record.Denot).
    StepLeaves rules g.R.Role.answers p told request c.args.now image) c.self.view_is (InOpening broken left))
    (λ image left. subst (λ (p : Provider g.row.R.Denot g.row.R-Rows-Record.Denot).
    StepLeaves rules g.R.Role.answers p told request c.args.now image) c.self.view_is (InOpened found.held
    opened broken (stands rules told found.held c.in_default.field-0 c.in_default.ensures.gives) (carried_ok
    (Unit {0}) OpenFault (opening rules) told opened c.in_default.field-0 c.in_default.ensures.calls.ends) left))
