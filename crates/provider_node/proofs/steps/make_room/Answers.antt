use Rattle.std.proofs.Common.{ap, refl}
use Rattle.crash_disk.specs.Counts.{Rose}
use Rattle.crash_disk.specs.Steps.{weaker}
use Rattle.http_wire.specs.Views.{request_view}
use Rattle.provider_node.specs.Calls.{CompactingLeaves}
use Rattle.provider_node.specs.Step.{provider, seen}
use Rattle.provider_node.proofs.Behind.{serves_unmade}
use Rattle.provider_node.proofs.Replying.{again_where, answer_of}
use Rattle.provider_node.proofs.Calling.{compacting_leaves, compaction_calls}
use Rattle.provider_node.proofs.Serving.{compacts_found, made_where, room_leaves}
use Rattle.provider_node.proofs.steps.make_room.Goals as goal

pub returns-clause-again : goal.returns-clause-again
returns-clause-again g c =
    again_where g.R.Role.replies g.R.Rows.Standing.rules g.R.Role.answers c.args.role.now c.args.now c.laws_hold.ensures
    (seen c.args.ledger.now) (seen c.compact.new.self) (request_view c.args.request.now) c.args.reply.now
    c.compact.result c.holds_records.ensures c.requires.wants c.requires.full c.compact.ensures.ok c.compact.ensures.key

pub returns-clause-made : goal.returns-clause-made
returns-clause-made g c = let e = c.compact.ensures in
    made_where g.R.Rows.Standing.rules (seen c.args.ledger.now).held c.args.now
    (g.D.Disk.shows c.args.disk.now).told (g.D.Disk.shows c.compact.new.disk).told c.compact.result
    (compaction_calls g.D.Disk.shows g.R.Rows.Standing.rules c.args.disk.now
    c.compact.new.disk c.args.now (seen c.args.ledger.now).held c.compact.result (λ is. (e.no_memory is).1) e.calls)

pub returns-clause-serves : goal.returns-clause-serves
returns-clause-serves g c = let old = seen c.args.ledger.now in
    let request = request_view c.args.request.now in
    let full = c.requires.full in
    let other = answer_of g.R.Role.replies g.R.Rows.Standing.rules g.R.Role.answers c.args.role.now c.args.now
    c.laws_hold.ensures old.held request c.args.reply.now full.r (record { wants = c.requires.wants; is = full.is }) in
    let new = seen c.compact.new.self in
    let e = c.compact.ensures in
    let Risen : Type 0 = Rose (g.D.Disk.shows c.args.disk.now).faults (g.D.Disk.shows c.compact.new.disk).faults in
    serves_unmade g.R.Rows.Standing.rules g.R.Role.answers old.held (provider c.args.role.now old)
    (provider c.args.role.now new) request c.args.now Risen c.compact.result other.0 full.r (g.D.Disk.shows
    c.args.disk.now).told (g.D.Disk.shows c.compact.new.disk).told other.1 full.none (compacts_found c.args.now c.compact.result
    (provider c.args.role.now old) (provider c.args.role.now new) c.requires.can.whole refl e.key e.ok e.failed (λ is.
    ap seen (e.no_memory is).0) e.not_foreign) e.faults.failed (compaction_calls g.D.Disk.shows g.R.Rows.Standing.rules
    c.args.disk.now c.compact.new.disk c.args.now old.held c.compact.result (λ is. (e.no_memory is).1) e.calls)

pub returns-clause-moments : goal.returns-clause-moments
returns-clause-moments g c = let old = seen c.args.ledger.now in
    let request = request_view c.args.request.now in
    let full = c.requires.full in
    let told = (g.D.Disk.shows c.args.disk.now).told in
    let other = answer_of g.R.Role.replies g.R.Rows.Standing.rules g.R.Role.answers c.args.role.now c.args.now
    c.laws_hold.ensures old.held request c.args.reply.now full.r (record { wants = c.requires.wants; is = full.is }) in
    weaker g.D.Disk.shows c.args.disk.now c.compact.new.disk
    (CompactingLeaves g.R.Rows.Standing.rules c.args.now old.held told) _ (compacting_leaves g.D.Disk.shows
    g.R.Rows.Standing.rules c.args.disk.now c.compact.new.disk c.args.now old.held c.compact.result
    c.compact.ensures.moments c.compact.ensures.calls) (room_leaves g.R.Rows.Standing.rules g.R.Role.answers
    c.args.role.now old.held request c.args.now told full.r other.0 other.1 full.none c.holds_records.ensures)
