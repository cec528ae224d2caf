use Rattle.std.proofs.Common.{ℕ, sym, subst}
use Rattle.crash_disk.specs.Counts.{Rose}
use Rattle.crash_disk.specs.Steps.{then}
use Rattle.http_wire.specs.Views.{request_view}
use Rattle.http_wire.specs.declared.answer.Answer.TheVariants.{Fixed}
use Rattle.provider_node.specs.Replies.{IsPage}
use Rattle.provider_node.specs.Step.{ServesOnDisk, provider, seen}
use Rattle.provider_node.proofs.Replying.{again_leaves, full_again, not_nothing, serves_again, starved_again}
use Rattle.provider_node.proofs.Serving.{adds_more, rose_later}
use Rattle.provider_node.proofs.steps.serve_again.Goals as goal

pub returns-in-Err-clause-serves : goal.returns-in-Err-clause-serves
returns-in-Err-clause-serves g c = let old = seen c.args.ledger.now in
    let new = seen c.make_room.new.ledger in
    let Risen : Type 0 = Rose (g.D.Disk.shows c.args.disk.now).faults (g.D.Disk.shows c.make_room.new.disk).faults in
    subst (λ (code : ℕ). ServesOnDisk g.R.Rows.Standing.rules g.R.Role.answers
    old.held (request_view c.args.request.now) c.args.now Risen (Fixed code) (provider c.args.role.now old)
    (provider c.args.role.now new) (g.D.Disk.shows c.args.disk.now).told (g.D.Disk.shows c.make_room.new.disk).told)
    (sym c.code_of.ensures) c.in-Err.ensures.serves

pub draft-requires-clause-wanted : goal.draft-requires-clause-wanted
draft-requires-clause-wanted g c = (request_view c.args.request.now, c.in_default.ensures.again.wants)

pub unreachable-requires : goal.unreachable-requires
unreachable-requires g c = let old = seen c.args.ledger.now in
    let anew = seen c.make_room.new.ledger in
    let mid = seen c.draft.new.ledger in
    let request = request_view c.args.request.now in
    not_nothing g.R.Role.replies g.R.Rows.Standing.rules g.R.Role.answers c.args.role.now c.args.now
    c.laws_hold.ensures old anew request c.args.reply.now c.in_default.ensures.again c.in-Nothing.ensures.drafts

pub added-requires-clause-wanted : goal.added-requires-clause-wanted
added-requires-clause-wanted g c = let anew = seen c.make_room.new.ledger in
    record {
      held = anew.held;
      request = request_view c.args.request.now;
      wants = c.in_default.ensures.again.wants;
      is = c.in-Ready.ensures.drafts.0;
    }

pub returns-in-Ready-clause-serves : goal.returns-in-Ready-clause-serves
returns-in-Ready-clause-serves g c = let old = seen c.args.ledger.now in
    let anew = seen c.make_room.new.ledger in
    let mid = seen c.draft.new.ledger in
    let request = request_view c.args.request.now in
    let new = seen c.added.new.ledger in
    let r = c.in-Ready.draft in
    let of = c.in-Ready.ensures.drafts in
    serves_again g.R.Role.replies g.R.Rows.Standing.rules g.R.Role.answers
    c.args.role.now c.args.now c.laws_hold.ensures old anew mid new request _ c.added.result c.args.reply.now r
    (g.D.Disk.shows c.args.disk.now).told (g.D.Disk.shows c.make_room.new.disk).told
    (g.D.Disk.shows c.added.new.disk).told c.in_default.ensures.again c.in_default.ensures.made c.draft.ensures.same
    of.0 of.2 (adds_more g.R.Rows.Standing.rules (IsPage g.R.Role.replies c.args.role.now c.args.reply.now r c.args.now)
    r _ _ c.added.result (provider c.args.role.now mid)
    (provider c.args.role.now new) (g.D.Disk.shows c.make_room.new.disk).told (g.D.Disk.shows c.added.new.disk).told
    (rose_later (g.D.Disk.shows c.args.disk.now).faults (g.D.Disk.shows c.make_room.new.disk).faults
    (g.D.Disk.shows c.added.new.disk).faults c.make_room.ensures.faults.never_falls) c.added.ensures.adds)

pub returns-in-Ready-clause-moments : goal.returns-in-Ready-clause-moments
returns-in-Ready-clause-moments g c = let old = seen c.args.ledger.now in
    let anew = seen c.make_room.new.ledger in
    let mid = seen c.draft.new.ledger in
    let request = request_view c.args.request.now in
    let of = c.in-Ready.ensures.drafts in
    then g.D.Disk.shows c.args.disk.now c.make_room.new.disk c.added.new.disk
    _ _ _ c.make_room.ensures.moments c.added.ensures.moments (λ image left. left) (again_leaves g.R.Role.replies
    g.R.Rows.Standing.rules g.R.Role.answers c.args.role.now c.args.now c.laws_hold.ensures old anew mid request
    c.args.reply.now c.in-Ready.draft (g.D.Disk.shows c.args.disk.now).told (g.D.Disk.shows c.make_room.new.disk).told
    c.in_default.ensures.again c.in_default.ensures.made c.draft.ensures.same of.0 of.2)

pub returns-in-NoPlace-clause-serves : goal.returns-in-NoPlace-clause-serves
returns-in-NoPlace-clause-serves g c = let old = seen c.args.ledger.now in
    let anew = seen c.make_room.new.ledger in
    let mid = seen c.draft.new.ledger in
    let request = request_view c.args.request.now in
    full_again g.R.Role.replies g.R.Rows.Standing.rules
    g.R.Role.answers c.args.role.now c.args.now c.laws_hold.ensures old anew mid request _ c.args.reply.now
    (g.D.Disk.shows c.args.disk.now).told (g.D.Disk.shows c.make_room.new.disk).told
    c.in_default.ensures.again c.in_default.ensures.made c.draft.ensures.same c.in-NoPlace.ensures.drafts

pub returns-in-NoMemory-clause-serves : goal.returns-in-NoMemory-clause-serves
returns-in-NoMemory-clause-serves g c = let old = seen c.args.ledger.now in
    let anew = seen c.make_room.new.ledger in
    let mid = seen c.draft.new.ledger in
    let request = request_view c.args.request.now in
    starved_again g.R.Role.replies g.R.Rows.Standing.rules g.R.Role.answers c.args.role.now
    c.args.now c.laws_hold.ensures old anew mid request _ c.args.reply.now (g.D.Disk.shows c.args.disk.now).told
    (g.D.Disk.shows c.make_room.new.disk).told c.in_default.ensures.again c.in_default.ensures.made c.draft.ensures.same
