use Rattle.std.specs.Prelude.{None}
use Rattle.std.proofs.Common.{ℕ, inl, refl, sym, subst, ap, ◌∙◌}
use Rattle.crash_disk.specs.Counts.{Rose}
use Rattle.crash_disk.specs.Steps.{started, weaker}
use Rattle.http_wire.specs.Views.{request_view}
use Rattle.http_wire.specs.declared.answer.Answer.TheVariants.{Fixed}
use Rattle.verdict_codes.specs.Codes.{number_of}
use Rattle.provider_node.specs.Replies.{HasNoPlace}
use Rattle.provider_node.specs.Step.{Ledger, Plain, ServesOnDisk, Starved, provider, seen}
use Rattle.provider_node.proofs.Replying.{reply_leaves, serves_reply, same_ledger}
use Rattle.provider_node.proofs.Serving.{first_leaves}
use Rattle.provider_node.proofs.steps.serve.Goals as goal

pub returns-in-Ready-clause-serves : goal.returns-in-Ready-clause-serves
returns-in-Ready-clause-serves g c = let old = seen c.args.ledger.now in
    let of = c.in-Ready.ensures.drafts in
    serves_reply g.R.Role.replies g.R.Rows.Standing.rules g.R.Role.answers c.args.role.now c.args.now
    c.laws_hold.ensures old (seen c.draft.new.ledger) (seen c.added.new.ledger) (request_view c.args.request.now)
    (Rose (g.D.Disk.shows c.args.disk.now).faults (g.D.Disk.shows c.added.new.disk).faults) c.added.result
    c.args.reply.now c.in-Ready.draft (g.D.Disk.shows c.args.disk.now).told (g.D.Disk.shows c.added.new.disk).told
    c.draft.ensures.same (record { wants = c.requires.wants; is = of.0 }) of.2 c.added.ensures.adds

pub returns-in-Ready-clause-moments : goal.returns-in-Ready-clause-moments
returns-in-Ready-clause-moments g c = let old = seen c.args.ledger.now in
    let of = c.in-Ready.ensures.drafts in
    weaker g.D.Disk.shows c.args.disk.now c.added.new.disk _ _ c.added.ensures.moments (reply_leaves g.R.Role.replies
    g.R.Rows.Standing.rules g.R.Role.answers c.args.role.now c.args.now c.laws_hold.ensures
    old (seen c.draft.new.ledger) (request_view c.args.request.now) c.args.reply.now c.in-Ready.draft
    (g.D.Disk.shows c.args.disk.now).told c.draft.ensures.same (record { wants = c.requires.wants; is = of.0 }) of.2)

pub returns-in-Nothing-clause-serves : goal.returns-in-Nothing-clause-serves
returns-in-Nothing-clause-serves g c = let old = seen c.args.ledger.now in
    let of = c.in-Nothing.ensures.drafts in
    record {
      serves = Plain (subst (λ (code : ℕ). g.R.Role.answers c.args.role.now old.held (request_view c.args.request.now)
          c.args.now (Fixed code) None) (sym (c.number.ensures ∙ ap number_of c.refusal.ensures))
          (c.laws_hold.ensures.refused old.held (request_view c.args.request.now) c.args.reply.now
          c.requires.wants of)) (same_ledger c.args.role.now old _ c.requires.can.whole c.draft.ensures.same);
      calls = refl;
    }

pub returns-in-Nothing-clause-moments : goal.returns-in-Nothing-clause-moments
returns-in-Nothing-clause-moments g c = let old = seen c.args.ledger.now in
    started g.D.Disk.shows c.args.disk.now _ (λ image left. first_leaves g.R.Rows.Standing.rules g.R.Role.answers
    c.args.role.now old (request_view c.args.request.now) c.args.now (g.D.Disk.shows c.args.disk.now).told
    c.requires.can.whole c.requires.can.own image (g.met.D.Disk.only_now c.args.disk.now image left))

pub returns-in-NoMemory-clause-serves : goal.returns-in-NoMemory-clause-serves
returns-in-NoMemory-clause-serves g c = let old = seen c.args.ledger.now in
    record {
      serves = Starved old.held
          (inl refl) refl (same_ledger c.args.role.now old _ c.requires.can.whole c.draft.ensures.same);
      calls = refl;
    }

pub returns-in-NoMemory-clause-moments : goal.returns-in-NoMemory-clause-moments
returns-in-NoMemory-clause-moments g c = let old = seen c.args.ledger.now in
    started g.D.Disk.shows c.args.disk.now _ (λ image left. first_leaves g.R.Rows.Standing.rules g.R.Role.answers
    c.args.role.now old (request_view c.args.request.now) c.args.now (g.D.Disk.shows c.args.disk.now).told
    c.requires.can.whole c.requires.can.own image (g.met.D.Disk.only_now c.args.disk.now image left))

pub serve_again-requires-clause-full : goal.serve_again-requires-clause-full
serve_again-requires-clause-full g c = subst (λ (l : Ledger g.row.R-Rows-Record.Denot). HasNoPlace
    g.R.Rows.Standing.rules l.held (g.R.Role.replies.record_for c.args.role.now l.held c.args.now c.args.reply.now))
    (sym c.draft.ensures.same) c.in-NoPlace.ensures.drafts

pub returns-in-NoPlace-clause-serves : goal.returns-in-NoPlace-clause-serves
returns-in-NoPlace-clause-serves g c = subst (λ (l : Ledger g.row.R-Rows-Record.Denot). ServesOnDisk
    g.R.Rows.Standing.rules g.R.Role.answers l.held (request_view c.args.request.now) c.args.now (Rose (g.D.Disk.shows
    c.args.disk.now).faults (g.D.Disk.shows c.serve_again.new.disk).faults) c.serve_again.result (provider
    c.args.role.now l) (provider c.args.role.now (seen c.serve_again.new.ledger)) (g.D.Disk.shows c.args.disk.now).told
    (g.D.Disk.shows c.serve_again.new.disk).told) c.draft.ensures.same c.serve_again.ensures.serves
