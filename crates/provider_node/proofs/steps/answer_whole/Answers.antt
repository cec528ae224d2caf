use Rattle.std.proofs.Common.{inl, refl}
use Rattle.crash_disk.specs.Steps.{started}
use Rattle.http_wire.specs.Views.{request_view}
use Rattle.provider_node.specs.Step.{Starved, seen}
use Rattle.provider_node.proofs.Serving.{first_leaves}
use Rattle.provider_node.proofs.steps.answer_whole.Goals as goal

pub returns-in-Ok-Plain-clause-moments : goal.returns-in-Ok-Plain-clause-moments
returns-in-Ok-Plain-clause-moments g c = let old = seen c.args.ledger.now in
    started g.D.Disk.shows c.args.disk.now _ (λ image left. first_leaves g.R.Rows.Standing.rules g.R.Role.answers
    c.args.role.now old (request_view c.args.request.now) c.args.now (g.D.Disk.shows c.args.disk.now).told
    c.requires.can.whole c.requires.can.own image (g.met.D.Disk.only_now c.args.disk.now image left))

pub returns-in-Err-NoMemory-clause-serves : goal.returns-in-Err-NoMemory-clause-serves
returns-in-Err-NoMemory-clause-serves g c = let old = seen c.args.ledger.now in
    record {
      serves = Starved old.held
          (inl refl) refl (record { setup = refl; key = refl; unbroken = c.requires.can.whole; is = refl });
      calls = refl;
    }

pub returns-in-Err-NoMemory-clause-moments : goal.returns-in-Err-NoMemory-clause-moments
returns-in-Err-NoMemory-clause-moments g c = let old = seen c.args.ledger.now in
    started g.D.Disk.shows c.args.disk.now _ (λ image left. first_leaves g.R.Rows.Standing.rules g.R.Role.answers
    c.args.role.now old (request_view c.args.request.now) c.args.now (g.D.Disk.shows c.args.disk.now).told
    c.requires.can.whole c.requires.can.own image (g.met.D.Disk.only_now c.args.disk.now image left))

pub returns-in-Err-Code-clause-moments : goal.returns-in-Err-Code-clause-moments
returns-in-Err-Code-clause-moments g c = let old = seen c.args.ledger.now in
    started g.D.Disk.shows c.args.disk.now _ (λ image left. first_leaves g.R.Rows.Standing.rules g.R.Role.answers
    c.args.role.now old (request_view c.args.request.now) c.args.now (g.D.Disk.shows c.args.disk.now).told
    c.requires.can.whole c.requires.can.own image (g.met.D.Disk.only_now c.args.disk.now image left))
