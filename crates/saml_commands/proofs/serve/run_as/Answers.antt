use Rattle.std.proofs.Common.{subst, sym}
use Rattle.provider_run.specs.Runs.{outside}
use Rattle.saml_commands.proofs.Roles.{CompletesAs, GoesAs}
use Rattle.saml_commands.proofs.serve.run_as.Goals as goal

pub returns-in-Sp-clause-runs : goal.returns-in-Sp-clause-runs
returns-in-Sp-clause-runs g c =
    let before = outside (g.D.Disk.shows c.args.disk.now) (g.L.Link.shows c.args.link.now) (g.C.Clock.to_come c.args.clock.now) in
    let after = outside (g.D.Disk.shows c.run.new.disk) (g.L.Link.shows c.run.new.link) (g.C.Clock.to_come c.run.new.clock) in
    subst
    (GoesAs g.D.Disk.shows c.args.disk.now c.run.new.disk (g.F.Files.holds c.args.files.now) c.args.config.now c.args.events before
    c.run.result after)
    (sym c.in-Sp.is) c.run.ensures.runs

pub returns-in-Sp-clause-complete : goal.returns-in-Sp-clause-complete
returns-in-Sp-clause-complete g c =
    subst (CompletesAs (g.F.Files.holds c.args.files.now) c.args.config.now (g.D.Disk.shows c.args.disk.now).told _) (sym c.in-Sp.is)
    c.run.ensures.complete

pub returns-in-Idp-clause-runs : goal.returns-in-Idp-clause-runs
returns-in-Idp-clause-runs g c =
    let before = outside (g.D.Disk.shows c.args.disk.now) (g.L.Link.shows c.args.link.now) (g.C.Clock.to_come c.args.clock.now) in
    let after = outside (g.D.Disk.shows c.run-in-Idp.new.disk) (g.L.Link.shows c.run-in-Idp.new.link) (g.C.Clock.to_come c.run-in-Idp.new.clock) in
    subst
    (GoesAs g.D.Disk.shows c.args.disk.now c.run-in-Idp.new.disk (g.F.Files.holds c.args.files.now) c.args.config.now c.args.events before
    c.run-in-Idp.result after)
    (sym c.in-Idp.is) c.run-in-Idp.ensures.runs

pub returns-in-Idp-clause-complete : goal.returns-in-Idp-clause-complete
returns-in-Idp-clause-complete g c =
    subst (CompletesAs (g.F.Files.holds c.args.files.now) c.args.config.now (g.D.Disk.shows c.args.disk.now).told _) (sym c.in-Idp.is)
    c.run-in-Idp.ensures.complete

pub returns-in-Hub-clause-runs : goal.returns-in-Hub-clause-runs
returns-in-Hub-clause-runs g c =
    let before = outside (g.D.Disk.shows c.args.disk.now) (g.L.Link.shows c.args.link.now) (g.C.Clock.to_come c.args.clock.now) in
    let after = outside (g.D.Disk.shows c.run-in-Hub.new.disk) (g.L.Link.shows c.run-in-Hub.new.link) (g.C.Clock.to_come c.run-in-Hub.new.clock) in
    subst
    (GoesAs g.D.Disk.shows c.args.disk.now c.run-in-Hub.new.disk (g.F.Files.holds c.args.files.now) c.args.config.now c.args.events before
    c.run-in-Hub.result after)
    (sym c.in-Hub.is) c.run-in-Hub.ensures.runs

pub returns-in-Hub-clause-complete : goal.returns-in-Hub-clause-complete
returns-in-Hub-clause-complete g c =
    subst (CompletesAs (g.F.Files.holds c.args.files.now) c.args.config.now (g.D.Disk.shows c.args.disk.now).told _) (sym c.in-Hub.is)
    c.run-in-Hub.ensures.complete
