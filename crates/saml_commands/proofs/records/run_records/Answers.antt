use Rattle.std.proofs.Common.{sym, subst}
use Rattle.saml_commands.specs.Records.{OfRecords}
use Rattle.saml_commands.specs.Running.{EndsWith}
use Rattle.saml_commands.specs.declared.command.Role.{Role}
use Rattle.saml_commands.proofs.records.run_records.Goals as goal

pub returns-in-Sp-clause-ends : goal.returns-in-Sp-clause-ends
returns-in-Sp-clause-ends g c =
    subst (λ (role : Role). EndsWith (OfRecords role (g.F.Files.holds c.args.files.now)) (g.K.Sink.taken c.args.out.now)
    (g.K.Sink.taken c.run_first.new.out) c.run_first.result) (sym c.in-Sp.is) c.run_first.ensures.ends

pub returns-in-Idp-clause-ends : goal.returns-in-Idp-clause-ends
returns-in-Idp-clause-ends g c =
    subst (λ (role : Role). EndsWith (OfRecords role (g.F.Files.holds c.args.files.now)) (g.K.Sink.taken c.args.out.now)
    (g.K.Sink.taken c.run_first-in-Idp.new.out) c.run_first-in-Idp.result) (sym c.in-Idp.is)
    c.run_first-in-Idp.ensures.ends

pub returns-in-Hub-clause-ends : goal.returns-in-Hub-clause-ends
returns-in-Hub-clause-ends g c =
    subst (λ (role : Role). EndsWith (OfRecords role (g.F.Files.holds c.args.files.now)) (g.K.Sink.taken c.args.out.now)
    (g.K.Sink.taken c.run_first-in-Hub.new.out) c.run_first-in-Hub.result) (sym c.in-Hub.is)
    c.run_first-in-Hub.ensures.ends
