use Rattle.saml_commands.specs.Running.{Vouch, OfCommand}
use Rattle.saml_commands.specs.Serving.{Unserved}
use Rattle.saml_commands.proofs.Answering.{with_answer}
use Rattle.saml_commands.proofs.top_call.run_vouch.Goals as goal

pub returns-in-Ok-clause-ends : goal.returns-in-Ok-clause-ends
returns-in-Ok-clause-ends g c =
    with_answer (OfCommand (g.F.Files.holds c.args.files.now) Unserved (Vouch c.args.file.now c.args.id.now c.args.key_file.now))
    (g.K.Sink.taken c.args.out.now) (g.K.Sink.taken c.print.new.out) c.print.result c.in-Ok.answer c.in-Ok.ensures.ok c.print.ensures.ends
