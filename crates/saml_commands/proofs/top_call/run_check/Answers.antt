use Rattle.saml_commands.specs.Running.{Check, OfCommand}
use Rattle.saml_commands.specs.Serving.{Unserved}
use Rattle.saml_commands.proofs.Answering.{with_answer}
use Rattle.saml_commands.proofs.top_call.run_check.Goals as goal

pub returns-in-Ok-clause-ends : goal.returns-in-Ok-clause-ends
returns-in-Ok-clause-ends g c =
    with_answer (OfCommand (g.F.Files.holds c.args.files.now) Unserved (Check c.args.config.now c.args.body.now c.args.now))
    (g.K.Sink.taken c.args.out.now) (g.K.Sink.taken c.print.new.out) c.print.result c.in-Ok.answer c.in-Ok.ensures.ok c.print.ensures.ends
