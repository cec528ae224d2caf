use Rattle.std.proofs.Common.{Ok, Err, refl}
use Rattle.saml_commands.specs.Serving.{RanProvider}
use Rattle.saml_commands.proofs.Serving.{nothing_printed}
use Rattle.saml_commands.proofs.serve.run_provider.Goals as goal

pub returns-in-Ok-clause-ends : goal.returns-in-Ok-clause-ends
returns-in-Ok-clause-ends g c =
    let (turns, runs, headline, leaves) = c.in-Ok.ensures.runs in (
      RanProvider c.args.role turns (Ok c.in-Ok.ended),
      (refl, runs),
      headline,
      (c.print_ended.ensures.no_read_fault, c.print_ended.ensures.ends),
      leaves,
    )

pub returns-in-Err-clause-ends : goal.returns-in-Err-clause-ends
returns-in-Err-clause-ends g c =
    let (turns, runs, headline, leaves) = c.in-Err.ensures.runs in (
      RanProvider c.args.role turns (Err c.in-Err.fault),
      (refl, runs),
      headline,
      (c.status_of_fault.ensures, nothing_printed (g.K.Sink.taken c.args.out.now)),
      leaves,
    )
