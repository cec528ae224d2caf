use Rattle.std.proofs.Common.{refl}
use Rattle.saml_commands.specs.Serving.{RanReplay}
use Rattle.saml_commands.proofs.replay.replay_steps.Goals as goal

pub returns-clause-goes : goal.returns-clause-goes
returns-clause-goes g c =
    let (sp_starts, idp_starts, goes, carries) = c.replay_deployed.ensures.goes in (
      RanReplay c.args.schedule.now c.args.quiet sp_starts idp_starts c.replay_deployed.result,
      (refl, refl, carries),
      (c.status_of.ensures, goes),
    )
