use Rattle.provider_run.proofs.Headlines.{is_a_start}
use Rattle.idp_ledger.specs.Record.{idp_rules}
use Rattle.idp_server.specs.Step.{Answers}
use Rattle.idp_setup.specs.Setup.{IsSetUp}
use Rattle.idp_runs.specs.Headline.{address, key}
use Rattle.idp_runs.proofs.laws.a_run_is_a_start.Goals as goal

pub returns : goal.returns
returns c = is_a_start IsSetUp address key idp_rules Answers c.images_hold_records.ensures
