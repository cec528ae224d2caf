use Rattle.provider_run.proofs.Headlines.{is_a_start}
use Rattle.hub_ledger.specs.Record.{hub_rules}
use Rattle.identity_hub.specs.Step.{Answers}
use Rattle.hub_setup.specs.Setup.{IsSetUp}
use Rattle.hub_runs.specs.Headline.{address, key}
use Rattle.hub_runs.proofs.laws.a_run_is_a_start.Goals as goal

pub returns : goal.returns
returns c = is_a_start IsSetUp address key hub_rules Answers c.images_hold_records.ensures
